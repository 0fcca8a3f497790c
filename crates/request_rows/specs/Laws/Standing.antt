-- What the parts of the memory stand for in the model: phases, names, other live rows, another row; and their bounds. Assumes nothing.
use Rattle.std.specs.Prelude.{ℕ, ◌+◌, ◌/◌, ◌%◌, ◌^◌, ◌<◌, ◌≤◌, min, ◌≡◌, refl, Bool, true, false, not, ◌&&◌, ltb, length, get_or, set}
use Rattle.std.proofs.Math.Path.{sym, ap}
use Rattle.std.proofs.Common.{◌∙◌, arith, length-set, get_or-set_same, ne_eqb}
use mathlib.Core.List.{List, [], ◌∷◌, ◌++◌, map, map-map, map-append}
use Rattle.std.proofs.Math.Dec.{eqb}
use Rattle.std.proofs.Math.ListN.{length-take, length-map}
use Rattle.std.proofs.Math.Seq.{take-set-lt, map-set_same}
use Rattle.base.specs.Choice.{pick}
use Rattle.base.specs.Lists.{keep, any, all, has, once, cut_at}
use Rattle.base.specs.Laws.Tests.{and_i, pick_map}
use Rattle.base.specs.Laws.Keep.{all_append, all_keep, all_set, all_get_d}
use Rattle.base.specs.Laws.Maps.{any_map, map_swap}
use Rattle.base.specs.Laws.Counting.{once_snoc, once_keep}
use Rattle.base.specs.Laws.Cut.{length_cut}
use Rattle.base.specs.Laws.Over.{take_over, length_over}
use Rattle.base.specs.Laws.Index.{cut_by_name, set_by_name}
use Rattle.model.specs.Limits.{sized}
use Rattle.model.specs.Interval as model
use Rattle.model.proofs.Laws.SoundInterval.{view}
use Rattle.request_rows.specs.declared.Phase.{Phase}
use Rattle.request_rows.specs.declared.Phase.TheVariants.{Waiting, Expired, Active}
use Rattle.request_rows.specs.Rows.{Row, no_row, phase_of, phase_word, is_expired, is_active, not_taken, in_phase, slot_of, named}
use Rattle.request_rows.specs.Table.{Requests, register_of, live, with_live, with_row, with_register}
use Rattle.request_rows.specs.Active.{task}
use Rattle.request_rows.specs.Start.{kept}
use Rattle.request_rows.specs.Stands.{Memory, with_requests, with_kept, limits_of, phase_at, request_at, interval_at, Fine}
use Rattle.request_rows.specs.Laws.Ties.{short, inside, Laid, Small, small, sound_here, Stays}

-- ---- phases

-- a due tick is on the register's circle
abbrev pub OnCircle : Phase → Type 0
OnCircle (Waiting d) = d < 2 ^ 32
OnCircle Expired = Unit {0}
OnCircle (Active t) = Unit {0}

pub phase_again : (p : Phase) → OnCircle p → phase_of (phase_word p) ≡ p
unfolding phase_of
phase_again (Waiting d) h =
    let e : (4294967296 + d) % 4294967296 ≡ d = omega arith in
    rw (ne_eqb (4294967296 + d) 0 (λ z. omega arith), ne_eqb (4294967296 + d) 1 (λ z. omega arith), ne_eqb (4294967296 + d) 2 (λ z. omega arith), e)
phase_again Expired h = refl
phase_again (Active true) h = refl
phase_again (Active false) h = refl

module _ (c register : ℕ) where
  pub active_at : (p : Phase) → model.is_active (phase_at c register p) ≡ is_active p
  active_at (Waiting d) = refl
  active_at Expired = refl
  active_at (Active t) = refl

  pub expired_at : (p : Phase) → model.is_expired (phase_at c register p) ≡ is_expired p
  expired_at (Waiting d) = refl
  expired_at Expired = refl
  expired_at (Active t) = refl

  pub taken_at : (p : Phase) → model.not_taken (phase_at c register p) ≡ not_taken p
  taken_at (Waiting d) = refl
  taken_at Expired = refl
  taken_at (Active t) = refl

  -- a row in another phase
  pub phased : (area : List ℕ) (p : Phase) → OnCircle p → (q : Row)
      → request_at c register area (in_phase p q) ≡ model.in_phase (phase_at c register p) (request_at c register area q)
  phased area p h q = rw (phase_again p h)

-- ---- names

abbrev pub name_of : Row → ℕ
name_of q = q.name

-- how a row is read
abbrev pub read_at : ℕ → Memory → Row → model.Request
read_at c m = request_at c (register_of m.requests) m.area

module _ (c : ℕ) (m : Memory) where
  pub known_at : (n : ℕ) → model.known_request (interval_at c m).requests n ≡ any (named n) (live m.requests)
  unfolding interval_at
  known_at n = any_map (read_at c m) (named n) (λ (q : model.Request). eqb q.name n) (λ q. refl) (live m.requests)

  pub task_at : (n : ℕ) → model.active_task (interval_at c m) n ≡ any (task n) (live m.requests)
  unfolding interval_at
  task_at n =
      any_map (read_at c m) (task n) (λ (q : model.Request). model.active q && eqb q.name n)
      (λ q. ap (λ (b : Bool). b && eqb q.name n) (active_at c (register_of m.requests) (phase_of q.phase))) (live m.requests)

  pub count_at : length (interval_at c m).requests ≡ length (live m.requests)
  unfolding interval_at
  count_at = length-map (live m.requests) (read_at c m)

  -- ---- other live rows
  pub live_at : (l : List Row) → interval_at c (with_requests m (with_live m.requests l)) ≡ model.with_requests (interval_at c m) (map (read_at c m) l)
  unfolding interval_at
  live_at l = rw (take_over l m.requests.rows)

  pub row_at_lem : (i : ℕ) (q : Row) → i < m.requests.count
      → interval_at c (with_requests m (with_row m.requests i q)) ≡ model.with_requests (interval_at c m) (map (read_at c m) (set (live m.requests) i q))
  unfolding interval_at
  row_at_lem i q h = rw (take-set-lt m.requests.count m.requests.rows i q h)

  -- ---- a request in another phase
  pub turn_at : (n : ℕ) (b : Bool) (l : List Row)
      → model.at_request n (model.in_phase (model.Active b)) (map (read_at c m) l)
      ≡ map (read_at c m) (map (λ (q : Row). pick (eqb q.name n) (in_phase (Active b) q) q) l)
  turn_at n b l =
      map_swap (read_at c m) (λ (q : Row). pick (eqb q.name n) (in_phase (Active b) q) q)
      (λ (q : model.Request). pick (eqb q.name n) (model.in_phase (model.Active b) q) q)
      (λ q.
      ap (λ (x : model.Request). pick (eqb q.name n) x (read_at c m q)) (sym (phased c (register_of m.requests) m.area (Active b) tt q))
      ∙ sym (pick_map (read_at c m) (eqb q.name n) (in_phase (Active b) q) q)) l

  module _ (f : Fine c m) where
    pub names_once : once (map name_of (live m.requests)) ≡ true
    unfolding interval_at
    names_once =
        let o = (view {L = limits_of m} {i = interval_at c m} (sound_here m c f)).requests.unique in
        sym (ap once (map-map (λ (q : model.Request). q.name) (read_at c m) (live m.requests))) ∙ o

    -- at its place, where its name is the only one
    pub turned : (i : ℕ) (b : Bool) → i < length (live m.requests)
        → interval_at c (with_requests m (with_row m.requests i (in_phase (Active b) (get_or (live m.requests) i no_row))))
        ≡ model.with_requests (interval_at c m) (model.at_request (get_or (live m.requests) i no_row).name (model.in_phase (model.Active b)) (interval_at c m).requests)
    unfolding interval_at
    turned i b h =
        let t : Requests = m.requests in
        let k : i < m.requests.count = omega (arith, length-take t.count t.rows) in
        row_at_lem i (in_phase (Active b) (get_or (live t) i no_row)) k
        ∙ ap (λ (l : List Row). model.with_requests (interval_at c m) (map (read_at c m) l)) (set_by_name name_of (in_phase (Active b)) (live t) i no_row names_once h)
        ∙ ap (model.with_requests (interval_at c m)) (sym (turn_at (get_or (live t) i no_row).name b (live t)))

-- ---- rows that are laid out

module _ (area : List ℕ) (l : List Row) (h : Laid area l) where
  pub laid_keep : (p : Row → Bool) → Laid area (keep p l)
  laid_keep p = record {
    shorts = all_keep short p l h.shorts;
    insides = all_keep (inside area) p l h.insides;
    apart = once_keep slot_of p l h.apart;
  }

  -- a slot is a name: what is cut out is what its slot says
  pub laid_cut : (i : ℕ) → i < length l → Laid area (cut_at i l)
  laid_cut i b = rw (cut_by_name slot_of l i no_row h.apart b) (laid_keep (λ q. not (eqb (slot_of q) (slot_of (get_or l i no_row)))))

  pub laid_phase : (i : ℕ) (p : Phase) → i < length l → Laid area (set l i (in_phase p (get_or l i no_row)))
  laid_phase i p b = record {
    shorts = all_set short l i (in_phase p (get_or l i no_row)) h.shorts (all_get_d short l i no_row h.shorts b);
    insides = all_set (inside area) l i (in_phase p (get_or l i no_row)) h.insides (all_get_d (inside area) l i no_row h.insides b);
    apart = ap once (map-set_same slot_of l i (in_phase p (get_or l i no_row)) no_row refl) ∙ h.apart;
  }

  -- one more, in a slot that no other has
  pub laid_longer : (q : Row) → short q ≡ true → inside area q ≡ true → has (slot_of q) (map slot_of l) ≡ false → Laid area (l ++ (q ∷ []))
  laid_longer q s i n = record {
    shorts = all_append short l (q ∷ []) ∙ and_i h.shorts (and_i s refl);
    insides = all_append (inside area) l (q ∷ []) ∙ and_i h.insides (and_i i refl);
    apart = ap once (map-append slot_of l (q ∷ [])) ∙ once_snoc (slot_of q) (map slot_of l) n h.apart;
  }

  -- over other bytes, as many
  pub laid_over : (b : List ℕ) → length b ≡ length area → Laid b l
  laid_over b e = record {
    shorts = h.shorts;
    insides = ap (λ (n : ℕ). all (λ (q : Row). ltb (slot_of q) (min (n / 64) 128)) l) e ∙ h.insides;
    apart = h.apart;
  }

-- ---- memory that stays laid out

pub live_few : (t : Requests) → length (live t) ≤ length t.rows
live_few t = omega (arith, length-take t.count t.rows)

module _ (c : ℕ) (m : Memory) (f : Fine c m) where
  bounds : Small m
  bounds = small m f.soundly

  -- other requests, with as many rows
  pub requests_stay : (t : Requests) → t.register ≡ m.requests.register → length t.rows ≡ length m.requests.rows → t.count ≤ length t.rows
      → Laid m.area (live t) → Stays c m (with_requests m t)
  requests_stay t r e n h = record {
    limits = rw e;
    means = rw r f.means;
    small = record { programs = bounds.programs; terminals = bounds.terminals; requests = n; register = rw r bounds.register; laid = h };
  }

  pub live_stays : (l : List Row) → length l ≤ length m.requests.rows → Laid m.area l → Stays c m (with_requests m (with_live m.requests l))
  live_stays l n h =
      let e = length_over l m.requests.rows n in
      requests_stay (with_live m.requests l) refl e (omega arith) (rw (take_over l m.requests.rows) h)

  pub cut_stays : (i : ℕ) → i < length (live m.requests) → Stays c m (with_requests m (with_live m.requests (cut_at i (live m.requests))))
  cut_stays i b =
      live_stays (cut_at i (live m.requests)) (omega (arith, live_few m.requests, length_cut i (live m.requests) b))
      (laid_cut m.area (live m.requests) bounds.laid i b)

  -- a live row in another phase
  pub turned_stays : (i : ℕ) (p : Phase) → i < length (live m.requests)
      → Stays c m (with_requests m (with_row m.requests i (in_phase p (get_or (live m.requests) i no_row))))
  turned_stays i p b =
      let t : Requests = m.requests in
      let q : Row = in_phase p (get_or (live m.requests) i no_row) in
      let k : i < m.requests.count = omega (arith, length-take t.count t.rows) in
      let e = length-set t.rows i q in
      requests_stay (with_row t i q) refl e (let n = bounds.requests in omega arith)
      (rw (take-set-lt t.count t.rows i q k) (laid_phase m.area (live t) bounds.laid i p b))

-- another register, and a clock that it can mean
pub register_stays : (c c' : ℕ) (m : Memory) (t : Requests) (r : ℕ) → r % 2 ^ 32 ≡ c' % 2 ^ 32
    → Stays c m (with_requests m t) → Stays c' m (with_requests m (with_register t r))
register_stays c c' m t r e h =
    let s = h.small in
    let n = s.register in
    record {
      limits = h.limits;
      means = rw (get_or-set_same t.register 0 r 0 (omega arith)) e;
      small = record {
        programs = s.programs;
        terminals = s.terminals;
        requests = s.requests;
        register = length-set t.register 0 r ∙ n;
        laid = s.laid;
      };
    }

-- other bytes for the data, as many
pub area_stays : (c : ℕ) (m : Memory) (t : Requests) (b : List ℕ) → length b ≡ length m.area
    → Stays c m (with_requests m t) → Stays c m (with_kept m (kept t b))
area_stays c m t b e h = record {
  limits = ap (λ (n : ℕ). sized (length m.programs.places) (length m.terminals.places) (min (length t.rows) (min (n / 64) 128)) 0 0) e ∙ h.limits;
  means = h.means;
  small =
      let s = h.small in
      record { programs = s.programs; terminals = s.terminals; requests = s.requests; register = s.register; laid = laid_over m.area (live t) s.laid b e };
}
