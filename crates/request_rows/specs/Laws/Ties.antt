-- What soundness asks of the memory itself; and an operation whose state is the model's leaves sound memory where the model does.
-- Assumes nothing.
use Rattle.std.specs.Prelude.{ℕ, ◌≤◌, ◌≡◌, refl, Bool, true, List, map, leb, ltb, length}
use Rattle.std.proofs.Common.{sym, ap, ◌∙◌, leb-true, le-leb, eqb-true, eq-eqb}
use Rattle.base.specs.Lists.{all, once}
use Rattle.base.specs.Laws.Tests.{both, and_r, and_i}
use Rattle.model.specs.Limits.{Limits}
use Rattle.model.specs.Plans.{Check, Outcome, Plan, first_of, obey, outcome_in, Follows}
use Rattle.model.specs.Interval as model
use Rattle.model.specs.Laws.PlanLaws.{obey_keeps, Clear, gives_some}
use Rattle.request_rows.specs.Rows.{Row, len_of, slot_of}
use Rattle.request_rows.specs.Table.{live, slots_in}
use Rattle.request_rows.specs.Laws.Clock.{sound_at}
use Rattle.request_rows.specs.Laws.Plans.{checked, clear_first, part_follows}
use Rattle.request_rows.specs.Stands.{Memory, limits_of, interval_at, Means, laid_out, sound_r, Fine}

-- ---- what the layout adds

abbrev pub short : Row → Bool
short q = leb (len_of q) 64

abbrev pub inside : List ℕ → Row → Bool
inside area q = ltb (slot_of q) (slots_in area)

-- of rows over lent bytes: no data past a slot, and each has a slot of its own
pub record Laid (area : List ℕ) (l : List Row) : Type 0 where
  pub shorts : all short l ≡ true
  pub insides : all (inside area) l ≡ true
  pub apart : once (map slot_of l) ≡ true

pub record Small (m : Memory) : Type 0 where
  pub programs : m.programs.count ≤ length m.programs.places
  pub terminals : m.terminals.count ≤ length m.terminals.places
  pub requests : m.requests.count ≤ length m.requests.rows
  pub register : length m.requests.register ≡ 1
  pub laid : Laid m.area (live m.requests)

module _ (m : Memory) where
  unlaid : laid_out m ≡ true → Small m
  unlaid s =
      let p6 = both _ _ s in
      let p5 = both _ _ p6.0 in
      let p4 = both _ _ p5.0 in
      let p3 = both _ _ p4.0 in
      let p2 = both _ _ p3.0 in
      let p1 = both _ _ p2.0 in
      record {
        programs = leb-true _ _ p1.0;
        terminals = leb-true _ _ p1.1;
        requests = leb-true _ _ p3.1;
        register = eqb-true _ _ p2.1;
        laid = record { shorts = p4.1; insides = p5.1; apart = p6.1 };
      }

  laid_out_lem : Small m → laid_out m ≡ true
  laid_out_lem h =
      let l = h.laid in
      and_i (and_i (and_i (and_i (and_i (and_i (le-leb _ _ h.programs) (le-leb _ _ h.terminals)) (eq-eqb _ _ h.register)) (le-leb _ _ h.requests)) l.shorts) l.insides) l.apart

  pub small : sound_r m ≡ true → Small m
  unfolding sound_r
  small s = unlaid (both _ _ s).0

  pub sound_here : (c : ℕ) → Fine c m → model.sound_interval (limits_of m) (interval_at c m) ≡ true
  unfolding sound_r
  sound_here c f = sound_at (limits_of m) m c f.means ∙ and_r (laid_out m) _ f.soundly

  pub sound_back : (c : ℕ) → Means m c → Small m → model.sound_interval (limits_of m) (interval_at c m) ≡ true → Fine c m
  unfolding sound_r
  sound_back c e h s = record { means = e; soundly = and_i (laid_out_lem h) (sym (sound_at (limits_of m) m c e) ∙ s) }

-- ---- an operation

-- what it leaves is laid out as before, and holds as much
pub record Stays (c : ℕ) (m m' : Memory) : Type 0 where
  pub limits : limits_of m' ≡ limits_of m
  pub means : Means m' c
  pub small : Small m'

pub stays_itself : (c : ℕ) (m : Memory) → Fine c m → Stays c m m
stays_itself c m f = record { limits = refl; means = f.means; small = small m f.soundly }

pub fine_after : (c : ℕ) (m m' : Memory) → Stays c m m' → model.sound_interval (limits_of m) (interval_at c m') ≡ true → Fine c m'
fine_after c m m' h s =
    sound_back m' c h.means h.small (ap (λ (L : Limits). model.sound_interval L (interval_at c m')) h.limits ∙ s)

-- from the outcome, from what the model keeps, and from the memory's own bounds
pub finish : (c c' : ℕ) (m : Memory) (o : Outcome Memory) (p : Plan model.Interval) → Fine c m
    → outcome_in (interval_at c') o ≡ obey (interval_at c m) (first_of p.checks) p.effect
    → (model.sound_interval (limits_of m) (interval_at c m) ≡ true → first_of p.checks ≡ 0 → model.sound_interval (limits_of m) p.effect.state ≡ true)
    → Stays c' m o.state → Follows (interval_at c') (Fine c') o (interval_at c m) p
finish c c' m o p f e keeps h =
    let here : model.sound_interval (limits_of m) (interval_at c m) ≡ true = sound_here m c f in
    let there : model.sound_interval (limits_of m) (interval_at c' o.state) ≡ true =
    ap (λ (x : Outcome model.Interval). model.sound_interval (limits_of m) x.state) e
    ∙ obey_keeps (λ (i : model.Interval). model.sound_interval (limits_of m) i ≡ true) (interval_at c m) p here (keeps here) in
    record { outcome = e; soundly = fine_after c' m o.state h there }

-- from its checks, which are the plan's, for an operation on a part of the memory
pub checks_follow : {T : Type 0} (c : ℕ) (put : T → Memory) (t : T) (l : List Check) (o : Outcome T) (p : Plan model.Interval) → Fine c (put t)
    → gives_some l ≡ true → l ≡ p.checks
    → (Clear l → outcome_in (interval_at c) (outcome_in put o) ≡ p.effect)
    → (model.sound_interval (limits_of (put t)) (interval_at c (put t)) ≡ true → first_of p.checks ≡ 0
    → model.sound_interval (limits_of (put t)) p.effect.state ≡ true)
    → (Clear l → Stays c (put t) (put o.state))
    → Follows (interval_at c) (Fine c) (outcome_in put (checked t l o)) (interval_at c (put t)) p
checks_follow c put t l o p f h e stands keeps stays =
    part_follows (interval_at c) (Fine c) put t l o p f h e stands
    (λ k.
    fine_after c (put t) (put o.state) (stays k)
    (ap (λ (x : Outcome model.Interval). model.sound_interval (limits_of (put t)) x.state) (stands k)
    ∙ keeps (sound_here (put t) c f) (ap first_of (sym e) ∙ clear_first l k)))
