-- What the soundness of interval control says, part by part, each by a name; that idle tables are sound; and that defining a
-- program or a terminal, asking the ticks, removing a request and cancelling keep the tables sound.
-- Assumes nothing.
use Rattle.std.specs.Prelude.{ℕ, ◌^◌, ◌<◌, ◌≤◌, ◌≡◌, refl, Bool, true, not, ◌&&◌, List, [], ◌∷◌, ◌++◌, map, length, eqb}
use Rattle.std.proofs.Common.{ap, arith, length-append}
use borrow.Author.Tests.{leb-true, leb-false, le-leb, lt-ltb}
use Rattle.base.specs.Lists.{keep, all, has, once}
use Rattle.base.specs.Bytes.{blank, is_name}
use Rattle.base.specs.Laws.Tests.{both, and_i, or_l, or_r, or_elim}
use Rattle.base.specs.Laws.Keep.{all_append, all_imp, all_keep, length_keep}
use Rattle.base.specs.Laws.Counting.{has_more, once_snoc, once_keep, fewer_once}
use Rattle.model.specs.Limits.{Limits, is_data}
use Rattle.model.specs.Plans.{first_of}
use Rattle.model.specs.Interval.{Phase, Request, Interval, idle_at, with_programs, with_terminals, with_requests, with_clock, in_phase, active, remove, define, define_program, define_terminal, ask_ticks, cancel, none_or_known, sound_phase, sound_request, running, held, sound_interval}
use Rattle.model.specs.Laws.PlanLaws.{clears}

-- ---- the parts

abbrev pub name_of : Request → ℕ
name_of q = q.name

abbrev pub program_of : Request → ℕ
program_of q = q.program

abbrev pub terminal_of : Request → ℕ
terminal_of q = q.terminal

-- an active task with a terminal
abbrev pub holder : Request → Bool
holder q = active q && not (eqb q.terminal (blank 4))

-- the known programs, or terminals
pub record NamesSound (most : ℕ) (l : List ℕ) : Type 0 where
  pub fit : length l ≤ most
  pub unique : once l ≡ true
  pub named : all (is_name 4) l ≡ true

pub record RequestsSound (L : Limits) (i : Interval) (l : List Request) : Type 0 where
  pub fit : length l ≤ L.requests
  pub unique : once (map name_of l) ≡ true
  pub sound : all (sound_request L i) l ≡ true
  pub runs : once (running l) ≡ true
  pub holds : once (held l) ≡ true

pub record IntervalSound (L : Limits) (i : Interval) : Type 0 where
  pub programs : NamesSound L.programs i.programs
  pub terminals : NamesSound L.terminals i.terminals
  pub requests : RequestsSound L i i.requests

pub record RequestSound (L : Limits) (i : Interval) (q : Request) : Type 0 where
  pub named : is_name 8 q.name ≡ true
  pub program : has q.program i.programs ≡ true
  pub terminal : none_or_known q.terminal i.terminals ≡ true
  pub content : is_data L q.bytes ≡ true
  pub phase : sound_phase L i.clock q.bytes q.phase ≡ true

module _ {L : Limits} {i : Interval} where
  pub view : sound_interval L i ≡ true → IntervalSound L i
  unfolding sound_interval
  view h =
      let p11 = both _ _ h in
      let p10 = both _ _ p11.0 in
      let p9 = both _ _ p10.0 in
      let p8 = both _ _ p9.0 in
      let p7 = both _ _ p8.0 in
      let p6 = both _ _ p7.0 in
      let p5 = both _ _ p6.0 in
      let p4 = both _ _ p5.0 in
      let p3 = both _ _ p4.0 in
      let p2 = both _ _ p3.0 in
      record {
        programs = record { fit = leb-true _ _ p2.0; unique = p2.1; named = p3.1 };
        terminals = record { fit = leb-true _ _ p4.1; unique = p5.1; named = p6.1 };
        requests = record { fit = leb-true _ _ p7.1; unique = p8.1; sound = p9.1; runs = p10.1; holds = p11.1 };
      }

  pub unview : IntervalSound L i → sound_interval L i ≡ true
  unfolding sound_interval
  unview v =
      let p = v.programs in
      let t = v.terminals in
      let r = v.requests in
      and_i (and_i (and_i (and_i (and_i (and_i (and_i (and_i (and_i (and_i
      (le-leb _ _ p.fit) p.unique) p.named)
      (le-leb _ _ t.fit)) t.unique) t.named)
      (le-leb _ _ r.fit)) r.unique) r.sound) r.runs) r.holds

pub view_request : (L : Limits) (i : Interval) (q : Request) → sound_request L i q ≡ true → RequestSound L i q
view_request L i q h =
    let p5 = both _ _ h in
    let p4 = both _ _ p5.0 in
    let p3 = both _ _ p4.0 in
    let p2 = both _ _ p3.0 in
    record { named = p2.0; program = p2.1; terminal = p3.1; content = p4.1; phase = p5.1 }

-- a sound request in another phase, at another clock
pub in_phase_lem : (L : Limits) (i : Interval) (c : ℕ) (q : Request) (p : Phase) → sound_phase L c q.bytes p ≡ true → sound_request L i q ≡ true
    → sound_request L (with_clock i c) (in_phase p q) ≡ true
in_phase_lem L i c q p e h =
    let v = view_request L i q h in
    and_i (and_i (and_i (and_i v.named v.program) v.terminal) v.content) e

-- ---- idle, asking the ticks

pub idle_sound : (L : Limits) (c : ℕ) → sound_interval L (idle_at c) ≡ true
idle_sound L c =
    unview
    (record {
      programs = record { fit = omega arith; unique = refl; named = refl };
      terminals = record { fit = omega arith; unique = refl; named = refl };
      requests = record { fit = omega arith; unique = refl; sound = refl; runs = refl; holds = refl };
    })

pub ask_sound : (L : Limits) (i : Interval) → sound_interval L i ≡ true → first_of (ask_ticks i).checks ≡ 0
    → sound_interval L (ask_ticks i).effect.state ≡ true
unfolding ask_ticks
ask_sound L i s e = s

-- ---- a new name

-- the list that a definition makes
grown : (most : ℕ) (known : List ℕ) (n : ℕ) (put : List ℕ → Interval) → n < 256 ^ 4 → NamesSound most known
    → first_of (define most known n put).checks ≡ 0 → NamesSound most (known ++ (n ∷ []))
grown most known n put small v e =
    let c = clears (define most known n put).checks refl e in
    let room : length known < most = leb-false most (length known) c.1.1.0 in
    record {
      fit = simp length-append (omega arith);
      unique = once_snoc n known c.1.0 v.unique;
      named = rw (all_append (is_name 4) known (n ∷ []), v.named) (and_i (and_i (lt-ltb n (256 ^ 4) small) (ap not c.0)) refl);
    }

none_or_more : (k : ℕ) (l m : List ℕ) → none_or_known k l ≡ true → none_or_known k (l ++ m) ≡ true
none_or_more k l m h =
    or_elim (eqb k (blank 4)) (has k l) h (or_l (eqb k (blank 4)) (has k (l ++ m)))
    (λ e. or_r (eqb k (blank 4)) (has k (l ++ m)) (has_more k l m e))

module _ (L : Limits) (i : Interval) (s : sound_interval L i ≡ true) where
  -- the requests do not mind more names
  module _ (p t : List ℕ) (more_programs : (k : ℕ) → has k i.programs ≡ true → has k p ≡ true)
      (more_terminals : (k : ℕ) → none_or_known k i.terminals ≡ true → none_or_known k t ≡ true) where
    abbrev named_so : Interval
    named_so = with_terminals (with_programs i p) t

    one_more : (q : Request) → sound_request L i q ≡ true → sound_request L named_so q ≡ true
    one_more q h =
        let v = view_request L i q h in
        and_i (and_i (and_i (and_i v.named (more_programs q.program v.program)) (more_terminals q.terminal v.terminal)) v.content) v.phase

    put_names : NamesSound L.programs p → NamesSound L.terminals t → sound_interval L (with_terminals (with_programs i p) t) ≡ true
    put_names new-programs new-terminals =
        let r = (view s).requests in
        unview
        (record {
          programs = new-programs;
          terminals = new-terminals;
          requests = record {
            fit = r.fit;
            unique = r.unique;
            sound = all_imp (sound_request L i) (sound_request L named_so) one_more i.requests r.sound;
            runs = r.runs;
            holds = r.holds;
          };
        })

  pub program_sound : (n : ℕ) → n < 256 ^ 4 → first_of (define_program L i n).checks ≡ 0
      → sound_interval L (define_program L i n).effect.state ≡ true
  unfolding define_program
  program_sound n small e =
      put_names (i.programs ++ (n ∷ [])) i.terminals (λ k. has_more k i.programs (n ∷ [])) (λ k h. h)
      (grown L.programs i.programs n (with_programs i) small (view s).programs e) (view s).terminals

  pub terminal_sound : (n : ℕ) → n < 256 ^ 4 → first_of (define_terminal L i n).checks ≡ 0
      → sound_interval L (define_terminal L i n).effect.state ≡ true
  unfolding define_terminal
  terminal_sound n small e =
      put_names i.programs (i.terminals ++ (n ∷ [])) (λ k h. h) (λ k. none_or_more k i.terminals (n ∷ []))
      (view s).programs (grown L.terminals i.terminals n (with_terminals i) small (view s).terminals e)

-- ---- other requests, and another clock

pub put_requests : (L : Limits) (i : Interval) (c : ℕ) (l : List Request) → sound_interval L i ≡ true → RequestsSound L (with_clock (with_requests i l) c) l
    → sound_interval L (with_clock (with_requests i l) c) ≡ true
put_requests L i c l s r = unview (record { programs = (view s).programs; terminals = (view s).terminals; requests = r })

-- ---- fewer requests

module _ (L : Limits) (i : Interval) (s : sound_interval L i ≡ true) where
  keep_sound : (p : Request → Bool) → sound_interval L (with_requests i (keep p i.requests)) ≡ true
  keep_sound p =
      let r = (view s).requests in
      put_requests L i i.clock (keep p i.requests) s
      (record {
        fit = omega (arith, r.fit, length_keep p i.requests);
        unique = once_keep name_of p i.requests r.unique;
        sound = all_keep (sound_request L i) p i.requests r.sound;
        runs = fewer_once program_of active p i.requests r.runs;
        holds = fewer_once terminal_of holder p i.requests r.holds;
      })

  pub remove_sound : (n : ℕ) → sound_interval L (remove i n) ≡ true
  remove_sound n = keep_sound (λ (q : Request). not (eqb q.name n))

  pub cancel_sound : (n : ℕ) → first_of (cancel i n).checks ≡ 0 → sound_interval L (cancel i n).effect.state ≡ true
  unfolding cancel
  cancel_sound n e = remove_sound n
