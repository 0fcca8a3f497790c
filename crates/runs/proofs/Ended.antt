-- What a run comes to, by what `frame` answers: 35, 36, or the answers to the records that a reader meets. Assumes nothing.
use mathlib.Core.Path.{◌≡◌, sym, ap, ◌∙◌}
use mathlib.Core.List.{List}
use Prim.Native.Nat.{ℕ, ◌*◌, ◌≤◌, ◌<◌}
use native.Mathlib.Omega.{arith}
use lib.ListN.{length}
use borrow.Author.Tests.{le-leb, lt-leb}
use Rattle.model.specs.Lists.{Framed, good, framed}
use Rattle.std.specs.Prelude.{Some, None}
use Rattle.frames.specs.Framing.{accepted, framing}
use Rattle.frames.specs.Reading.{records_from}
use Rattle.frames.specs.Laws.Framing.{IsFramed, accepted_told, refused_told}
use Rattle.turn_rules.specs.Tables.{Tables}
use Rattle.turn_rules.specs.Turn.{Left}
use Rattle.turn_rules.specs.Standing.{fresh_of}
use Rattle.runs.specs.Run.{run_of, Fitting, Ended, refusal, finished, run_in}

module _ (l : List ℕ) (t : Tables) (b : List ℕ) where
  pub not_framed : None ≡ framing (framed l) → refusal 35 t b ≡ run_in (framed l) t b
  unfolding run_in
  not_framed q = ap (λ (f : Framed). run_in f t b) (sym (refused_told l q))

  module _ (n v : ℕ) (q : Some (accepted n v) ≡ framing (framed l)) where
    told : IsFramed l v × (n ≡ length (records_from l 9))
    told = accepted_told l v n q

    abbrev rs : List (List ℕ)
    rs = records_from l 9

    as_framed : (x : Ended) → x ≡ run_in (good v rs) t b → x ≡ run_in (framed l) t b
    as_framed x e = e ∙ ap (λ (f : Framed). run_in f t b) (sym told.0.is)

    too_short : length b < 74 * n → refusal 36 t b ≡ run_in (good v rs) t b
    unfolding run_in
    too_short h = let z = told.1 in let s : length b < 74 * length rs = omega arith in rw (lt-leb (74 * length rs) (length b) s)

    pub short : length b < 74 * n → refusal 36 t b ≡ run_in (framed l) t b
    short h = as_framed (refusal 36 t b) (too_short h)

    pub fitting : 74 * n ≤ length b → Fitting l b
    fitting h = let z = told.1 in record { filled = told.0.filled; room = omega arith }

    all_run : 74 * n ≤ length b → finished (run_of (fresh_of t v) rs b) ≡ run_in (good v rs) t b
    unfolding run_in
    all_run h = let z = told.1 in let s : 74 * length rs ≤ length b = omega arith in rw (le-leb (74 * length rs) (length b) s)

    pub ran : 74 * n ≤ length b → (u : Tables) → u ≡ fresh_of t v → (x : Left) → x ≡ run_of u rs b → finished x ≡ run_in (framed l) t b
    ran h u f x e = as_framed (finished x) (ap finished (e ∙ ap (λ (w : Tables). run_of w rs b) f) ∙ all_run h)
