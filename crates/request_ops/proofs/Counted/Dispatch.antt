-- Which row dispatch takes, one row a turn, and what is said and left, by the row's number, which is past all rows where there is none: the code has
-- an Option and the library's methods now, and nothing cites these. Assumes nothing.
use Rattle.std.specs.Prelude.{◌≡◌, ℕ, ◌+◌, ◌%◌, ◌<◌, ◌≤◌, Bool, true, false, List, [], ◌∷◌, ◌++◌, length, take, slice_index_or, refl}
use Rattle.std.proofs.Common.{sym, ap, ◌∙◌, arith, length-append, lit≤}
use Rattle.std.proofs.Math.Seq.{take_all}
use borrow.Author.Tests.{lt-ltb, le-ltb}
use Rattle.base.specs.Lists.{keep, any, first_at, over}
use Rattle.base.specs.Laws.Keep.{keep_append, first_at_any}
use Rattle.base.specs.Laws.Scans.{read_cons}
use Rattle.base.specs.Laws.Seeking.{counted, within, seeks_hit, seeks_on, seeks_end}
use Rattle.words.specs.declared.said.Condition.TheVariants.{Normal, NotFound}
use Rattle.words.specs.Said.{saying, plainly, gave, handed, told}
use Rattle.words.specs.Laws.Said.{gave_told}
use Rattle.request_rows.specs.declared.Phase.TheVariants.{Active}
use Rattle.request_rows.specs.declared.Request.{Request}
use Rattle.request_rows.specs.Rows.{Row, no_row, decode, program_of, terminal_of, is_expired, in_phase, expired}
use Rattle.request_rows.specs.Table.{Requests, view_of, live, with_row}
use Rattle.request_rows.specs.Dispatch.{clash, ready, passed_by, At, None, pick_in, bytes_for, dispatched, dispatch_in}
use Rattle.request_rows.specs.Laws.View.{Seeks, live_sought, live_at}
use Rattle.request_ops.specs.Dispatch.{sixteen}

-- the row that starts, or behind all; and how many of the line stand before it
pub record Chosen (l : List Row) (at passed : ℕ) : Type 0 where
  pub row : at ≡ first_at (ready l) l
  pub line : passed ≡ passed_by at l

-- ---- how many of the line are passed

module _ (n : ℕ) (l : List Row) (i : ℕ) (hn : i < n) (hl : i < length l) where
  abbrev row : Row
  row = slice_index_or l i no_row

  passed_step : keep expired (take (i + 1) (take n l)) ≡ keep expired (take i (take n l)) ++ keep expired (row ∷ [])
  passed_step = ap (keep expired) (read_cons l n i no_row hn hl) ∙ keep_append expired (take i (take n l)) (row ∷ [])

  passed_more : expired row ≡ true → passed_by (i + 1) (take n l) ≡ passed_by i (take n l) + 1
  passed_more e =
      let f : keep expired (row ∷ []) ≡ row ∷ [] = rw e in
      ap length (passed_step ∙ ap (λ (r : List Row). keep expired (take i (take n l)) ++ r) f)
      ∙ length-append (keep expired (take i (take n l))) (row ∷ [])

  passed_same : expired row ≡ false → passed_by (i + 1) (take n l) ≡ passed_by i (take n l)
  passed_same e =
      let f : keep expired (row ∷ []) ≡ [] = rw e in
      let z = length-append (keep expired (take i (take n l))) [] in
      ap length (passed_step ∙ ap (λ (r : List Row). keep expired (take i (take n l)) ++ r) f) ∙ omega arith

-- ---- the search

module _ (w : List ℕ) (m : ℕ) where
  -- none of the rows before i can start, and k of them are in the line
  pub record Passing (i k : ℕ) : Type 0 where
    pub sought : Seeks (ready (live (view_of w))) w m i
    pub line : k ≡ passed_by i (live (view_of w))
    pub few : k ≤ i

  pub passing_start : m ≡ length (live (view_of w)) → Passing 0 0
  passing_start e = record { sought = live_sought w (ready (live (view_of w))) m e; line = refl; few = omega arith }

  module _ (i k : ℕ) (v : Passing i k) where
    pub passing_end : m ≤ i → Chosen (live (view_of w)) i k
    passing_end h = record { row = seeks_end v.sought h; line = v.line }

    module _ (h : i < m) (q : Request) (e : q ≡ decode (slice_index_or (view_of w).rows i no_row)) (b : Bool) (eb : b ≡ is_expired q.phase) where
      abbrev here : Row
      here = slice_index_or (view_of w).rows i no_row

      lapsed : b ≡ expired here
      lapsed = eb ∙ ap (λ (x : Request). is_expired x.phase) e

      pub passing_other : b ≡ false → Passing (i + 1) k
      passing_other f =
          let x : expired here ≡ false = sym lapsed ∙ f in
          let z = v.few in
          record {
            sought = seeks_on v.sought h no_row (rw x);
            line = v.line ∙ sym (passed_same (view_of w).count (view_of w).rows i (counted v.sought h) (within v.sought h) x);
            few = omega arith;
          }

      module _ (f : b ≡ true) (c : Bool) (ec : c ≡ any (clash q.program q.terminal) (live (view_of w))) where
        held : c ≡ any (clash (program_of here) (terminal_of here)) (live (view_of w))
        held = ec ∙ ap (λ (x : Request). any (clash x.program x.terminal) (live (view_of w))) e

        pub passing_held : c ≡ true → Passing (i + 1) (k + 1)
        passing_held g =
            let x : expired here ≡ true = sym lapsed ∙ f in
            let y = sym held ∙ g in
            let z = v.few in
            record {
              sought = seeks_on v.sought h no_row (rw (x, y));
              line =
                  ap (λ (n : ℕ). n + 1) v.line
                  ∙ sym (passed_more (view_of w).count (view_of w).rows i (counted v.sought h) (within v.sought h) x);
              few = omega arith;
            }

        pub passing_hit : c ≡ false → Chosen (live (view_of w)) i k
        passing_hit g =
            let x : expired here ≡ true = sym lapsed ∙ f in
            let y = sym held ∙ g in
            record { row = seeks_hit v.sought h no_row (rw (x, y)); line = v.line }

-- ---- what is said and left

module _ (t : Requests) (at passed : ℕ) (c : Chosen (live t) at passed) where
  chosen_at : at < length (live t) → dispatched t (At at passed) ≡ dispatch_in t
  unfolding dispatch_in pick_in
  chosen_at h =
      let l = live t in
      let r = c.row in
      let y : any (ready l) l ≡ true = first_at_any (ready l) l ∙ lt-ltb (first_at (ready l) l) (length l) (omega arith) in
      rw (y, c.line, r)

  chosen_none : length (live t) ≤ at → dispatched t (None passed) ≡ dispatch_in t
  unfolding dispatch_in pick_in
  chosen_none h =
      let l = live t in
      let r = c.row in
      let y : any (ready l) l ≡ false = first_at_any (ready l) l ∙ le-ltb (first_at (ready l) l) (length l) (omega arith) in
      rw (y, c.line, take_all at l h)

  pub dispatch_none : length (live t) ≤ at → told (plainly NotFound (passed % 4_294_967_296)) [] t ≡ dispatch_in t
  dispatch_none h = chosen_none h

module _ (w : List ℕ) (at passed : ℕ) (c : Chosen (live (view_of w)) at passed) (h : at < length (live (view_of w))) where
  abbrev taken : Row
  taken = slice_index_or (live (view_of w)) at no_row

  pub dispatch_hit : (q : Request) → q ≡ decode (slice_index_or (view_of w).rows at no_row)
      → (t' : Requests) → t' ≡ with_row (view_of w) at (in_phase (Active false) (slice_index_or (view_of w).rows at no_row))
      → (b b' : List ℕ) → b' ≡ over (take (length b) (sixteen q)) b → gave (saying Normal (passed % 4_294_967_296) 16 (lit≤ tt)) t' b' ≡ handed (dispatch_in (view_of w)) b
  dispatch_hit q e t' et b b' eb =
      let k : sixteen q ≡ bytes_for taken = ap sixteen e ∙ ap bytes_for (live_at w at h) in
      let s = et ∙ ap (λ (x : Row). with_row (view_of w) at (in_phase (Active false) x)) (live_at w at h) in
      gave_told (saying Normal (passed % 4_294_967_296) 16 (lit≤ tt)) t' (dispatch_in (view_of w)) (bytes_for taken) b' b
      (ap (told (saying Normal (passed % 4_294_967_296) 16 (lit≤ tt)) (bytes_for taken)) s ∙ chosen_at (view_of w) at passed c h)
      refl (eb ∙ ap (λ (x : List ℕ). over (take (length b) x) b) k)
