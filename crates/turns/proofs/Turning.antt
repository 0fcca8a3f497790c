-- One record: the head before the bytes that the command laid, and the ways of a record. Assumes nothing.
use Prim.Native.Nat.{ℕ, ◌+◌, ◌<◌, ◌≤◌}
use mathlib.Core.Path.{◌≡◌, sym, ap, ap₂, ◌∙◌}
use mathlib.Core.Bool.{Bool, true, false}
use mathlib.Core.List.{List, ◌++◌, append_assoc}
use native.Mathlib.Omega.{arith}
use lib.ListN.{length, take, drop, length-append}
use lib.Seq.{drop-append_seam, length-take-le, take_all}
use borrow.Author.Tests.{lt-ltb, le-ltb}
use Rattle.base.specs.Lists.{over}
use Rattle.model.specs.Plans.{Outcome}
use Rattle.model.specs.Commands.{Answer, plain, command, issuer, formed}
use Rattle.model.specs.Demands.{Stepped}
use Rattle.model.specs.Lists.{encoded}
use Rattle.frames.specs.Writing.{head_of, written_over}
use Rattle.frames.specs.Laws.Encoded.{length_encoded, head_fits}
use Rattle.frames.specs.Laws.Tails.{tail_of, put_tail, put_tail_lem, tail_length}
use Rattle.records.specs.Rows.{size_of, who_of, shaped_as, Columns}
use Rattle.records.specs.Laws.{shaped_row}
use Rattle.records.specs.declared.Row.{Row}
use Rattle.std.specs.Prelude.{Option}
use Rattle.std.specs.Prelude.{Some, None}
use Rattle.words.specs.Said.{code_of, Gave, gave, handed}
use Rattle.words.specs.declared.said.Said.{Said}
use Rattle.frames.specs.declared.action.Action.{Action}
use Rattle.frames.specs.Action.{code_of as action_code, label_of}
use Rattle.turn_rules.specs.Tables.{Tables, Known, known_in, with_known}
use Rattle.turn_rules.specs.Turn.{sender_in, obeyed_in, Settled, settled, settle_in, settled_of, refused_in, heard_as, turn_of, Left, left, turned, turned_in}

-- ---- the head

-- the answer of these values
abbrev pub answer : ℕ → ℕ → ℕ → ℕ → List ℕ → Answer
answer c a l m bytes = record { condition = c; action = a; label = l; number = m; bytes = bytes }

-- an answer without bytes
pub head_alone : (c : ℕ) (b b' : List ℕ) → 10 ≤ length b → b' ≡ (written_over (head_of c 0 0 0 0) b).buffer → b' ≡ over (encoded (plain c)) b
head_alone c b b' h e = e ∙ head_fits c 0 0 0 0 b h

-- before bytes that lie there already
head_before :
    (c a l m n : ℕ) (bytes b y b' : List ℕ) → n ≡ length bytes → 10 + n ≤ length b → y ≡ over bytes (tail_of 10 b)
    → b' ≡ (written_over (head_of c a l m n) (put_tail 10 b y)).buffer → b' ≡ over (encoded (answer c a l m bytes)) b
head_before c a l m n bytes b y b' z h is e =
    let H : List ℕ = head_of c a l m n in
    let rest : List ℕ = bytes ++ drop (10 + length bytes) b in
    let p : put_tail 10 b y ≡ take 10 b ++ rest = put_tail_lem 10 b bytes y (omega arith) is ∙ simp append_assoc in
    let ten : length (take 10 b) ≡ 10 = length-take-le 10 b (omega arith) in
    let long : 10 ≤ length (put_tail 10 b y) = rw (p, length-append) (omega arith) in
    let tail : drop 10 (put_tail 10 b y) ≡ rest =
    ap (drop 10) p ∙ ap (λ (i : ℕ). drop i (take 10 b ++ rest)) (sym ten) ∙ drop-append_seam (take 10 b) rest in
    let k : length (encoded (answer c a l m bytes)) ≡ 10 + length bytes = length_encoded (answer c a l m bytes) in
    e ∙ head_fits c a l m n (put_tail 10 b y) long ∙ ap (λ (x : List ℕ). H ++ x) tail
    ∙ ap (λ (i : ℕ). head_of c a l m i ++ rest) z
    ∙ ap (λ (i : ℕ). encoded (answer c a l m bytes) ++ drop i b) (sym k)

-- ---- a record that is heard

module _ (k : ℕ) (o : Outcome Tables) (b : List ℕ) (s : Said) (u : Tables) (y : List ℕ) (obeyed : gave s u y ≡ handed o (tail_of 10 b))
    (c : ℕ) (ec : c ≡ code_of s.condition) (v : Action) (n : Known) (judged : settled v n ≡ settle_in (known_in u) k c) where
  abbrev done : Gave Tables → Settled → Left
  done g σ =
      turned
      (record {
        answer = answer g.condition (action_code σ.action) (label_of σ.action) g.number o.bytes;
        tables = with_known g.state σ.known;
      })
      b

  abbrev done_all : Gave Tables → Left
  done_all g = done g (settle_in (known_in g.state) k g.condition)

  module _ (room : 74 ≤ length b) where
    size : s.len ≡ length o.bytes
    size = ap (λ (g : Gave Tables). g.len) obeyed

    -- all its bytes have room
    laid : y ≡ over o.bytes (tail_of 10 b)
    laid =
        let z = size in
        let l = tail_length 10 b in
        ap (λ (g : Gave Tables). g.body) obeyed
        ∙ ap (λ (x : List ℕ). over x (tail_of 10 b)) (take_all (length (tail_of 10 b)) o.bytes (omega arith))

    pub heard : (a l : ℕ) → a ≡ action_code v → l ≡ label_of v → (b' : List ℕ) → b' ≡ (written_over (head_of c a l s.number s.len) (put_tail 10 b y)).buffer
        → left (10 + s.len) (with_known u n) b' ≡ turned (settled_of k o) b
    heard a l ea el b' e =
        let A : Answer = answer (code_of s.condition) (action_code v) (label_of v) s.number o.bytes in
        let head = λ (x : ℕ) (a : ℕ) (l : ℕ). (written_over (head_of x a l s.number s.len) (put_tail 10 b y)).buffer in
        let e' = e ∙ ap₂ (head c) ea el ∙ ap (λ (x : ℕ). head x (action_code v) (label_of v)) ec in
        let put : b' ≡ over (encoded A) b =
        head_before (code_of s.condition) (action_code v) (label_of v) s.number s.len o.bytes b y b' size (omega arith) laid e' in
        let m : 10 + s.len ≡ length (encoded A) = let q = length_encoded A in let z = size in omega arith in
        ap (left (10 + s.len) (with_known u n)) put ∙ ap (λ (i : ℕ). left i (with_known u n) (over (encoded A) b)) m
        ∙ ap (done (gave s u y)) (judged ∙ ap (settle_in (known_in u) k) ec) ∙ ap done_all obeyed

-- ---- the ways of a record

pub no_room : (t : Tables) (r b : List ℕ) → length b < 74 → left 0 t b ≡ turned_in t r b
unfolding turned_in
no_room t r b h = rw (lt-ltb (length b) 74 h)

module _ (t : Tables) (r b : List ℕ) (room : 74 ≤ length b) where
  turned_as_lem : (x : Left) (s : Stepped Tables) → turn_of t r ≡ s → x ≡ turned s b → x ≡ turned_in t r b
  unfolding turned_in
  turned_as_lem x s p e = rw (le-ltb (length b) 74 room) (e ∙ ap (λ (y : Stepped Tables). turned y b) (sym p))

  -- with the row as it was read
  module _ (n : ℕ) (w : Row) (en : n ≡ command r) (cs : Columns n w) (f : Bool) (ef : f ≡ shaped_as (size_of w.0) r) where
    shape : formed r ≡ f
    shape = sym (ef ∙ shaped_row n w cs r en)

    turn_malformed : f ≡ false → turn_of t r ≡ refused_in t 33
    unfolding turn_of
    turn_malformed h = rw (shape, h)

    pub malformed : (x : Left) → f ≡ false → x ≡ turned (refused_in t 33) b → x ≡ turned_in t r b
    malformed x h e = turned_as_lem x (refused_in t 33) (turn_malformed h) e

    module _ (h : f ≡ true) (k : ℕ) (ek : k ≡ issuer r) (s : Option ℕ) (es : s ≡ sender_in t.requests k) where
      turn_sent : turn_of t r ≡ heard_as (who_of w.1) w.2 k t r s
      unfolding turn_of
      turn_sent = rw (shape, h, es, ek, cs.who, cs.part, en)

      pub stranger : (x : Left) → s ≡ None → x ≡ turned (refused_in t 34) b → x ≡ turned_in t r b
      stranger x z e = turned_as_lem x (refused_in t 34) (turn_sent ∙ ap (heard_as (who_of w.1) w.2 k t r) z) e

      pub known : (x : Left) (i : ℕ) → s ≡ Some i → x ≡ turned (settled_of k (obeyed_in (who_of w.1) w.2 k i t r)) b → x ≡ turned_in t r b
      known x i z e = turned_as_lem x (settled_of k (obeyed_in (who_of w.1) w.2 k i t r)) (turn_sent ∙ ap (heard_as (who_of w.1) w.2 k t r) z) e
