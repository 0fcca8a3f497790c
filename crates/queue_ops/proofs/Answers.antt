-- What is said, as an outcome: an item as much as there is room for, and from what is seen to the view. Assumes nothing.
use mathlib.Core.Path.{◌≡◌, refl, sym, ap, ap₂, ◌∙◌}
use mathlib.Core.List.{List, []}
use Prim.Native.Nat.{ℕ, ◌+◌, ◌<◌, ◌≤◌, min}
use native.Mathlib.Omega.{arith}
use lib.Dec.{leb, ltb}
use lib.ListN.{length, take, drop, length-take, length-drop}
use lib.Seq.{take-take, take_all}
use borrow.Author.Tests.{leb-true, leb-false}
use Rattle.base.specs.Choice.{pick}
use Rattle.base.specs.Lists.{over}
use Rattle.base.specs.Laws.Tests.{by_test}
use Rattle.model.specs.Plans.{normal, wrong_length, Outcome, cut}
use Rattle.words.specs.declared.said.Condition.{Condition}
use Rattle.words.specs.declared.said.Said.{Said}
use Rattle.words.specs.Said.{code_of, saying, plainly, gave, handed}
use Rattle.words.specs.Laws.Said.{gave_told, said_plain}
use Rattle.queue_rows.specs.Table.{Queues, view_of}
use Rattle.queue_rows.specs.Layout.{Sized, seen}
use Rattle.queue_rows.specs.Laws.Columns.{sees}
use Rattle.queue_ops.specs.declared.table.Table.{Table}
use Rattle.queue_ops.specs.Seen.{queues_in}

-- ---- an item of `full` bytes at a place, cut to the room

module _ (items : List ℕ) (at full room n : ℕ) (fits : at + full ≤ length items) (e : n ≡ min full room) where
  abbrev item : List ℕ
  item = take full (drop at items)

  item_long : length (take full (drop at items)) ≡ full
  item_long = simp (length-take, length-drop) (omega arith)

  pub piece_long : length (take n (drop at items)) ≡ n
  piece_long = simp (length-take, length-drop) (omega arith)

  piece : take n (drop at items) ≡ take room (take full (drop at items))
  piece =
      by_test (leb room full)
      (λ t.
      let h : room ≤ full = leb-true room full t in
      let k : n ≡ room = omega arith in
      ap (λ (j : ℕ). take j (drop at items)) k ∙ sym (take-take room full (drop at items) h))
      (λ t.
      let h : full < room = leb-false room full t in
      let k : n ≡ full = omega arith in
      ap (λ (j : ℕ). take j (drop at items)) k ∙ sym (take_all room item (omega (arith, item_long))))

  pub item_given : {S : Type 0} (s : S) (c : Condition) (few : n ≤ 64) (part a b : List ℕ) → code_of c ≡ pick (ltb room full) wrong_length normal
      → part ≡ take n (drop at items) → a ≡ over (take (length b) part) b
      → gave (saying c full n few) s a ≡ handed (cut s room (take full (drop at items))) b
  item_given {S} s c few part a b f g h =
      gave_told (saying c full n few) s (cut s room item) (take n (drop at items)) a b
      (rw (f, item_long, piece)) (sym piece_long) (h ∙ ap (λ (x : List ℕ). over (take (length b) x) b) g)

-- ---- from what is seen in the words of a table, to the view: t is the table as it was made of the words w, and u as it is left

module _ {S : Type 0} (t u : Table) (w v : List ℕ) (n : ℕ) (g : Queues → S) (f : Queues → Outcome S)
    (z : Sized (length w) n t.at) (lent : t.words.now ≡ w) (left : v ≡ u.words.now) (same : u.at ≡ t.at) (long : length v ≡ length w) where
  pub through : (m : ℕ) → m ≡ n → (r : Said) (a b : List ℕ) → gave r (g (queues_in u)) a ≡ handed (f (queues_in t)) b
      → gave r (g (view_of v m)) a ≡ handed (f (view_of w n)) b
  through m k r a b h =
      ap (λ (j : ℕ). gave r (g (view_of v j)) a) k
      ∙ ap (λ (q : Queues). gave r (g q) a) (sees t.at v (length w) n long z ∙ ap₂ seen (sym same) left)
      ∙ h ∙ ap (λ (q : Queues). handed (f q) b) (ap (seen t.at) lent ∙ sym (sees t.at w (length w) n refl z))

  pub plain_through : (m : ℕ) → m ≡ n → (r : Said) (c : Condition) (k : ℕ) → r ≡ plainly c k
      → record { condition = code_of c; number = k; bytes = []; state = g (queues_in u) } ≡ f (queues_in t)
      → (b : List ℕ) → gave r (g (view_of v m)) b ≡ handed (f (view_of w n)) b
  plain_through m e r c k h i b = through m e r b b (said_plain r c k (g (queues_in u)) (f (queues_in t)) h i b)
