-- The tests of the columns that are lent are the test of the queues that are seen in them. Assumes nothing.
use mathlib.Core.Path.{◌≡◌, refl, sym, ap, ap₂, ◌∙◌}
use mathlib.Core.Bool.{Bool, true, false, not, ◌&&◌}
use mathlib.Core.List.{List}
use Prim.Native.Nat.{ℕ, ◌+◌, ◌-◌}
use lib.Dec.{leb, ltb}
use lib.ListN.{length, take, drop, get_or}
use Rattle.base.specs.Lists.{all, has, once, within}
use Rattle.base.specs.Bytes.{blank}
use Rattle.base.specs.Laws.Tests.{and_none}
use Rattle.slots.specs.Bits.{held, used_at}
use Rattle.slots.specs.declared.Used.{Used}
use Rattle.queue_rows.specs.declared.Columns.{Columns}
use Rattle.queue_rows.specs.Layout.{Laid, Sized, seen}
use Rattle.queue_rows.specs.Laws.Columns.{names_lies, pointers_lies, owner_lies, slot_lies, len_lies, sees}
use Rattle.queue_rows.specs.Table.{Queues, view_of, rows_in, slots_in, names_of, pointers_of, entries, owners, places}
use Rattle.queue_rows.specs.Sound.{pointed, length_in, sound_q}
use Rattle.queue_sound.specs.Parts.{rows_sound, filled, entries_sound}
use Rattle.queue_sound.proofs.Drains.{all_and}

and_assoc : (a b c : Bool) → (a && (b && c)) ≡ (a && b && c)
and_assoc true b c = refl
and_assoc false b c = refl

-- the rules, as the code groups them and as the definition has them
parted : (c e o b w p s u z l : Bool) → ((c && o && b && w && p) && (e && (s && u) && (z && l))) ≡ (c && e && o && b && w && p && s && u && z && l)
parted false e o b w p s u z l = refl
parted true false o b w p s u z l = sym (and_none (o && b && w && p))
parted true true o b w p s u z l =
    let r = o && b && w && p in
    and_assoc r (s && u) (z && l) ∙ and_assoc (r && (s && u)) z l ∙ ap (λ (x : Bool). x && z && l) (and_assoc r s u)

module _ (q : Queues) (same : length q.len ≡ slots_in q) where
  -- each slot is one of those that are lent, and has its length
  all_filled : all (filled q.len) (places q) ≡ (all (λ s. ltb s (slots_in q)) (places q) && all (length_in q) (places q))
  all_filled =
      all_and (λ s. ltb s (length q.len)) (length_in q) (places q)
      ∙ ap (λ (n : ℕ). all (λ s. ltb s n) (places q) && all (length_in q) (places q)) same

  whole : (rows_sound q.count q.names q.pointers (owners q) && entries_sound q.used (entries q) q.slot q.len) ≡ sound_q q
  unfolding rows_sound entries_sound sound_q
  whole =
      rw all_filled
      (parted (leb q.count (rows_in q)) (leb (entries q) (slots_in q)) (once (names_of q)) (not (has (blank 8) (names_of q))) (within (owners q) (names_of q))
      (pointed (owners q) (names_of q) (pointers_of q)) (once (places q)) (all (used_at q.used) (places q)) (all (λ s. ltb s (slots_in q)) (places q))
      (all (length_in q) (places q)))

-- the columns of words that are laid out, each lent up to the next, and the head, as they are read
module _ (l : Columns) (w : List ℕ) (bytes : ℕ) (h : Laid (length w) l) (z : Sized (length w) bytes l) where
  abbrev part : ℕ → ℕ → List ℕ
  part from to = take (to - from) (drop from w)

  pub answered : (count n : ℕ) (u : Used) → count ≡ get_or w 0 0 → u ≡ (seen l w).used → n ≡ held u
      → (rows_sound count (part l.names l.pointers) (part l.pointers l.owner) (take n (part l.owner l.slot))
      && entries_sound u n (part l.slot l.len) (part l.len (l.len + l.slots)))
      ≡ sound_q (view_of w bytes)
  answered count n u hc hu hn =
      let q = seen l w in
      let long : length q.len ≡ slots_in q = (len_lies l w h).long ∙ sym (slot_lies l w h).long in
      let rows : rows_sound count (part l.names l.pointers) (part l.pointers l.owner) (take n (part l.owner l.slot)) ≡ rows_sound q.count q.names q.pointers (owners q) =
      cc (
        (names_lies l w h).whole l.pointers h.pointers,
        (pointers_lies l w h).whole l.owner h.owner,
        (owner_lies l w h).whole l.slot h.slot,
      ) in
      let held_in : entries_sound u n (part l.slot l.len) (part l.len (l.len + l.slots)) ≡ entries_sound q.used (entries q) q.slot q.len =
      cc ((slot_lies l w h).whole l.len h.len, (len_lies l w h).whole (l.len + l.slots) refl) in
      ap₂ (λ (x y : Bool). x && y) rows held_in ∙ whole q long ∙ ap sound_q (sym (sees l w (length w) bytes refl z))
