-- Each exact definition keeps what the types say: the lengths of the arrays, the widths of the numbers, and that 8,192 bytes are lent.
-- Assumes nothing.
use Rattle.std.specs.Prelude.{◌≡◌, Bool, true, false, List, [], ◌∷◌, ℕ, suc, ◌+◌, ◌^◌, ◌<◌, ◌≤◌, eqb, length, take, drop, get_or, Option, Some, None, Err}
use Rattle.std.proofs.Common.{◌∙◌, arith, length-append, length-drop, ltb-true, ltb-false, lt-ltb}
use Rattle.std.proofs.Math.Bool.{not}
use Rattle.std.proofs.Math.Dec.{ltb}
use Rattle.std.proofs.Math.ListN.{length-take, length-set}
use Rattle.base.specs.Choice.{pick}
use Rattle.base.specs.Lists.{all, has, over}
use Rattle.base.specs.Bytes.{blank, is_bytes}
use Rattle.base.specs.Laws.Tests.{and_i, pick_elim, or_false_r}
use Rattle.base.specs.Laws.Keep.{all_append, all_take, all_drop, all_keep, all_get_d_or}
use Rattle.base.specs.Laws.Over.{length_over}
use Rattle.slots.specs.Bits.{cleared, free_for}
use Rattle.slots.specs.Told as told
use Rattle.slots.proofs.Laws.Slots.{cleared_typed, marked_typed}
use Rattle.slots.proofs.Laws.Free.{free_at}
use Rattle.slots.specs.declared.Used.{Used}
use Rattle.model.specs.Limits.{some}
use Rattle.queues.specs.declared.Queues.{Queues}
use Rattle.queues.specs.declared.delete.DeleteError.TheVariants.{UnknownQueue, Invalid}
use Rattle.queues.specs.declared.delete.Deleted.{Deleted}
use Rattle.queues.specs.declared.read.Read.{Read}
use Rattle.queues.specs.Table.{row_of, names_of, pointers_of, entries, owners, places, slots_in}
use Rattle.queues.specs.Append as append
use Rattle.queues.specs.Append.{with_queue, put, stored, in_slot, append_to}
use Rattle.queues.specs.Read.{point_to, pointer_of, read_in, read_next_in}
use Rattle.queues.specs.Rewrite as rewrite
use Rattle.queues.specs.Rewrite.{resized, rewrite_in}
use Rattle.queues.specs.Delete.{less, others_than, slots_but, clear_all, shut_at, shut, emptied, swept, answer, delete_from}
use Rattle.queues.specs.Laws.Typed.{Typed, all_below, set_below, entries_le, owners_long, entries_long}
use Rattle.queues.specs.Laws.Stands.{QueuesHold}
use Rattle.queues.specs.Laws.Place.{at_found}
use Rattle.queues.specs.Laws.Paste.{paste_long, paste_bytes}
use Rattle.queues.specs.Laws.Grown.{ready}
use Rattle.queues.specs.Laws.Rows.{place_few}
use Rattle.queues.specs.Laws.Read.{read_elim}
use Rattle.queues.proofs.Laws.Append.{wrong, append_elim}
use Rattle.queues.proofs.Laws.Rewrite.{rewrite_elim}
use Rattle.queues.specs.Laws.DeleteLists.{others_long, but_long, but_all}

-- ---- lists of numbers below a bound

module _ (bound : ℕ) (some : 0 < bound) where
  abbrev under : ℕ → Bool
  under x = ltb x bound

  below : (l : List ℕ) → all (λ x. ltb x bound) l ≡ true → (i : ℕ) → get_or l i 0 < bound
  below l h i = ltb-true (get_or l i 0) bound (all_get_d_or under l i 0 (lt-ltb 0 bound some) h)

  pub over_below : (ks l : List ℕ) → all (λ x. ltb x bound) ks ≡ true → ((i : ℕ) → get_or l i 0 < bound) → (i : ℕ) → get_or (over ks l) i 0 < bound
  over_below ks l h g =
      below (over ks l) (all_append under ks (drop (length ks) l) ∙ and_i h (all_drop under (length ks) l (all_below bound l g)))

  live_below : (n : ℕ) (l : List ℕ) → ((i : ℕ) → get_or l i 0 < bound) → all (λ x. ltb x bound) (take n l) ≡ true
  live_below n l g = all_take under n l (all_below bound l g)

less_all : (p : ℕ → Bool) (r : ℕ) (l : List ℕ) → all p l ≡ true → all p (less r l) ≡ true
less_all p r l h = all_append p (take r l) (drop (suc r) l) ∙ and_i (all_take p r l h) (all_drop p (suc r) l h)

less_le : (r : ℕ) (l : List ℕ) → length (less r l) ≤ length l
less_le r l = omega (arith, length-append (take r l) (drop (suc r) l), length-take r l, length-drop (suc r) l)

clear_typed : (l : List ℕ) (u : Used) → told.Typed u → told.Typed (clear_all u l)
clear_typed [] u w = w
clear_typed (s ∷ l) u w = clear_typed l (cleared u s) (cleared_typed u w s)

-- ---- the parts of the struct

module _ (q : Queues) (t : Typed q) where
  put_typed : (n size k : ℕ) → n < 2 ^ 64 → size < 256 → k < 256 → Typed (put q n size k)
  unfolding put
  put_typed n size k w h g = record {
    names_long = t.names_long;
    pointers_long = t.pointers_long;
    owner_long = length-set q.owner (entries q) n ∙ t.owner_long;
    slot_long = length-set q.slot (entries q) k ∙ t.slot_long;
    len_long = length-set q.len k size ∙ t.len_long;
    words = marked_typed q.used t.words k;
    name_fits = t.name_fits;
    pointer_fits = t.pointer_fits;
    owner_fits = set_below (2 ^ 64) q.owner (entries q) n t.owner_fits w;
    slot_fits = set_below 256 q.slot (entries q) k t.slot_fits g;
    len_fits = set_below 256 q.len k size t.len_fits h;
  }

  point_typed : (n p : ℕ) → p < 256 → Typed (point_to q n p)
  unfolding point_to
  point_typed n p h = record {
    names_long = t.names_long;
    pointers_long = length-set q.pointers (row_of q n) p ∙ t.pointers_long;
    owner_long = t.owner_long;
    slot_long = t.slot_long;
    len_long = t.len_long;
    words = t.words;
    name_fits = t.name_fits;
    pointer_fits = set_below 256 q.pointers (row_of q n) p t.pointer_fits h;
    owner_fits = t.owner_fits;
    slot_fits = t.slot_fits;
    len_fits = t.len_fits;
  }

  resized_typed : (s size : ℕ) → size < 256 → Typed (resized q s size)
  unfolding resized
  resized_typed s size h = record {
    names_long = t.names_long;
    pointers_long = t.pointers_long;
    owner_long = t.owner_long;
    slot_long = t.slot_long;
    len_long = length-set q.len s size ∙ t.len_long;
    words = t.words;
    name_fits = t.name_fits;
    pointer_fits = t.pointer_fits;
    owner_fits = t.owner_fits;
    slot_fits = t.slot_fits;
    len_fits = set_below 256 q.len s size t.len_fits h;
  }

  shut_typed : (n : ℕ) → Typed (shut q n)
  unfolding shut_at
  shut_typed n =
      let r = row_of q n in
      record {
        names_long = length_over (less r (names_of q)) q.names (omega (arith, less_le r (names_of q), length-take q.count q.names)) ∙ t.names_long;
        pointers_long =
            length_over (less r (pointers_of q)) q.pointers (omega (arith, less_le r (pointers_of q), length-take q.count q.pointers))
            ∙ t.pointers_long;
        owner_long = t.owner_long;
        slot_long = t.slot_long;
        len_long = t.len_long;
        words = t.words;
        name_fits =
            over_below (2 ^ 64) (omega arith) (less r (names_of q)) q.names
            (less_all (λ x. ltb x (2 ^ 64)) r (names_of q) (live_below (2 ^ 64) (omega arith) q.count q.names t.name_fits)) t.name_fits;
        pointer_fits =
            over_below 256 (omega arith) (less r (pointers_of q)) q.pointers
            (less_all (λ x. ltb x 256) r (pointers_of q) (live_below 256 (omega arith) q.count q.pointers t.pointer_fits)) t.pointer_fits;
        owner_fits = t.owner_fits;
        slot_fits = t.slot_fits;
        len_fits = t.len_fits;
      }

  emptied_typed : (n : ℕ) → Typed (emptied q n)
  unfolding emptied
  emptied_typed n =
      let os = owners q in
      let ss = places q in
      let others = others_long n os in
      let long = owners_long q t in
      let few = entries_le q t in
      record {
        names_long = t.names_long;
        pointers_long = t.pointers_long;
        owner_long = length_over (others_than n os) q.owner (omega (arith, t.owner_long)) ∙ t.owner_long;
        slot_long = length_over (slots_but n os ss) q.slot (omega (arith, t.slot_long, but_long n os ss (entries_long q t))) ∙ t.slot_long;
        len_long = t.len_long;
        words = clear_typed (slots_in q n) q.used t.words;
        name_fits = t.name_fits;
        pointer_fits = t.pointer_fits;
        owner_fits =
            over_below (2 ^ 64) (omega arith) (others_than n os) q.owner
            (all_keep (λ x. ltb x (2 ^ 64)) (λ o. not (eqb o n)) os (live_below (2 ^ 64) (omega arith) (entries q) q.owner t.owner_fits))
            t.owner_fits;
        slot_fits =
            over_below 256 (omega arith) (slots_but n os ss) q.slot
            (but_all n os ss (entries_long q t) (λ x. ltb x 256) (live_below 256 (omega arith) (entries q) q.slot t.slot_fits)) t.slot_fits;
        len_fits = t.len_fits;
      }

module _ (q : Queues) (t : Typed q) where
  pub delete_typed : (n : ℕ) → Typed (delete_from q n).queues
  unfolding delete_from swept
  delete_typed n =
      let invalid : Deleted = answer q (Err Invalid) in
      let unknown : Deleted = answer q (Err UnknownQueue) in
      let gone : Deleted = swept (shut q n) n in
      let T : Deleted → Type 0 = λ (r : Deleted). Typed r.queues in
      pick_elim T (eqb n (blank 8)) invalid (pick (has n (names_of q)) gone unknown) (λ _. t)
      (λ _. pick_elim T (has n (names_of q)) gone unknown (λ _. emptied_typed (shut q n) (shut_typed q t n) n) (λ _. t))

  pub read_typed : (n p room : ℕ) → Typed (read_in q n p room).queues
  read_typed n p room =
      read_elim q n p room (λ (r : Read). Typed r.queues) (λ _. t) (λ _ _. t) (λ _ _ _. t)
      (λ _ _ k g. point_typed q t n p (omega (arith, place_few q t.owner_long n p k g)))

  pub next_typed : (n room : ℕ) → Typed (read_next_in q n room).queues
  unfolding read_next_in
  next_typed n room = read_typed n (pointer_of q n + 1) room

-- ---- with the lent bytes

pub record Kept (q : Queues) (b : List ℕ) : Type 0 where
  pub typed : Typed q
  pub long : length b ≡ 8192
  pub bytes : is_bytes b ≡ true

short : (item : List ℕ) → wrong item ≡ false → length item ≤ 64
short item f = ltb-false 64 (length item) (or_false_r (not (some item)) (ltb 64 (length item)) f)

module _ (q : Queues) (b : List ℕ) (k : Kept q b) (n : ℕ) (item : List ℕ) (y : is_bytes item ≡ true) where
  pub rewrite_kept : (p : ℕ) → Kept (rewrite_in q b n p item).rewritten.queues (rewrite_in q b n p item).items
  rewrite_kept p =
      rewrite_elim q b n p item (λ (r : rewrite.Lent). Kept r.rewritten.queues r.items) (λ _. k) (λ _ _. k) (λ _ _ _. k) (λ _ _ _ _. k)
      (λ _ f _ j o.
      let h : j < 128 = (at_found q.len (slots_in q n) p j o).below in
      let m : length item ≤ 64 = short item f in
      record {
        typed = resized_typed q k.typed j (length item) (omega arith);
        long = paste_long b item j k.long h m;
        bytes = paste_bytes b item j k.long h m k.bytes y;
      })

  module _ (s : QueuesHold q) (w : n < 2 ^ 64) (may : ℕ) where
    abbrev Keeps : append.Lent → Type 0
    Keeps r = Kept r.appended.queues r.items

    slot_kept : (r : Queues) → Typed r → length item ≤ 64 → (x : Option ℕ) → free_for may q.used ≡ x → Keeps (in_slot r b n item x)
    unfolding stored
    slot_kept r t m None z = record { typed = t; long = k.long; bytes = k.bytes }
    slot_kept r t m (Some j) z =
        let h : j < 128 = (free_at q.used k.typed.words may j z).below in
        record {
          typed = put_typed r t n (length item) j w (omega arith) (omega arith);
          long = paste_long b item j k.long h m;
          bytes = paste_bytes b item j k.long h m k.bytes y;
        }

    pub append_kept : Kept (append_to q b may n item).appended.queues (append_to q b may n item).items
    append_kept =
        append_elim q b may n item Keeps (λ _. k) (λ _ _. k) (λ _ _ _. k)
        (λ e f g x z. slot_kept (with_queue q n) (ready q n k.typed s w e g).typed (short item f) x z)
