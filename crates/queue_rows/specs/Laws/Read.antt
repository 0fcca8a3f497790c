-- Read next and read at: the cases of the exact definition, and that from sound words a read does what the model's plan says and leaves sound words.
-- Assumes nothing.
use Rattle.std.specs.Prelude.{◌≡◌, false, not, List, [], ◌∷◌, ℕ, ◌+◌, ◌<◌, ◌≤◌, leb, set}
use Rattle.std.proofs.Math.Path.{ap, subst}
use Rattle.std.proofs.Common.{ap₂, sym, ◌∙◌, arith}
use Rattle.std.proofs.Math.Bool.{true}
use Rattle.std.proofs.Math.Dec.{eqb}
use Rattle.std.proofs.Math.Seq.{length-take-le, take-set-lt}
use borrow.Author.Tests.{eqb-true, le-leb, leb-false, not-false, not-true}
use Rattle.base.specs.Choice.{pick}
use Rattle.base.specs.Lists.{has, first_at, copies}
use Rattle.base.specs.Bytes.{blank}
use Rattle.base.specs.Laws.Tests.{by_test, both, and_i, pick_elim}
use Rattle.base.specs.Laws.Keep.{first_at_lt}
use Rattle.model.specs.Plans.{unknown_queue, no_such_item, invalid_request, Plan, Outcome, fault, cut, outcome_in, Follows}
use Rattle.model.specs.Queues.{Queue, at_queue, point_at, reading, read_next, read_at}
use Rattle.queue_rows.specs.Table.{Queues, slots_in, names_of, pointers_of, owners, row_of, contents, Store, store}
use Rattle.queue_rows.specs.Model.{queues_from, items_of, queues_of}
use Rattle.queue_rows.specs.Sound.{pointed, sound_q, SoundS}
use Rattle.queue_rows.specs.Place.{slot_in}
use Rattle.queue_rows.specs.Read.{point_to, pointer_of, read_in, read_next_in}
use Rattle.queue_rows.specs.Laws.Typed.{Fits, rows_long}
use Rattle.queue_rows.specs.Laws.From.{from_point}
use Rattle.queue_rows.specs.Laws.Stands.{QueuesHold, holds, held_sound, known_of_lem}
use Rattle.queue_rows.specs.Laws.Follows.{follows_fault, follows_effect}
use Rattle.queue_rows.specs.Laws.Rows.{slots_number, at_place, item_at_lem, no_place_lem, pointer_of_lem}

-- ---- the cases

module _ (q : Queues) (b : List ℕ) (n p room : ℕ) where
  -- the item given, and the pointer set
  abbrev pub given : Outcome Queues
  given = cut (point_to q n p) room (contents q b (slot_in q n p))

  pub read_elim : (P : Outcome Queues → Type 0)
      → (eqb n (blank 8) ≡ true → P (fault q invalid_request))
      → (eqb n (blank 8) ≡ false → has n (names_of q) ≡ false → P (fault q unknown_queue))
      → (eqb n (blank 8) ≡ false → has n (names_of q) ≡ true → leb (slots_in q) (slot_in q n p) ≡ true → P (fault q no_such_item))
      → (eqb n (blank 8) ≡ false → has n (names_of q) ≡ true → leb (slots_in q) (slot_in q n p) ≡ false → P given)
      → P (read_in q b n p room)
  unfolding read_in
  read_elim P a u o d =
      let third : Outcome Queues = pick (leb (slots_in q) (slot_in q n p)) (fault q no_such_item) given in
      let second : Outcome Queues = pick (not (has n (names_of q))) (fault q unknown_queue) third in
      pick_elim P (eqb n (blank 8)) (fault q invalid_request) second a
      (λ e.
      pick_elim P (not (has n (names_of q))) (fault q unknown_queue) third (λ f. u e (not-true (has n (names_of q)) f))
      (λ f.
      let k : has n (names_of q) ≡ true = not-false (has n (names_of q)) f in
      pick_elim P (leb (slots_in q) (slot_in q n p)) (fault q no_such_item) given (o e k) (d e k)))

-- ---- the pointer moved

pointed_set : (os ns ps : List ℕ) (n p : ℕ) → pointed os ns ps ≡ true → p ≤ copies n os
    → pointed os ns (set ps (first_at (λ m. eqb m n) ns) p) ≡ true
pointed_set os [] ps n p h l = h
pointed_set os (m ∷ ns) [] n p h l = h
pointed_set os (m ∷ ns) (r ∷ ps) n p h l =
    let a = both (leb r (copies m os)) (pointed os ns ps) h in
    by_test (eqb m n)
    (λ e.
    let here : leb p (copies m os) ≡ true = rw (eqb-true m n e) (le-leb p (copies n os) l) in
    rw e (and_i here a.1))
    (λ e. rw e (and_i a.0 (pointed_set os ns ps n p a.1 l)))

module _ (q : Queues) (b : List ℕ) (f : Fits q b) (s : QueuesHold q) (n p : ℕ) (known : has n (names_of q) ≡ true) where
  moved : pointers_of (point_to q n p) ≡ set (pointers_of q) (row_of q n) p
  unfolding point_to
  moved =
      let row = first_at_lt (λ m. eqb m n) (names_of q) known in
      let long = length-take-le q.count q.names s.laid.few in
      take-set-lt q.count q.pointers (row_of q n) p (omega arith)

  point_stands : queues_of (store (point_to q n p) b) ≡ at_queue n (point_at p) (queues_of (store q b))
  unfolding queues_of items_of point_to
  point_stands =
      ap (queues_from (items_of q b) (names_of q)) moved
      ∙ from_point (items_of q b) n p (names_of q) (pointers_of q) (rows_long q f) s.unique

  point_sound : p ≤ copies n (owners q) → sound_q (point_to q n p) ≡ true
  unfolding point_to
  point_sound l =
      let laid = s.laid in
      held_sound (point_to q n p)
      (record {
        laid = record {
          few = laid.few;
          room = laid.room;
          owned = laid.owned;
          alone = laid.alone;
          taken = laid.taken;
          inside = laid.inside;
          filled = laid.filled;
        };
        unique = s.unique;
        named = s.named;
        pointing = rw moved (pointed_set (owners q) (names_of q) (pointers_of q) n p s.pointing l);
      })

-- ---- in the words of the model

module _ (s : Store) (f : Fits s.queues s.items) (h : SoundS s) where
  abbrev q : Queues
  q = s.queues

  abbrev b : List ℕ
  b = s.items

  abbrev l : List Queue
  l = queues_of s

  read_follows : (n p room : ℕ) → Follows queues_of SoundS (outcome_in (λ r. store r b) (read_in q b n p room)) l (reading l n p room)
  read_follows n p room =
      let P : Plan (List Queue) = reading l n p room in
      let r = holds q h in
      let known = known_of_lem q b f n in
      let none = no_place_lem q b f n r p in
      read_elim q b n p room (λ (o : Outcome Queues). Follows queues_of SoundS (outcome_in (λ x. store x b) o) l P)
      (λ e. follows_fault queues_of SoundS s P h 9 (rw e))
      (λ e k. follows_fault queues_of SoundS s P h 1 (rw (e, known, k)))
      (λ e k g. follows_fault queues_of SoundS s P h 2 (rw (e, known, k, none, g)))
      (λ e k g.
      let below : slot_in q n p < slots_in q = leb-false (slots_in q) (slot_in q n p) g in
      let a = at_place q b f n p below in
      follows_effect queues_of SoundS s P (outcome_in (λ x. store x b) (given q b n p room)) (rw (e, known, k, none, g))
      (ap₂ (λ (x : List Queue) (y : List ℕ). cut x room y) (point_stands q b f r n p k) (sym (item_at_lem q b f n p k below)))
      (point_sound q b f r n p k (omega (arith, a.to, slots_number q b f n))))

  pub at_follows : (n p room : ℕ)
      → Follows queues_of SoundS (outcome_in (λ r. store r s.items) (read_in s.queues s.items n p room)) (queues_of s)
      (read_at (queues_of s) n p room)
  unfolding read_at
  at_follows n p room = read_follows n p room

  pub next_follows : (n room : ℕ)
      → Follows queues_of SoundS (outcome_in (λ r. store r s.items) (read_next_in s.queues s.items n room)) (queues_of s)
      (read_next (queues_of s) n room)
  unfolding read_next read_next_in
  next_follows n room =
      subst (λ (k : ℕ). Follows queues_of SoundS (outcome_in (λ r. store r b) (read_in q b n (pointer_of q n + 1) room)) l (reading l n (k + 1) room))
      (sym (pointer_of_lem q b f n (holds q h))) (read_follows n (pointer_of q n + 1) room)
