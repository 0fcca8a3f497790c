-- Read next and read at: the cases of the exact definition, where a part lies, and that from sound queues a read does what the model's plan
-- says and leaves sound queues. Assumes nothing.
use Rattle.std.specs.Prelude.{◌≡◌, refl, false, not, List, [], ◌∷◌, ℕ, ◌+◌, ◌*◌, ◌<◌, ◌≤◌, min, eqb, leb, ltb, length, take, drop, get_or, set, Option, Some, None, Ok, Err}
use Rattle.std.proofs.Common.{sym, ◌∙◌, arith, take-take, take_all}
use Rattle.std.proofs.Math.Path.{ap, subst}
use Rattle.std.proofs.Math.Bool.{true}
use Rattle.std.proofs.Math.Seq.{take-set-lt}
use borrow.Author.Tests.{eqb-true, le-leb, leb-true, leb-false, lt-ltb, le-ltb, ltb-true, ltb-false, not-false, not-true}
use Rattle.base.specs.Choice.{pick}
use Rattle.base.specs.Lists.{has, first_at, copies}
use Rattle.base.specs.Bytes.{blank}
use Rattle.base.specs.Laws.Tests.{by_test, and_l, and_r, and_i, pick_elim}
use Rattle.model.specs.Plans.{Plan, Outcome, first_of, obey, cut, normal, wrong_length}
use Rattle.model.specs.Queues.{Queue, queue_of, at_queue, point_at, item_at, reading, read_next, read_at}
use Rattle.queues.specs.declared.Queues.{Queues}
use Rattle.queues.specs.declared.read.ReadError.TheVariants.{NoSuchItem, UnknownQueue, Invalid}
use Rattle.queues.specs.declared.read.Read.{Read}
use Rattle.queues.specs.Table.{names_of, pointers_of, owners, row_of, slots_in}
use Rattle.queues.specs.Model.{queues_from, items_of, queues_of}
use Rattle.queues.specs.Sound.{pointed, sound_q, Did}
use Rattle.queues.specs.Place.{slot_in}
use Rattle.queues.specs.Read.{condition_of, number_of, bytes_of, Lies, part_in, point_to, pointer_of, answer, at_slot, read_in, read_next_in}
use Rattle.queues.specs.Laws.Typed.{Typed, rows_long}
use Rattle.queues.specs.Laws.From.{from_point, from_same}
use Rattle.queues.specs.Laws.Stands.{QueuesHold, holds, held_sound, known_of_lem}
use Rattle.queues.specs.Laws.Place.{at_found}
use Rattle.queues.specs.Laws.Rows.{faulty, clear, known_row, slots_number, no_place_lem, pointer_of_lem, item_at_lem, item_long}

-- ---- the cases

module _ (q : Queues) (n p room : ℕ) where
  abbrev pub done : ℕ → Read
  done k = answer (point_to q n p) (Ok (part_in q room k))

  pub read_elim : (P : Read → Type 0)
      → (eqb n (blank 8) ≡ true → P (answer q (Err Invalid)))
      → (eqb n (blank 8) ≡ false → has n (names_of q) ≡ false → P (answer q (Err UnknownQueue)))
      → (eqb n (blank 8) ≡ false → has n (names_of q) ≡ true → slot_in q n p ≡ None → P (answer q (Err NoSuchItem)))
      → (eqb n (blank 8) ≡ false → has n (names_of q) ≡ true → (k : ℕ) → slot_in q n p ≡ Some k → P (done k))
      → P (read_in q n p room)
  unfolding read_in
  read_elim P a u o d =
      let third : Read = at_slot q n p room (slot_in q n p) in
      let second : Read = pick (not (has n (names_of q))) (answer q (Err UnknownQueue)) third in
      pick_elim P (eqb n (blank 8)) (answer q (Err Invalid)) second a
      (λ e.
      pick_elim P (not (has n (names_of q))) (answer q (Err UnknownQueue)) third (λ f. u e (not-true (has n (names_of q)) f))
      (λ f. slot_case (o e (not-false (has n (names_of q)) f)) (d e (not-false (has n (names_of q)) f)) (slot_in q n p) refl))
    where
      slot_case : (slot_in q n p ≡ None → P (answer q (Err NoSuchItem))) → ((k : ℕ) → slot_in q n p ≡ Some k → P (done k))
          → (x : Option ℕ) → slot_in q n p ≡ x → P (at_slot q n p room x)
      slot_case o d None z = o z
      slot_case o d (Some k) z = d k z

  pub read_invalid : eqb n (blank 8) ≡ true → answer q (Err Invalid) ≡ read_in q n p room
  unfolding read_in
  read_invalid e = rw e

  pub read_unknown : eqb n (blank 8) ≡ false → has n (names_of q) ≡ false → answer q (Err UnknownQueue) ≡ read_in q n p room
  unfolding read_in
  read_unknown e f = rw (e, f)

  pub read_none : eqb n (blank 8) ≡ false → has n (names_of q) ≡ true → slot_in q n p ≡ None → answer q (Err NoSuchItem) ≡ read_in q n p room
  unfolding read_in
  read_none e f g = rw (e, f, g)

  pub read_done : eqb n (blank 8) ≡ false → has n (names_of q) ≡ true → (k : ℕ) → slot_in q n p ≡ Some k → done k ≡ read_in q n p room
  unfolding read_in
  read_done e f k g = rw (e, f, g)

-- ---- where a part lies

pub read_lies : (q : Queues) (n p room : ℕ) → Lies (read_in q n p room).outcome
read_lies q n p room =
    read_elim q n p room (λ (r : Read). Lies r.outcome) (λ _. tt) (λ _ _. tt) (λ _ _ _. tt)
    (λ _ _ k g.
    let a = at_found q.len (slots_in q n) p k g in
    record { fits = omega (arith, a.below, a.short); part = omega arith; short = a.short })

-- ---- a cut-off read, and a whole one

module _ {S : Type 0} (st : S) (room at m : ℕ) (b x : List ℕ) (is : x ≡ take m (drop at b)) (long : length x ≡ m) where
  -- as many bytes as there is room for
  fitting : take (min m room) (drop at b) ≡ take room x
  fitting =
      by_test (leb room m)
      (λ e.
      let h : room ≤ m = leb-true room m e in
      let k : min m room ≡ room = omega arith in
      ap (λ (j : ℕ). take j (drop at b)) k ∙ sym (ap (take room) is ∙ take-take room m (drop at b) h))
      (λ e.
      let h : m < room = leb-false room m e in
      let k : min m room ≡ m = omega arith in
      ap (λ (j : ℕ). take j (drop at b)) k ∙ sym is ∙ sym (take_all room x (omega arith)))

  -- what fits is less than the item exactly where the room is
  short_room : ltb (min m room) m ≡ ltb room m
  short_room =
      by_test (ltb room m)
      (λ e. let h : min m room < m = omega (arith, ltb-true room m e) in rw e (lt-ltb (min m room) m h))
      (λ e. let h : m ≤ min m room = omega (arith, ltb-false room m e) in rw e (le-ltb (min m room) m h))

  pub cut_is : record { condition = pick (ltb (min m room) m) wrong_length normal; number = m; bytes = take (min m room) (drop at b); state = st }
      ≡ cut st room x
  cut_is =
      by_test (ltb room m)
      (λ e. rw (short_room, long, e, fitting))
      (λ e. rw (short_room, long, e, fitting))

-- ---- the pointer moved

pointed_set : (os ns ps : List ℕ) (n p : ℕ) → pointed os ns ps ≡ true → p ≤ copies n os
    → pointed os ns (set ps (first_at (λ m. eqb m n) ns) p) ≡ true
pointed_set os [] ps n p h l = refl
pointed_set os (m ∷ ns) [] n p h l = refl
pointed_set os (m ∷ ns) (r ∷ ps) n p h l =
    let rest = and_r (leb r (copies m os)) (pointed os ns ps) h in
    by_test (eqb m n)
    (λ e.
    let here : leb p (copies m os) ≡ true = rw (eqb-true m n e) (le-leb p (copies n os) l) in
    rw e (and_i here rest))
    (λ e. rw e (and_i (and_l (leb r (copies m os)) (pointed os ns ps) h) (pointed_set os ns ps n p rest l)))

-- as the code sets it
pub pointed_row : (q : Queues) (n p row : ℕ) → row ≡ row_of q n
    → record {
      count = q.count;
      names = q.names;
      pointers = set q.pointers row p;
      used = q.used;
      owner = q.owner;
      slot = q.slot;
      len = q.len;
    }
    ≡ point_to q n p
unfolding point_to
pointed_row q n p row e = rw e

module _ (q : Queues) (t : Typed q) (n p : ℕ) (known : has n (names_of q) ≡ true) where
  moved : pointers_of (point_to q n p) ≡ set (pointers_of q) (row_of q n) p
  unfolding point_to
  moved = take-set-lt q.count q.pointers (row_of q n) p (omega (arith, known_row q t n known))

  point_stands : QueuesHold q → (b : List ℕ) → queues_of (point_to q n p) b ≡ at_queue n (point_at p) (queues_of q b)
  unfolding queues_of items_of point_to
  point_stands s b =
      from_same (items_of q b) (items_of (point_to q n p) b) (names_of q) (pointers_of (point_to q n p)) (λ m _. refl)
      ∙ ap (queues_from (items_of q b) (names_of q)) moved
      ∙ from_point (items_of q b) n p (names_of q) (pointers_of q) (rows_long q t) s.unique

  point_sound : QueuesHold q → p ≤ copies n (owners q) → sound_q (point_to q n p) ≡ true
  unfolding point_to
  point_sound s l =
      let laid = s.laid in
      held_sound (point_to q n p)
      (record {
        laid = record { few = laid.few; owned = laid.owned; alone = laid.alone; taken = laid.taken; filled = laid.filled };
        unique = s.unique;
        named = s.named;
        pointing = rw moved (pointed_set (owners q) (names_of q) (pointers_of q) n p s.pointing l);
      })

-- ---- in the words of the model

module _ (q : Queues) (t : Typed q) (s : QueuesHold q) (b : List ℕ) (long : length b ≡ 8192) (n p room : ℕ) where
  abbrev l : List Queue
  l = queues_of q b

  abbrev P : Plan (List Queue)
  P = reading l n p room

  -- what a read comes to
  abbrev told : Read → Outcome (List Queue)
  told r = record {
    condition = condition_of r.outcome;
    number = number_of r.outcome;
    bytes = bytes_of b r.outcome;
    state = queues_of r.queues b;
  }

  done_told : has n (names_of q) ≡ true → (k : ℕ) → slot_in q n p ≡ Some k → told (done q n p room k) ≡ P.effect
  done_told f k g =
      ap (λ (x : List Queue). record { condition = condition_of (done q n p room k).outcome; number = number_of (done q n p room k).outcome; bytes = bytes_of b (done q n p room k).outcome; state = x })
      (point_stands q t n p f s b)
      ∙ cut_is (at_queue n (point_at p) l) room (k * 64) (get_or q.len k 0) b (item_at (queue_of l n) p) (item_at_lem q t s b n p k f g)
      (ap length (item_at_lem q t s b n p k f g) ∙ item_long q t s b n p k f g long)

  read_told : told (read_in q n p room) ≡ obey l (first_of P.checks) P.effect
  read_told =
      read_elim q n p room (λ (r : Read). told r ≡ obey l (first_of P.checks) P.effect)
      (λ e. faulty l P.checks P.effect 9 (rw e))
      (λ e f. faulty l P.checks P.effect 1 (rw (e, known_of_lem q b t n, f)))
      (λ e f g. faulty l P.checks P.effect 2 (rw (e, known_of_lem q b t n, f, no_place_lem q t s b n p, g)))
      (λ e f k g. done_told f k g ∙ clear l P.checks P.effect (rw (e, known_of_lem q b t n, f, no_place_lem q t s b n p, g)))

  read_sound : sound_q q ≡ true → sound_q (read_in q n p room).queues ≡ true
  read_sound h =
      read_elim q n p room (λ (r : Read). sound_q r.queues ≡ true) (λ _. h) (λ _ _. h) (λ _ _ _. h)
      (λ _ f k g.
      point_sound q t n p f s (omega (arith, (at_found q.len (slots_in q n) p k g).to, slots_number q t s b n)))

  pub read_did : sound_q q ≡ true → (r : Read) → r ≡ read_in q n p room
      → Did q b r.queues b (reading (queues_of q b) n p room) (condition_of r.outcome) (number_of r.outcome) (bytes_of b r.outcome)
  read_did h r e = record {
    outcome = ap told e ∙ read_told;
    soundly = ap (λ (x : Read). sound_q x.queues) e ∙ read_sound h;
  }

-- ---- the promises of the two functions

module _ (q : Queues) (t : Typed q) (n room : ℕ) (r : Read) where
  pub read_at_all : (p : ℕ) → r ≡ read_in q n p room
      → (r ≡ read_in q n p room)
      × ((sound_q q ≡ true → (b : List ℕ) → length b ≡ 8192
      → Did q b r.queues b (read_at (queues_of q b) n p room) (condition_of r.outcome) (number_of r.outcome) (bytes_of b r.outcome))
      × Lies r.outcome)
  unfolding read_at
  read_at_all p e =
      (e, ((λ h b long. read_did q t (holds q h) b long n p room h r e), subst (λ (x : Read). Lies x.outcome) (sym e) (read_lies q n p room)))

  pub read_next_all : r ≡ read_in q n (pointer_of q n + 1) room
      → (r ≡ read_next_in q n room)
      × ((sound_q q ≡ true → (b : List ℕ) → length b ≡ 8192
      → Did q b r.queues b (read_next (queues_of q b) n room) (condition_of r.outcome) (number_of r.outcome) (bytes_of b r.outcome))
      × Lies r.outcome)
  unfolding read_next read_next_in
  read_next_all e = (
    e,
    (
      (λ h b long.
          subst (λ (p : ℕ). Did q b r.queues b (reading (queues_of q b) n (p + 1) room) (condition_of r.outcome) (number_of r.outcome) (bytes_of b r.outcome))
          (sym (pointer_of_lem q t (holds q h) b n)) (read_did q t (holds q h) b long n (pointer_of q n + 1) room h r e)),
      subst (λ (x : Read). Lies x.outcome) (sym e) (read_lies q n (pointer_of q n + 1) room),
    ),
  )
