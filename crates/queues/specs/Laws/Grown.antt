-- One row more: the struct is sound again and stands for one empty queue more. Assumes nothing.
use Rattle.std.specs.Prelude.{◌≡◌, refl, Bool, true, false, not, ◌&&◌, ℕ, ◌^◌, ◌≤◌, ◌<◌, eqb, leb, length}
use Rattle.std.proofs.Math.Path.{ap, ap₂}
use Rattle.std.proofs.Common.{◌∙◌, arith, take-suc-set, leb-false, le-leb}
use mathlib.Core.List.{List, [], ◌∷◌, ◌++◌}
use Rattle.std.proofs.Math.Numerals.{add-one}
use Rattle.std.proofs.Math.ListN.{length-set}
use Rattle.base.specs.Lists.{has, copies}
use Rattle.base.specs.Bytes.{blank}
use Rattle.base.specs.Laws.Tests.{and_l, and_r, and_i, or_r, eqb_same, pick_elim}
use Rattle.base.specs.Laws.Counting.{has_append, once_snoc, within_left}
use Rattle.model.specs.Queues.{no_items, made}
use Rattle.queues.specs.declared.Queues.{Queues}
use Rattle.queues.specs.Table.{names_of, pointers_of, owners}
use Rattle.queues.specs.Model.{queues_from, items_of, queues_of}
use Rattle.queues.specs.Sound.{pointed}
use Rattle.queues.specs.Append.{grown, with_queue}
use Rattle.queues.specs.Laws.Typed.{Typed, set_below, rows_long}
use Rattle.queues.specs.Laws.From.{from_snoc}
use Rattle.queues.specs.Laws.Stands.{QueuesHold, known_of_lem, items_unknown}

pub pointed_snoc : (os : List ℕ) (n p : ℕ) (ns ps : List ℕ) → pointed os ns ps ≡ true → p ≤ copies n os → length ns ≡ length ps
    → pointed os (ns ++ (n ∷ [])) (ps ++ (p ∷ [])) ≡ true
pointed_snoc os n p [] [] h g l = and_i (le-leb p (copies n os) g) refl
pointed_snoc os n p [] (r ∷ ps) h g l = absurd (omega arith)
pointed_snoc os n p (m ∷ ns) [] h g l = absurd (omega arith)
pointed_snoc os n p (m ∷ ns) (r ∷ ps) h g l =
    let here : Bool = leb r (copies m os) in
    and_i (and_l here (pointed os ns ps) h) (pointed_snoc os n p ns ps (and_r here (pointed os ns ps) h) g (omega arith))

module _ (q : Queues) (n : ℕ) (t : Typed q) (room : q.count < 16) where
  grown_names : names_of (grown q n) ≡ names_of q ++ (n ∷ [])
  unfolding grown
  grown_names = rw add-one (take-suc-set q.names q.count n (omega (arith, t.names_long)))

  grown_pointers : pointers_of (grown q n) ≡ pointers_of q ++ (0 ∷ [])
  unfolding grown
  grown_pointers = rw add-one (take-suc-set q.pointers q.count 0 (omega (arith, t.pointers_long)))

  grown_typed : n < 2 ^ 64 → Typed (grown q n)
  unfolding grown
  grown_typed h = record {
    names_long = length-set q.names q.count n ∙ t.names_long;
    pointers_long = length-set q.pointers q.count 0 ∙ t.pointers_long;
    owner_long = t.owner_long;
    slot_long = t.slot_long;
    len_long = t.len_long;
    words = t.words;
    name_fits = set_below (2 ^ 64) q.names q.count n t.name_fits h;
    pointer_fits = set_below 256 q.pointers q.count 0 t.pointer_fits (omega arith);
    owner_fits = t.owner_fits;
    slot_fits = t.slot_fits;
    len_fits = t.len_fits;
  }

  module _ (s : QueuesHold q) (new : has n (names_of q) ≡ false) where
    grown_stands : (b : List ℕ) → queues_of (grown q n) b ≡ queues_of q b ++ (no_items n ∷ [])
    unfolding queues_of items_of grown
    grown_stands b =
        ap₂ (queues_from (items_of q b)) grown_names grown_pointers
        ∙ from_snoc (items_of q b) n 0 (names_of q) (pointers_of q) (rows_long q t)
        ∙ ap (λ (i : List (List ℕ)). queues_of q b ++ (record { name = n; pointer = 0; items = i } ∷ [])) (items_unknown q b s n new)

    grown_holds : eqb n (blank 8) ≡ false → QueuesHold (grown q n)
    unfolding grown
    grown_holds d = record {
      laid = record {
        few = omega arith;
        owned = rw grown_names (within_left (owners q) (names_of q) (n ∷ []) s.laid.owned);
        alone = s.laid.alone;
        taken = s.laid.taken;
        filled = s.laid.filled;
      };
      unique = rw grown_names (once_snoc n (names_of q) new s.unique);
      named = rw (grown_names, has_append (blank 8) (names_of q) (n ∷ []), s.named, d);
      pointing = rw (grown_names, grown_pointers) (pointed_snoc (owners q) n 0 (names_of q) (pointers_of q) s.pointing (omega arith) (rows_long q t));
    }

-- ---- a queue that is there, or is made

-- what is known of a struct in which the name has a row, and which is otherwise as it was
pub record Ready (q : Queues) (n : ℕ) (r : Queues) : Type 0 where
  pub typed : Typed r
  pub held : QueuesHold r
  pub there : has n (names_of r) ≡ true
  pub same : r.used ≡ q.used
  pub owned : owners r ≡ owners q
  pub stands : (b : List ℕ) → queues_of r b ≡ made (queues_of q b) n

module _ (q : Queues) (n : ℕ) (t : Typed q) (s : QueuesHold q) where
  ready_old : has n (names_of q) ≡ true → Ready q n q
  ready_old h = record { typed = t; held = s; there = h; same = refl; owned = refl; stands = λ b. rw (known_of_lem q b t n, h) }

  ready_new : n < 2 ^ 64 → eqb n (blank 8) ≡ false → q.count < 16 → has n (names_of q) ≡ false → Ready q n (grown q n)
  unfolding grown
  ready_new w d room h = record {
    typed = grown_typed q n t room w;
    held = grown_holds q n t room s h d;
    there = ap (has n) (grown_names q n t room) ∙ has_append n (names_of q) (n ∷ []) ∙ or_r (has n (names_of q)) (has n (n ∷ [])) (rw (eqb_same n));
    same = refl;
    owned = refl;
    stands = λ b. rw (known_of_lem q b t n, h) (grown_stands q n t room s h b);
  }

  pub ready : n < 2 ^ 64 → eqb n (blank 8) ≡ false → (not (has n (names_of q)) && leb 16 q.count) ≡ false → Ready q n (with_queue q n)
  ready w d e =
      pick_elim (λ (r : Queues). Ready q n r) (has n (names_of q)) q (grown q n) ready_old
      (λ h. ready_new w d (leb-false 16 q.count (rw h at e)) h)
