-- One row more: the words are sound again and stand for one empty queue more. Assumes nothing.
use Rattle.std.specs.Prelude.{◌≡◌, refl, true, false, not, ◌&&◌, ℕ, ◌≤◌, ◌<◌, eqb, leb, length}
use Rattle.std.proofs.Math.Path.{ap, ap₂}
use Rattle.std.proofs.Common.{◌∙◌, arith, take-suc-set, leb-false, le-leb}
use mathlib.Core.List.{List, [], ◌∷◌, ◌++◌}
use Rattle.std.proofs.Math.Nat.{suc_inj}
use Rattle.std.proofs.Math.Numerals.{add-one}
use Rattle.std.proofs.Math.ListN.{length-set}
use Rattle.base.specs.Lists.{has, copies}
use Rattle.base.specs.Bytes.{blank}
use Rattle.base.specs.Laws.Tests.{both, and_i, or_r, eqb_same, pick_elim}
use Rattle.base.specs.Laws.Counting.{has_append, once_snoc, within_left}
use Rattle.model.specs.Queues.{no_items, made}
use Rattle.queue_rows.specs.Table.{Queues, rows_in, slots_in, names_of, pointers_of, owners, store}
use Rattle.queue_rows.specs.Model.{queues_from, items_of, queues_of}
use Rattle.queue_rows.specs.Sound.{pointed}
use Rattle.queue_rows.specs.Append.{grown, with_queue}
use Rattle.queue_rows.specs.Laws.Typed.{Fits, rows_long}
use Rattle.queue_rows.specs.Laws.From.{from_snoc}
use Rattle.queue_rows.specs.Laws.Stands.{QueuesHold, known_of_lem, items_unknown}

pointed_snoc : (os : List ℕ) (n p : ℕ) (ns ps : List ℕ) → pointed os ns ps ≡ true → p ≤ copies n os → length ns ≡ length ps
    → pointed os (ns ++ (n ∷ [])) (ps ++ (p ∷ [])) ≡ true
pointed_snoc os n p [] [] h g l = and_i (le-leb p (copies n os) g) refl
pointed_snoc os n p [] (r ∷ ps) h g l = absurd (omega arith)
pointed_snoc os n p (m ∷ ns) [] h g l = absurd (omega arith)
pointed_snoc os n p (m ∷ ns) (r ∷ ps) h g l =
    let a = both (leb r (copies m os)) (pointed os ns ps) h in
    and_i a.0 (pointed_snoc os n p ns ps a.1 g (suc_inj l))

grown_fits : (q : Queues) (b : List ℕ) (n : ℕ) → Fits q b → Fits (grown q n) b
unfolding grown
grown_fits q b n f = record {
  pointers_long = simp (length-set, f.pointers_long);
  owner_long = f.owner_long;
  len_long = f.len_long;
  slots_few = f.slots_few;
  bytes_long = f.bytes_long;
  words = f.words;
}

module _ (q : Queues) (b : List ℕ) (f : Fits q b) (n : ℕ) (room : q.count < rows_in q) where
  grown_names : names_of (grown q n) ≡ names_of q ++ (n ∷ [])
  unfolding grown
  grown_names = rw add-one (take-suc-set q.names q.count n room)

  grown_pointers : pointers_of (grown q n) ≡ pointers_of q ++ (0 ∷ [])
  unfolding grown
  grown_pointers = rw add-one (take-suc-set q.pointers q.count 0 (rw f.pointers_long room))

  module _ (s : QueuesHold q) (new : has n (names_of q) ≡ false) where
    grown_stands : queues_of (store (grown q n) b) ≡ queues_of (store q b) ++ (no_items n ∷ [])
    unfolding queues_of items_of grown
    grown_stands =
        ap₂ (queues_from (items_of q b)) grown_names grown_pointers
        ∙ from_snoc (items_of q b) n 0 (names_of q) (pointers_of q) (rows_long q f)
        ∙ ap (λ (i : List (List ℕ)). queues_of (store q b) ++ (record { name = n; pointer = 0; items = i } ∷ [])) (items_unknown q b s n new)

    grown_holds : eqb n (blank 8) ≡ false → QueuesHold (grown q n)
    unfolding grown
    grown_holds d = record {
      laid = record {
        few = rw length-set (omega arith);
        room = s.laid.room;
        owned = rw grown_names (within_left (owners q) (names_of q) (n ∷ []) s.laid.owned);
        alone = s.laid.alone;
        taken = s.laid.taken;
        inside = s.laid.inside;
        filled = s.laid.filled;
      };
      unique = rw grown_names (once_snoc n (names_of q) new s.unique);
      named = rw (grown_names, has_append (blank 8) (names_of q) (n ∷ []), s.named, d);
      pointing = rw (grown_names, grown_pointers) (pointed_snoc (owners q) n 0 (names_of q) (pointers_of q) s.pointing (omega arith) (rows_long q f));
    }

-- ---- a queue that is there, or is made

-- what is known of words in which the name has a row, and which are otherwise as they were
pub record Ready (q : Queues) (b : List ℕ) (n : ℕ) (r : Queues) : Type 0 where
  pub fits : Fits r b
  pub held : QueuesHold r
  pub there : has n (names_of r) ≡ true
  pub used : r.used ≡ q.used
  pub slots : slots_in r ≡ slots_in q
  pub owned : owners r ≡ owners q
  pub stands : queues_of (store r b) ≡ made (queues_of (store q b)) n

module _ (q : Queues) (b : List ℕ) (f : Fits q b) (s : QueuesHold q) (n : ℕ) where
  ready_old : has n (names_of q) ≡ true → Ready q b n q
  ready_old h = record { fits = f; held = s; there = h; used = refl; slots = refl; owned = refl; stands = rw (known_of_lem q b f n, h) }

  ready_new : eqb n (blank 8) ≡ false → q.count < rows_in q → has n (names_of q) ≡ false → Ready q b n (grown q n)
  unfolding grown
  ready_new d room h = record {
    fits = grown_fits q b n f;
    held = grown_holds q b f n room s h d;
    there = ap (has n) (grown_names q b f n room) ∙ has_append n (names_of q) (n ∷ []) ∙ or_r (has n (names_of q)) (has n (n ∷ [])) (rw (eqb_same n));
    used = refl;
    slots = refl;
    owned = refl;
    stands = rw (known_of_lem q b f n, h) (grown_stands q b f n room s h);
  }

  pub ready : eqb n (blank 8) ≡ false → (not (has n (names_of q)) && leb (rows_in q) q.count) ≡ false → Ready q b n (with_queue q n)
  ready d e =
      pick_elim (λ (r : Queues). Ready q b n r) (has n (names_of q)) q (grown q n) ready_old
      (λ h. ready_new d (leb-false (rows_in q) q.count (rw h at e)) h)
