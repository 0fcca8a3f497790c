-- The cases of `read_in`, as the code comes to them. Assumes nothing.
use Rattle.std.specs.Prelude.{◌≡◌, ℕ, ◌<◌, ◌≤◌, length, position, eqb, get_or, set, Ok, Err, Some, None}
use Rattle.std.proofs.Common.{sym, ap, ◌∙◌, arith, length-take, get_or-take, ne_eqb}
use Rattle.std.proofs.Math.ListN.{get_or-eq_default}
use Rattle.base.specs.Bytes.{blank}
use Rattle.base.specs.Laws.Keep.{first_at_none}
use Rattle.queues.specs.declared.Queues.{Queues}
use Rattle.queues.specs.declared.read.ReadError.TheVariants.{NoSuchItem, UnknownQueue}
use Rattle.queues.specs.Table.{names_of, pointers_of, row_of}
use Rattle.queues.specs.Place.{slot_in}
use Rattle.queues.specs.Read.{part_in, pointer_of, answer, read_in}
use Rattle.queues.specs.Laws.Read as read
use Rattle.queues.specs.Laws.Read.{pointed_row}
use Rattle.queues.specs.Laws.Rows.{place_few}
use Rattle.queues.proofs.Rows.{row_some, row_none, row_within}

module _ (q : Queues) (n p room : ℕ) where
  module _ (d : n ≡ blank 8 → ⊥) where
    pub read_unknown : position (λ m. eqb m n) (names_of q) ≡ None → answer q (Err UnknownQueue) ≡ read_in q n p room
    read_unknown h = read.read_unknown q n p room (ne_eqb n (blank 8) d) (row_none q n h)

    module _ (row : ℕ) (h : position (λ m. eqb m n) (names_of q) ≡ Some row) where
      pub read_none : slot_in q n p ≡ None → answer q (Err NoSuchItem) ≡ read_in q n p room
      read_none g = read.read_none q n p room (ne_eqb n (blank 8) d) (row_some q n row h).0 g

      pub read_done : (k : ℕ) → slot_in q n p ≡ Some k → answer (record {
        count = q.count;
        names = q.names;
        pointers = set q.pointers row p;
        used = q.used;
        owner = q.owner;
        slot = q.slot;
        len = q.len;
      }) (Ok (part_in q room k)) ≡ read_in q n p room
      read_done k g =
          let f = row_some q n row h in
          ap (λ (x : Queues). answer x (Ok (part_in q room k))) (pointed_row q n p row f.1) ∙ read.read_done q n p room (ne_eqb n (blank 8) d) f.0 k g

-- ---- the pointer

module _ (q : Queues) (n : ℕ) (l : length q.names ≡ 16) where
  pub pointer_some : (row : ℕ) → position (λ m. eqb m n) (names_of q) ≡ Some row → get_or q.pointers row 0 ≡ pointer_of q n
  pointer_some row h =
      let live : row < q.count = omega (arith, row_within q n row l h) in
      sym (get_or-take q.count q.pointers row 0 live) ∙ ap (λ (r : ℕ). get_or (pointers_of q) r 0) (row_some q n row h).1

  pub pointer_none : length q.pointers ≡ 16 → position (λ m. eqb m n) (names_of q) ≡ None → 0 ≡ pointer_of q n
  pointer_none m h =
      let past : length (pointers_of q) ≤ row_of q n =
      omega (arith, first_at_none (λ m. eqb m n) (names_of q) (row_none q n h), length-take q.count q.names, length-take q.count q.pointers) in
      sym (get_or-eq_default (pointers_of q) 0 past)

-- for the searches of `Queues::read` and `Queues::pointer`
pub ruleset cases = (read_unknown, read_none, read_done, place_few)

pub ruleset pointers = (pointer_some, pointer_none)
