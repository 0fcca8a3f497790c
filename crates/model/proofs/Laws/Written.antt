-- Of the model, from sound tables under limits that an answer can carry: each answer can be written. Its number has 4 bytes, its label 2,
-- its bytes are at most 64 and bytes, and a refusal has nothing else in it.
-- Assumes nothing.
use Rattle.std.specs.Prelude.{ℕ, suc, zero, ◌+◌, ◌^◌, ◌<◌, ◌≤◌, ◌≡◌, refl, true, List, [], ◌∷◌, ◌++◌, length, take, leb, ltb, eqb}
use Rattle.std.proofs.Common.{arith, mod-lt, inl, inr, length-take, leb-false, ltb-true}
use Rattle.base.specs.Bytes.{bytes_of, is_bytes}
use Rattle.base.specs.Laws.Tests.{by_test, and_r}
use Rattle.base.specs.Laws.Bytes.{is_bytes_join, is_bytes_take, is_bytes_bytes_of}
use Rattle.model.specs.Limits.{Limits, Fit}
use Rattle.model.specs.Plans.{first_of, Outcome, obey}
use Rattle.model.specs.Queues.{Queue, reading, item_at, queue_of, append, read_next, read_at, rewrite, delete, items_in, sound_queues}
use Rattle.model.specs.Interval.{Interval, Request, request_of, server, sound_interval, define_program, define_terminal, advance, ask_ticks, dispatch, start, cancel, retrieve}
use Rattle.model.specs.Handlers.{Setting, Unset, Ignore, Label, decides, sound_setting, handle, ignore, reset}
use Rattle.model.specs.State.{State, sound}
use Rattle.model.specs.Commands.{Row, Answer, Turn, command, issuer, operand, rest, table, row_of, formed, allowed, plan_of, obeyed, plain, settled, settle, step}
use Rattle.model.specs.Demands.{Proper}
use Rattle.model.specs.Laws.Rows.{Each, ◌▹◌, of_every}
use Rattle.model.proofs.Laws.SoundQueues.{item_size, item_bytes, items_few}
use Rattle.model.proofs.Laws.SoundTasks.{decides_sound}
use Rattle.model.proofs.Laws.IntervalSizes.{own_size, server_size, requests_few, line_few, newly_few}
use Rattle.model.proofs.Laws.Conditions.{dispatch_is, retrieve_is, append_is, settle_is, Fine, step_heard, turn_is, fine_heard}
use Rattle.model.proofs.Laws.SoundStep.{StateSound, view}

-- ---- a refusal

pub proper_plain : (c : ℕ) → 32 ≤ c → c ≤ 34 → Proper (plain c)
proper_plain c g k = record {
  condition = inr (g, k);
  action = omega arith;
  unlabelled = λ _. refl;
  label = omega arith;
  number = omega arith;
  size = omega arith;
  bytes = refl;
  refusal = λ _. refl;
}

-- ---- a number and bytes that an answer can carry

record Small (n : ℕ) (b : List ℕ) : Type 0 where
  number : n < 2 ^ 32
  size : length b ≤ 64
  bytes : is_bytes b ≡ true

small : {n : ℕ} → n < 2 ^ 32 → Small n []
small h = record { number = h; size = omega arith; bytes = refl }

-- a reader gets part of what it reads, and its length
small_cut : (room : ℕ) (b : List ℕ) → length b ≤ 64 → is_bytes b ≡ true → Small (length b) (take room b)
small_cut room b h e = record { number = omega arith; size = rw (length-take room b) (omega arith); bytes = is_bytes_take room b e }

-- dispatch gives three names
small_names : (n a b c : ℕ) → n < 2 ^ 32 → Small n (bytes_of 8 a ++ bytes_of 4 b ++ bytes_of 4 c)
small_names n a b c h = record {
  number = h;
  size = omega arith;
  bytes = is_bytes_join (bytes_of 8 a) (bytes_of 4 b ++ bytes_of 4 c) (is_bytes_bytes_of 8 a) (is_bytes_join (bytes_of 4 b) (bytes_of 4 c) (is_bytes_bytes_of 4 b) (is_bytes_bytes_of 4 c));
}

-- ---- what the tables hold

-- the items of one queue are among those of all
items_in_lem : (l : List Queue) (n : ℕ) → length (queue_of l n).items ≤ items_in l
items_in_lem [] n = omega arith
items_in_lem (q ∷ l) n = by_test (eqb q.name n) (λ t. rw t (omega arith)) (λ t. rw t (omega (arith, items_in_lem l n)))

module _ (L : Limits) (F : Fit L) where
  module _ (i : Interval) (h : sound_interval L i ≡ true) where
    -- no more than the requests: a number that an answer can carry
    few : {n : ℕ} → n ≤ length i.requests → n < 2 ^ 32
    few e = omega (arith, requests_few L i h, F.requests)

    small_data : (room : ℕ) (b : List ℕ) → (length b ≤ L.item) × (is_bytes b ≡ true) → Small (length b) (take room b)
    small_data room b e = small_cut room b (omega (arith, e.0, F.item)) e.1

    small_advance : (n : ℕ) → Small (advance L i n).effect.number (advance L i n).effect.bytes
    unfolding advance
    small_advance n = small (few (newly_few i (i.clock + n)))

    small_ask : Small (ask_ticks i).effect.number (ask_ticks i).effect.bytes
    unfolding ask_ticks
    small_ask = small (mod-lt i.clock (omega arith))

    small_dispatch : Small (dispatch i).effect.number (dispatch i).effect.bytes
    small_dispatch =
        dispatch_is (λ o. Small o.number o.bytes) i
        (λ q n e. small_names n q.name q.program q.terminal (few (omega (arith, line_few i)))) (small (few (line_few i)))

    small_retrieve : (n room : ℕ) → Small (retrieve i n room).effect.number (retrieve i n room).effect.bytes
    small_retrieve n room =
        let t : Request = request_of i.requests n in
        retrieve_is (λ o. Small o.number o.bytes) i n room (small_data room t.bytes (own_size L i h n)) (small_data room (server i t).bytes (server_size L i h t))

  module _ (l : List Queue) (h : sound_queues L l ≡ true) (n : ℕ) where
    small_append : (b : List ℕ) → Small (append L L.slots l n b).effect.number (append L L.slots l n b).effect.bytes
    small_append b =
        append_is (λ o. Small o.number o.bytes) L L.slots l n b (λ _. small (omega arith))
        (λ t. small (omega (arith, items_in_lem l n, leb-false L.slots (items_in l) t, F.slots)))

    small_reading : (p room : ℕ) → Small (reading l n p room).effect.number (reading l n p room).effect.bytes
    small_reading p room = small_cut room (item_at (queue_of l n) p) (omega (arith, item_size L l n p h, F.item)) (item_bytes L l n p h)

    small_delete : Small (delete l n).effect.number (delete l n).effect.bytes
    unfolding delete
    small_delete = small (omega (arith, items_few L l n h, F.slots))

  -- ---- the rows
  module _ (s : State) (h : StateSound L s) (r : List ℕ) where
    abbrev SmallRow : ℕ → Row → Type 0
    SmallRow n w = Small (w.plans L s r).effect.number (w.plans L s r).effect.bytes

    none : Small 0 []
    none = small (omega arith)

    small_rows : Each (λ n. SmallRow (suc n)) table
    unfolding define_program define_terminal start cancel read_next read_at rewrite handle ignore reset
    small_rows =
        none
        ▹ none
        ▹ small_advance s.interval h.interval (operand 0 4 r)
        ▹ small_ask s.interval h.interval
        ▹ small_dispatch s.interval h.interval
        ▹ none
        ▹ none
        ▹ small_retrieve s.interval h.interval (issuer r) (operand 0 1 r)
        ▹ none
        ▹ small_append s.queues h.queues (operand 0 8 r) (rest 8 r)
        ▹ small_reading s.queues h.queues (operand 0 8 r) ((queue_of s.queues (operand 0 8 r)).pointer + 1) (operand 8 1 r)
        ▹ small_reading s.queues h.queues (operand 0 8 r) (operand 8 2 r) (operand 10 1 r)
        ▹ none
        ▹ small_delete s.queues h.queues (operand 0 8 r)
        ▹ none
        ▹ none
        ▹ none
        ▹ tt

    -- ---- one record
    small_obey : (c : ℕ) (o : Outcome State) → Small o.number o.bytes → Small (obey s c o).number (obey s c o).bytes
    small_obey zero o k = k
    small_obey (suc c) o k = none

    small_obeyed : Small (obeyed L s r).number (obeyed L s r).bytes
    unfolding obeyed
    small_obeyed =
        let w : Row = row_of (command r) in
        small_obey (first_of (plan_of w L s r).checks) (w.plans L s r).effect (of_every SmallRow (λ _. none) small_rows (command r))

    -- a label that can be written; the handlers leave number and bytes
    record Written (a : Answer) : Type 0 where
      label : a.label < 2 ^ 16
      rest : Small a.number a.bytes

    written_settled : (o : Outcome State) → Small o.number o.bytes → (n : ℕ) (x : Setting) → sound_setting x ≡ true → Written (settled o n x).answer
    written_settled o k n Unset e = record { label = omega arith; rest = k }
    written_settled o k n Ignore e = record { label = omega arith; rest = k }
    written_settled o k n (Label l) e = record { label = ltb-true l (2 ^ 16) (and_r (leb 1 l) (ltb l (2 ^ 16)) e); rest = k }

    written_settle : (o : Outcome State) → Small o.number o.bytes → (n : ℕ) → Written (settle s n o).answer
    written_settle o k n =
        let x : Setting = decides s.tasks n o.condition in
        settle_is (λ (t : Turn). Written t.answer) s n o (written_settled o k n Ignore refl)
        (written_settled o k n x (decides_sound s.tasks n o.condition h.tasks))

    written_heard : formed r ≡ true → allowed s r ≡ true → Written (step L s r).answer
    written_heard e f = rw (step_heard L s r e f) (written_settle (obeyed L s r) small_obeyed (issuer r))

    proper_heard : formed r ≡ true → allowed s r ≡ true → Proper (step L s r).answer
    proper_heard e f =
        let x : Fine s r (step L s r) = fine_heard L s r e f in
        let w : Written (step L s r).answer = written_heard e f in
        record {
          condition = inl x.small;
          action = x.action;
          unlabelled = x.unlabelled;
          label = w.label;
          number = w.rest.number;
          size = w.rest.size;
          bytes = w.rest.bytes;
          refusal = λ g. absurd (omega (arith, x.small));
        }

pub step_proper : (L : Limits) (s : State) (r : List ℕ) → Fit L → sound L s ≡ true → is_bytes r ≡ true → Proper (step L s r).answer
step_proper L s r F h _ =
    turn_is L s r (λ (x : Turn). Proper x.answer) (proper_heard L F s (view L s h) r)
    (proper_plain 34 (omega arith) (omega arith)) (proper_plain 33 (omega arith) (omega arith))
