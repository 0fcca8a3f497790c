-- What the types say, and how much is lent, is kept by one record, from sound tables and from others. Assumes nothing.
use Rattle.std.specs.Prelude.{ℕ, ◌^◌, ◌<◌, ◌≡◌, true, ◌||◌, List}
use Rattle.std.proofs.Math.Dec.{eqb}
use Rattle.base.specs.Bytes.{is_bytes, blank}
use Rattle.base.specs.Laws.Tests.{pick_elim}
use Rattle.base.specs.Laws.Bytes.{num_bound, is_bytes_drop}
use Rattle.model.specs.Plans.{normal, invalid_request, Outcome, fault}
use Rattle.model.specs.Commands.{Who, command, issuer, operand, rest, asked, wrong_kind, row_of, formed}
use Rattle.model.specs.Demands.{Stepped}
use Rattle.records.specs.Rows.{part_of}
use Rattle.records.specs.declared.Part.{Part}
use Rattle.records.specs.declared.Part.TheVariants as part
use Rattle.request_rows.specs.Stands.{Memory}
use Rattle.request_rows.specs.Typed as requests
use Rattle.request_rows.specs.Laws.Kept as requests-kept
use Rattle.std.specs.Prelude.{Option}
use Rattle.std.specs.Prelude.{Some, None}
use Rattle.queue_rows.specs.Table.{Store}
use Rattle.queue_rows.specs.Laws.Kept as queues
use Rattle.settings.specs.Table.{Tasks}
use Rattle.settings.specs.Decide.{decide_in}
use Rattle.settings.specs.Laws.Kept as lines-kept
use Rattle.settings.specs.declared.Setting.{Setting}
use Rattle.settings.specs.declared.Setting.TheVariants.{Unset, Ignore, Label}
use Rattle.turn_rules.specs.Tables.{Tables, interval_in, store_in, known, known_in, with_known}
use Rattle.turn_rules.specs.Ask.{ask_interval, ask_queues, ask_settings}
use Rattle.turn_rules.specs.Turn.{sender_in, finish_in, deed, obeyed_in, Settled, decided_as, settle_in, heard_as, turn_of}
use Rattle.turn_rules.specs.Standing.{Typed}
use Rattle.turn_rules.specs.Laws.Kept.{Keeps, AsMany, keeps_itself, keeps_then, memory_kept, settings_kept, store_kept, without_at_kept, without_kept}

module _ (t : Tables) (y : Typed t) where
  -- ---- the commands

  module _ (r : List ℕ) (b : is_bytes r ≡ true) where
    interval_asked : (n i : ℕ) → requests.Keeps (interval_in t) (ask_interval n i (interval_in t) r).state
    unfolding ask_interval
    interval_asked n i =
        let m = interval_in t in
        let h = y.memory in
        let Good : Outcome Memory → Type 0 = λ (o : Outcome Memory). requests.Keeps (interval_in t) o.state in
        pick_elim Good (eqb n 1) _ _ (λ _. requests-kept.program_kept m h (operand 0 4 r) (num_bound 9 4 r b))
        (λ _. pick_elim Good (eqb n 2) _ _ (λ _. requests-kept.terminal_kept m h (operand 0 4 r) (num_bound 9 4 r b))
        (λ _. pick_elim Good (eqb n 3) _ _ (λ _. requests-kept.advance_kept m h (operand 0 4 r))
        (λ _. pick_elim Good (eqb n 4) _ _ (λ _. requests-kept.ask_kept m h)
        (λ _. pick_elim Good (eqb n 5) _ _ (λ _. requests-kept.dispatch_kept m h)
        (λ _. pick_elim Good (eqb n 6) _ _
        (λ _. requests-kept.start_kept m h (asked r)
        (record { name = num_bound 9 8 r b; program = num_bound 17 4 r b; terminal = num_bound 21 4 r b; bytes = is_bytes_drop 29 r b }))
        (λ _. pick_elim Good (eqb n 7) _ _ (λ _. requests-kept.cancel_kept m h (operand 0 8 r)) (λ _. requests-kept.retrieve_kept m h i (operand 0 1 r))))))))

    queues_asked : (n : ℕ) → queues.Kept (store_in t) (ask_queues n (store_in t) r).state
    unfolding ask_queues
    queues_asked n =
        let p = store_in t in
        let f = y.fits in
        let h = y.store in
        let Good : Outcome Store → Type 0 = λ (o : Outcome Store). queues.Kept (store_in t) o.state in
        pick_elim Good (eqb n 10) _ _ (λ _. queues.append_kept p f h 128 (operand 0 8 r) (rest 8 r) (num_bound 9 8 r b) (is_bytes_drop 17 r b))
        (λ _. pick_elim Good (eqb n 11) _ _ (λ _. queues.next_kept p f h (operand 0 8 r) (operand 8 1 r))
        (λ _. pick_elim Good (eqb n 12) _ _ (λ _. queues.at_kept p f h (operand 0 8 r) (operand 8 2 r) (operand 10 1 r))
        (λ _. pick_elim Good (eqb n 13) _ _ (λ _. queues.rewrite_kept p f h (operand 0 8 r) (operand 8 2 r) (rest 10 r) (is_bytes_drop 19 r b))
        (λ _. queues.delete_kept p f h (operand 0 8 r)))))

    lines_asked : (n k : ℕ) → k < 2 ^ 64 → AsMany t (ask_settings n k t.settings r).state
    unfolding ask_settings
    lines_asked n k w =
        let s = t.settings in
        let h = y.settings in
        let Good : Outcome Tasks → Type 0 = λ (o : Outcome Tasks). AsMany t o.state in
        pick_elim Good (eqb n 15) _ _ (λ _. lines-kept.handle_typed _ _ s h y.rows k w (operand 0 1 r) (operand 1 2 r) (num_bound 10 2 r b))
        (λ _. pick_elim Good (eqb n 16) _ _ (λ _. lines-kept.ignore_typed _ _ s h y.rows k w (operand 0 1 r))
        (λ _. lines-kept.reset_typed _ _ s h y.rows k w (operand 0 1 r)))

    deed_kept : (p : Part) (k i : ℕ) → k < 2 ^ 64 → Keeps t (deed p k i t r).state
    unfolding deed finish_in
    deed_kept part.Interval k i w = memory_kept t y _ (interval_asked (command r) i)
    deed_kept part.Finish k i w = without_at_kept t y i k
    deed_kept part.Queues k i w = store_kept t y _ (queues_asked (command r))
    deed_kept part.Settings k i w = settings_kept t y _ (lines_asked (command r) k w)

    obeyed_kept : (w : Who) (p : Part) (k i : ℕ) → k < 2 ^ 64 → Keeps t (obeyed_in w p k i t r).state
    unfolding obeyed_in
    obeyed_kept w p k i h =
        pick_elim (λ (o : Outcome Tables). Keeps t o.state) (wrong_kind w k) (fault t invalid_request) (deed p k i t r) (λ _. keeps_itself t y) (λ _. deed_kept p k i h)

  -- ---- the handlers

  decided_kept : (k : ℕ) (x : Setting) → Keeps t (with_known t (decided_as (known_in t) k x).known)
  decided_kept k Unset = without_kept t y k
  decided_kept k Ignore = keeps_itself t y
  decided_kept k (Label l) = keeps_itself t y

  settled_kept : (k c : ℕ) → Keeps t (with_known t (settle_in (known_in t) k c).known)
  unfolding settle_in
  settled_kept k c =
      pick_elim (λ (v : Settled). Keeps t (with_known t v.known)) (eqb c normal || eqb k (blank 8)) _ _ (λ _. keeps_itself t y)
      (λ _. decided_kept k (decide_in t.settings k c))

-- ---- one record

module _ (t : Tables) (y : Typed t) (r : List ℕ) (b : is_bytes r ≡ true) where
  heard_kept : (w : Who) (p : Part) (x : Option ℕ) → Keeps t (heard_as w p (issuer r) t r x).tables
  heard_kept w p None = keeps_itself t y
  heard_kept w p (Some i) =
      let k = obeyed_kept t y r b w p (issuer r) i (num_bound 1 8 r b) in
      keeps_then t (obeyed_in w p (issuer r) i t r).state _ k (settled_kept _ k.typed (issuer r) (obeyed_in w p (issuer r) i t r).condition)

  pub turn_kept : Keeps t (turn_of t r).tables
  unfolding turn_of
  turn_kept =
      pick_elim (λ (x : Stepped Tables). Keeps t x.tables) (formed r) _ _
      (λ _. heard_kept (row_of (command r)).who (part_of (command r)) (sender_in t.requests (issuer r))) (λ _. keeps_itself t y)
