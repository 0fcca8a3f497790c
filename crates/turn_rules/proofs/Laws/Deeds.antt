-- A command does what the model does: each by what its part has proved, and all seventeen by one walk over the table. Assumes nothing.
use Rattle.std.specs.Prelude.{ℕ, ◌-◌, ◌≤◌, min, ◌≡◌, refl, true, false, List, eqb, leb, length}
use Rattle.std.proofs.Common.{sym, ◌∙◌, arith}
use Rattle.std.proofs.Math.Path.{ap, subst}
use Rattle.base.specs.Bytes.{is_bytes, blank}
use Rattle.base.specs.Laws.Tests.{and_r, by_test, no}
use Rattle.base.specs.Laws.Bytes.{num_bound, is_bytes_drop}
use Rattle.model.specs.Plans.{first_of, Outcome, done, obey, outcome_in, Follows}
use Rattle.model.specs.Commands.{Row, row_of, command, issuer, operand, rest, asked, fits, wrong_kind, obeyed, formed}
use Rattle.model.specs.State as model
use Rattle.model.specs.State.{State}
use Rattle.model.specs.Interval as interval
use Rattle.model.specs.Queues as queues
use Rattle.model.specs.Handlers as handlers
use Rattle.model.specs.Laws.Rows.{of_every, ◌▹◌}
use Rattle.records.specs.Rows.{part_of}
use Rattle.records.specs.declared.Part.{Part}
use Rattle.records.specs.declared.Part.TheVariants as part
use Rattle.request_rows.specs.Stands as requests
use Rattle.request_rows.specs.Stands.{Memory, interval_at}
use Rattle.request_rows.specs.Active.{task_in}
use Rattle.request_rows.specs.Remove.{remove_at}
use Rattle.request_rows.specs.Laws.Ties.{sound_here}
use Rattle.request_rows.specs.Laws.Define.{program_follows, terminal_follows}
use Rattle.request_rows.specs.Laws.Advance.{clock_after, advance_follows}
use Rattle.request_rows.specs.Laws.Ask.{ask_follows}
use Rattle.request_rows.specs.Laws.Dispatch.{dispatch_follows}
use Rattle.request_rows.specs.Laws.Start.{start_follows}
use Rattle.request_rows.specs.Laws.Cancel.{cancel_follows}
use Rattle.request_rows.specs.Laws.Retrieve.{retrieve_follows}
use Rattle.request_rows.specs.Laws.Remove.{remove_at_follows}
use Rattle.std.specs.Prelude.{Some}
use Rattle.queue_rows.specs.Table.{Queues, Store, slots_in}
use Rattle.queue_rows.specs.Model.{queues_of}
use Rattle.queue_rows.specs.Sound.{SoundS}
use Rattle.queue_rows.specs.Append.{append_to}
use Rattle.queue_rows.specs.Laws.Append.{append_follows}
use Rattle.queue_rows.specs.Laws.Read.{next_follows, at_follows}
use Rattle.queue_rows.specs.Laws.Rewrite.{rewrite_follows}
use Rattle.queue_rows.specs.Laws.Delete.{delete_follows}
use Rattle.settings.specs.Set.{room}
use Rattle.settings.specs.Laws.Set.{handle_follows, ignore_follows, reset_follows}
use Rattle.turn_rules.specs.Tables.{Tables, interval_in, with_interval, store_in, with_store, with_settings, known_in, with_known}
use Rattle.turn_rules.specs.Ask.{ask_interval, ask_queues, ask_settings}
use Rattle.turn_rules.specs.Turn.{sender_in, finish_in, deed, obeyed_in}
use Rattle.turn_rules.specs.Standing.{state_at, limits_of, Typed}
use Rattle.turn_rules.specs.Laws.Fine.{Fine, Rules}
use Rattle.turn_rules.specs.Laws.Room.{has_room}
use Rattle.turn_rules.specs.Laws.Sender.{task_sender, task_active}
use Rattle.turn_rules.specs.Laws.Parts.{Meets, on_interval_lem, on_queues_lem, on_settings, without_stands, without_fine}

-- who may fill 128 slots may fill all that there are
append_all : (q : Queues) (b : List ℕ) (n : ℕ) (item : List ℕ) → slots_in q ≤ 128 → append_to q b (slots_in q) n item ≡ append_to q b 128 n item
unfolding append_to
append_all q b n item h =
    let e : min (slots_in q) (slots_in q) ≡ min 128 (slots_in q) = omega arith in
    rw e

-- by a command's number, whatever the record says
abbrev deed_of : ℕ → Part → ℕ → ℕ → Tables → List ℕ → Outcome Tables
deed_of n part.Interval k i t r = outcome_in (with_interval t) (ask_interval n i (interval_in t) r)
deed_of n part.Finish k i t r = outcome_in (with_known t) (finish_in (known_in t) i k)
deed_of n part.Queues k i t r = outcome_in (with_store t) (ask_queues n (store_in t) r)
deed_of n part.Settings k i t r = outcome_in (with_settings t) (ask_settings n k t.settings r)

deed_of_lem : (p : Part) (k i : ℕ) (t : Tables) (r : List ℕ) → deed_of (command r) p k i t r ≡ deed p k i t r
unfolding deed
deed_of_lem part.Interval k i t r = refl
deed_of_lem part.Finish k i t r = refl
deed_of_lem part.Queues k i t r = refl
deed_of_lem part.Settings k i t r = refl

module _ (c : ℕ) (t : Tables) (y : Typed t) (rules : Rules c t) (r : List ℕ) (b : is_bytes r ≡ true) (i : ℕ) (from : sender_in t.requests (issuer r) ≡ Some i) where
  abbrev m : Memory
  m = interval_in t

  abbrev s : State
  s = state_at c t

  abbrev p : Store
  p = store_in t

  f : Fine c t
  f = rules.fine

  g : requests.Fine c m
  g = rules.fine.interval

  -- an issuer that is no system stands in row i, and has room for settings
  row_of_lem : eqb (issuer r) (blank 8) ≡ false → task_in t.requests (issuer r) ≡ Some i
  row_of_lem e = sym (task_sender t.requests (issuer r) e) ∙ from

  seat : eqb (issuer r) (blank 8) ≡ false → room t.settings (issuer r) ≡ true
  seat e =
      has_room (requests.limits_of m) (interval_at c m) (sound_here m c f.interval) t.settings (issuer r) rules.roomy f.settings rules.active
      (task_active c t (issuer r) i (row_of_lem e))

  -- the command of that number does what its row plans, where its operands fit and its issuer is of the right kind
  Does : ℕ → Row → Type 0
  Does n w =
      (k : ℕ) → fits w.size k ≡ true → wrong_kind w.who (issuer r) ≡ false
      → Meets (deed_of n (part_of n) (issuer r) i t r) (obey s (first_of (w.plans (limits_of t) s r).checks) (w.plans (limits_of t) s r).effect)

  finishes : eqb (issuer r) (blank 8) ≡ false → Meets (outcome_in (with_known t) (finish_in (known_in t) i (issuer r))) (done (model.without_task s (issuer r)) 0)
  unfolding finish_in
  finishes e =
      let d = remove_at_follows c m f.interval (issuer r) (row_of_lem e) in
      record {
        clock = c;
        outcome = ap (λ (x : State). done x 0) (without_stands c t f (issuer r) (remove_at t.requests i) d);
        fine = without_fine c t f (issuer r) (remove_at t.requests i) d;
      }

  appends : Follows queues_of SoundS (append_to t.queues t.items 128 (operand 0 8 r) (rest 8 r)) (queues_of (store_in t))
      (queues.append (limits_of t) (limits_of t).slots (queues_of (store_in t)) (operand 0 8 r) (rest 8 r))
  unfolding queues.append
  appends =
      subst
      (λ (o : Outcome Store). Follows queues_of SoundS o (queues_of p) (queues.append (limits_of t) (limits_of t).slots (queues_of p) (operand 0 8 r) (rest 8 r)))
      (append_all t.queues t.items (operand 0 8 r) (rest 8 r) y.fits.slots_few) (append_follows (store_in t) y.fits f.queues (operand 0 8 r) (rest 8 r))

  does : (n : ℕ) → Does n (row_of n)
  unfolding Does ask_interval ask_queues ask_settings interval.define_program interval.define_terminal interval.advance interval.start queues.rewrite
  does =
      of_every Does (λ n k h w. no h)
      ((λ k h w. on_interval_lem c t f c _ (interval.define_program (limits_of t) s.interval (operand 0 4 r)) (program_follows c m g (operand 0 4 r) (num_bound 9 4 r b)))
      ▹ (λ k h w. on_interval_lem c t f c _ (interval.define_terminal (limits_of t) s.interval (operand 0 4 r)) (terminal_follows c m g (operand 0 4 r) (num_bound 9 4 r b)))
      ▹ (λ k h w. on_interval_lem c t f (clock_after c (operand 0 4 r)) _ (interval.advance (limits_of t) s.interval (operand 0 4 r)) (advance_follows c m g (operand 0 4 r)))
      ▹ (λ k h w. on_interval_lem c t f c _ (interval.ask_ticks s.interval) (ask_follows c m g))
      ▹ (λ k h w. on_interval_lem c t f c _ (interval.dispatch s.interval) (dispatch_follows c m g))
      ▹ (λ k h w. on_interval_lem c t f c _ (interval.start (limits_of t) s.interval (asked r))
      (start_follows c m g (asked r) (num_bound 9 8 r b) (num_bound 21 4 r b) (is_bytes_drop 29 r b)))
      ▹ (λ k h w. on_interval_lem c t f c _ (interval.cancel s.interval (operand 0 8 r)) (cancel_follows c m g (operand 0 8 r)))
      ▹ (λ k h w. on_interval_lem c t f c _ (interval.retrieve s.interval (issuer r) (operand 0 1 r)) (retrieve_follows c m g (issuer r) i (operand 0 1 r) (row_of_lem w)))
      ▹ (λ k h w. finishes w)
      ▹ (λ k h w. on_queues_lem c t f _ (queues.append (limits_of t) (limits_of t).slots s.queues (operand 0 8 r) (rest 8 r)) appends)
      ▹ (λ k h w. on_queues_lem c t f _ (queues.read_next s.queues (operand 0 8 r) (operand 8 1 r)) (next_follows p y.fits f.queues (operand 0 8 r) (operand 8 1 r)))
      ▹ (λ k h w. on_queues_lem c t f _ (queues.read_at s.queues (operand 0 8 r) (operand 8 2 r) (operand 10 1 r))
      (at_follows p y.fits f.queues (operand 0 8 r) (operand 8 2 r) (operand 10 1 r)))
      ▹ (λ k h w. on_queues_lem c t f _ (queues.rewrite (limits_of t) s.queues (operand 0 8 r) (operand 8 2 r) (rest 10 r))
      (rewrite_follows p y.fits f.queues (operand 0 8 r) (operand 8 2 r) (rest 10 r)))
      ▹ (λ k h w. on_queues_lem c t f _ (queues.delete s.queues (operand 0 8 r)) (delete_follows p y.fits f.queues (operand 0 8 r)))
      ▹ (λ k h w. on_settings c t f _ (handlers.handle s.tasks (issuer r) (operand 0 1 r) (operand 1 2 r))
      (handle_follows t.settings (issuer r) (operand 0 1 r) f.settings (seat w) (operand 1 2 r) (num_bound 10 2 r b)))
      ▹ (λ k h w. on_settings c t f _ (handlers.ignore s.tasks (issuer r) (operand 0 1 r)) (ignore_follows t.settings (issuer r) (operand 0 1 r) f.settings (seat w)))
      ▹ (λ k h w. on_settings c t f _ (handlers.reset s.tasks (issuer r) (operand 0 1 r)) (reset_follows t.settings (issuer r) (operand 0 1 r) f.settings (seat w)))
      ▹ tt)

  -- with the kind of the issuer looked at first
  pub obeys_model : formed r ≡ true → Meets (obeyed_in (row_of (command r)).who (part_of (command r)) (issuer r) i t r) (obeyed (limits_of t) s r)
  unfolding obeyed_in obeyed formed Does
  obeys_model e =
      let w = row_of (command r) in
      by_test (wrong_kind w.who (issuer r)) (λ h. rw h (record { clock = c; outcome = refl; fine = f }))
      (λ h. rw (h, ← deed_of_lem (part_of (command r)) (issuer r) i t r) (does (command r) (length r - 9) (and_r (leb 9 (length r)) (fits w.size (length r - 9)) e) h))
