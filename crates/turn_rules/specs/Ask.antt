-- The commands by their numbers, each part's by itself; a record's operands as document 01 lays them out.
use Rattle.std.specs.Prelude.{ℕ, List, eqb}
use Rattle.base.specs.Choice.{pick}
use Rattle.model.specs.Plans.{Outcome, outcome_in}
use Rattle.model.specs.Commands.{operand, rest, asked}
use Rattle.names.specs.Names.{define_in}
use Rattle.request_rows.specs.Stands.{Memory, with_programs, with_terminals, with_requests, with_kept}
use Rattle.request_rows.specs.Advance.{advance_in, ask_in}
use Rattle.request_rows.specs.Dispatch.{dispatch_in}
use Rattle.request_rows.specs.Start.{start_in}
use Rattle.request_rows.specs.Cancel.{cancel_in}
use Rattle.request_rows.specs.Retrieve.{retrieve_at}
use Rattle.queue_rows.specs.Table.{Queues, Store, store}
use Rattle.queue_rows.specs.Append.{append_to}
use Rattle.queue_rows.specs.Read.{read_next_in, read_in}
use Rattle.queue_rows.specs.Rewrite.{rewrite_in}
use Rattle.queue_rows.specs.Delete.{delete_from}
use Rattle.settings.specs.Table.{Tasks}
use Rattle.settings.specs.Set.{handle_in, ignore_in, reset_in}

-- 1 to 8; the task that asks stands in row i
unfoldable pub ask_interval : ℕ → ℕ → Memory → List ℕ → Outcome Memory
ask_interval n i v r =
    pick (eqb n 1) (outcome_in (with_programs v) (define_in v.programs (operand 0 4 r)))
    (pick (eqb n 2) (outcome_in (with_terminals v) (define_in v.terminals (operand 0 4 r)))
    (pick (eqb n 3) (outcome_in (with_requests v) (advance_in v.requests (operand 0 4 r)))
    (pick (eqb n 4) (outcome_in (with_requests v) (ask_in v.requests))
    (pick (eqb n 5) (outcome_in (with_requests v) (dispatch_in v.requests))
    (pick (eqb n 6) (outcome_in (with_kept v) (start_in v.programs v.terminals v.requests v.area (asked r)))
    (pick (eqb n 7) (outcome_in (with_requests v) (cancel_in v.requests (operand 0 8 r)))
    (outcome_in (with_requests v) (retrieve_at v.requests v.area i (operand 0 1 r)))))))))

abbrev pub with_queues : Store → Queues → Store
with_queues p q = store q p.items

-- 10 to 14; who appends may fill every slot that there is
unfoldable pub ask_queues : ℕ → Store → List ℕ → Outcome Store
ask_queues n p r =
    pick (eqb n 10) (append_to p.queues p.items 128 (operand 0 8 r) (rest 8 r))
    (pick (eqb n 11) (outcome_in (with_queues p) (read_next_in p.queues p.items (operand 0 8 r) (operand 8 1 r)))
    (pick (eqb n 12) (outcome_in (with_queues p) (read_in p.queues p.items (operand 0 8 r) (operand 8 2 r) (operand 10 1 r)))
    (pick (eqb n 13) (rewrite_in p.queues p.items (operand 0 8 r) (operand 8 2 r) (rest 10 r))
    (outcome_in (with_queues p) (delete_from p.queues (operand 0 8 r))))))

-- 15 to 17, of task k
unfoldable pub ask_settings : ℕ → ℕ → Tasks → List ℕ → Outcome Tasks
ask_settings n k s r =
    pick (eqb n 15) (handle_in s k (operand 0 1 r) (operand 1 2 r))
    (pick (eqb n 16) (ignore_in s k (operand 0 1 r))
    (reset_in s k (operand 0 1 r)))
