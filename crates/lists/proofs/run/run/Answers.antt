-- `run::run` meets its contract: 35 and 36 by what framing answers, and else by the run of the records. Assumes nothing.
use mathlib.Core.Path.{sym, ◌∙◌}
use native.Mathlib.Omega.{arith}
use Rattle.base.specs.Laws.Told.{bytes_told}
use Rattle.lists.specs.Laws.Model.{both}
use Rattle.lists.specs.Laws.Runs.{refused_on, short_on, fitting_on, answered_on}
use Rattle.lists.proofs.run.run.Goals as goal

pub run_records-requires : goal.run_records-requires
run_records-requires c = fitting_on _ _ _ _ c.in-Some.ensures.exact (omega arith)

pub returns-in_default : goal.returns-in_default
returns-in_default c = let all = both _ _ _ (bytes_told c.args.list.now c.type_inv.list) (sym (refused_on _ _ c.in_default.ensures.exact)) in record { exact = all.0; model = all.1 }

pub returns-then-out-records : goal.returns-then-out-records
returns-then-out-records c = let all = both _ _ _ (bytes_told c.args.list.now c.type_inv.list) (sym (short_on _ _ _ _ c.in-Some.ensures.exact (omega arith))) in record { exact = all.0; model = all.1 }

pub returns : goal.returns
returns c = let all = both _ _ _ (bytes_told c.args.list.now c.type_inv.list) (c.run_records.ensures ∙ sym (answered_on _ _ _ _ c.in-Some.ensures.exact (omega arith))) in record { exact = all.0; model = all.1 }
