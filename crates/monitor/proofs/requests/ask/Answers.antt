-- `requests::ask` meets its contract: each arm knows the command's number. Assumes nothing.
use mathlib.Core.Path.{ap, ◌∙◌}
use native.Mathlib.Omega.{arith}
use Rattle.interval.specs.Runs.{Ask, turn}
use Rattle.monitor.specs.Requests.{asks, ask_of}
use Rattle.monitor.proofs.Arms.{arm, last_arm}
use Rattle.monitor.proofs.requests.ask.Goals as goal

pub returns-in-1 : goal.returns-in-1
unfolding ask_of
returns-in-1 c =
    let a = c.args in record { exact = arm a.t a.rec.now 1 c.in-1.is c.define_program.ensures.exact }

pub returns-in-2 : goal.returns-in-2
unfolding ask_of
returns-in-2 c =
    let a = c.args in record { exact = arm a.t a.rec.now 2 c.in-2.is c.define_terminal.ensures.exact }

pub returns-in-3 : goal.returns-in-3
unfolding ask_of
returns-in-3 c =
    let a = c.args in record { exact = arm a.t a.rec.now 3 c.in-3.is c.advance.ensures.exact }

pub returns-in-4 : goal.returns-in-4
unfolding ask_of
returns-in-4 c =
    let a = c.args in record { exact = arm a.t a.rec.now 4 c.in-4.is c.ask_ticks.ensures }

pub returns-in-5 : goal.returns-in-5
unfolding ask_of
returns-in-5 c =
    let a = c.args in record { exact = arm a.t a.rec.now 5 c.in-5.is c.dispatch.ensures.exact }

pub returns-in-6 : goal.returns-in-6
unfolding ask_of
returns-in-6 c =
    let a = c.args in record { exact = arm a.t a.rec.now 6 c.in-6.is c.start.ensures.exact }

pub returns-in-7 : goal.returns-in-7
unfolding ask_of
returns-in-7 c =
    let a = c.args in record { exact = arm a.t a.rec.now 7 c.in-7.is c.cancel.ensures.exact }

pub returns-in_default : goal.returns-in_default
returns-in_default c =
    let a = c.args in
    record {
      exact = c.retrieve.ensures.exact
          ∙ ap (λ (q : Ask). asks (turn a.t q))
          (last_arm a.rec.now a.command (λ e. omega arith) (λ e. omega arith) (λ e. omega arith) (λ e. omega arith) (λ e. omega arith) (λ e. omega arith) (λ e. omega arith));
    }
