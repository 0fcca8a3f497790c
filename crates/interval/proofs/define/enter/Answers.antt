-- `define::enter` meets its contract. Assumes nothing.
use Rattle.std.proofs.Common.{◌≡◌, ◌<◌, ◌≤◌, true, false, length, take, sym, ◌∙◌, arith, length-take, eq-eqb, ne_eqb, le-leb}
use borrow.Author.Tests.{lt-leb}
use Rattle.base.specs.Lists.{has}
use Rattle.base.specs.Laws.Over.{over_put}
use Rattle.interval.specs.Define.{ruling}
use Rattle.interval.proofs.define.enter.Goals as goal

pub returns-then-name-eq-NONE-clause-outcome : goal.returns-then-name-eq-NONE-clause-outcome
unfolding ruling
returns-then-name-eq-NONE-clause-outcome c = rw (eq-eqb _ _ c.if-name-eq-NONE.true)

pub returns-then-has-clause-outcome : goal.returns-then-has-clause-outcome
unfolding ruling
returns-then-has-clause-outcome c =
    let a = c.args in
    let k : has a.name (take a.count.now a.names.now) ≡ true = sym c.has.ensures.exact ∙ c.if-has.true in
    rw (ne_eqb _ _ c.if-name-eq-NONE.false, k)

pub returns-then-count-names-clause-outcome : goal.returns-then-count-names-clause-outcome
unfolding ruling
returns-then-count-names-clause-outcome c =
    let a = c.args in
    let k : has a.name (take a.count.now a.names.now) ≡ false = sym c.has.ensures.exact ∙ c.if-has.false in
    let h : length a.names.now ≤ a.count.now = c.if-count-names.true in
    let n : length a.names.now ≤ length (take a.count.now a.names.now) = omega (arith, length-take a.count.now a.names.now) in
    rw (ne_eqb _ _ c.if-name-eq-NONE.false, k, le-leb _ _ n)

pub returns-clause-outcome : goal.returns-clause-outcome
unfolding ruling
returns-clause-outcome c =
    let a = c.args in
    let k : has a.name (take a.count.now a.names.now) ≡ false = sym c.has.ensures.exact ∙ c.if-has.false in
    let h : a.count.now < length a.names.now = c.if-count-names.false in
    let n : length (take a.count.now a.names.now) < length a.names.now = omega (arith, length-take a.count.now a.names.now) in
    rw (ne_eqb _ _ c.if-name-eq-NONE.false, k, lt-leb _ _ n)

pub returns-clause-names : goal.returns-clause-names
returns-clause-names c = let a = c.args in over_put a.count.now a.names.now a.name c.if-count-names.false
