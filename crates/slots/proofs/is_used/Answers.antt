-- `slots::is_used` meets its contract: a slot's digit is that of its word. Assumes nothing.
use Rattle.std.proofs.Common.{◌≡◌, ℕ, ◌+◌, ◌-◌, eqb, sym, ap, ◌∙◌, arith, rules, lt-ltb, le-ltb}
use Rattle.slots.specs.Bits.{bit, number, used_at}
use Rattle.slots.proofs.Laws.Words.{bit_low, bit_high}
use Rattle.slots.proofs.is_used.Goals as goal

pub returns-then-k-lt64 : goal.returns-then-k-lt64
unfolding used_at
returns-then-k-lt64 c =
    let u = c.args.u in
    let k = c.args.k in
    record { exact = rw (lt-ltb k 128 (omega arith)) (c.is_set.ensures ∙ ap (λ (x : ℕ). eqb x 1) (sym (bit_low 64 u.hi u.lo k c.if-k-lt64.true))) }

pub returns-then-k-lt-ALL : goal.returns-then-k-lt-ALL
unfolding used_at
returns-then-k-lt-ALL c =
    let u = c.args.u in
    let k = c.args.k in
    let s : 64 + (k - 64) ≡ k = omega arith in
    let e : bit u.hi (k - 64) ≡ bit (number u) k = sym (bit_high 64 u.hi u.lo (k - 64) (search rules)) ∙ ap (bit (number u)) s in
    record { exact = rw (lt-ltb k 128 (omega arith)) (c.is_set-then-k-lt-ALL.ensures ∙ ap (λ (x : ℕ). eqb x 1) e) }

pub returns-else-k-lt-ALL : goal.returns-else-k-lt-ALL
unfolding used_at
returns-else-k-lt-ALL c = record { exact = rw (le-ltb c.args.k 128 c.if-k-lt-ALL.false) }
