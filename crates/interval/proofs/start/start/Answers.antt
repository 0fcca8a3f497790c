-- `start::start` meets its contract. Assumes nothing.
use Rattle.std.proofs.Common.{◌≡◌, ◌^◌, ◌<◌, true, length, get_or, sym, ap, ◌∙◌, arith, lt-ltb, rules}
use Rattle.base.specs.Bytes.{is_byte, is_bytes}
use Rattle.base.specs.Laws.Keep.{all_by_get_d}
use Rattle.interval.specs.Table.{live}
use Rattle.interval.specs.Start.{asks}
use Rattle.interval.specs.Laws.Typed.{unmapped}
use Rattle.interval.proofs.Laws.Start.{Clear, start_same, start_facts, start_put}
use Rattle.interval.proofs.start.start.Goals as goal
use Rattle.interval.proofs.start.start.Goals.{After-is_ok}

bytes : (c : After-is_ok) → is_bytes c.args.bytes.now ≡ true
bytes c = all_by_get_d is_byte 0 c.args.bytes.now (λ i. lt-ltb (get_or c.args.bytes.now i 0) 256 (omega (arith, c.type_inv.bytes i)))

word : (c : After-is_ok) → c.args.a.name < 2 ^ 64
word c = search rules

count : (c : After-is_ok) → length c.live-n.result.now ≡ length (live c.args.t)
count c = ap length c.live-n.ensures

facts : (c : After-is_ok) → c.is_ok.result ≡ true → Clear c.args.a.interval (length c.args.bytes.now) (length (live c.args.t))
facts c e = start_facts c.args.t (asks c.args.a c.args.bytes.now) (word c) (bytes c) c.rule-outcome.result c.rule-outcome.ensures (sym c.is_ok.ensures.value ∙ e)

pub new_row-requires : goal.new_row-requires
new_row-requires c = (facts (goal.at.new_row-requires c).After-is_ok c.if-is_ok.true).fits

pub bounds-t-n : goal.bounds-t-n
bounds-t-n c =
    let r = (goal.at.bounds-t-n c).After-is_ok in
    omega (arith, (facts r c.if-is_ok.true).room, count r)

pub returns-then-is_ok : goal.returns-then-is_ok
returns-then-is_ok c =
    let r = (goal.at.returns-then-is_ok c).After-is_ok in
    let long : length c.args.t.rows ≡ 32 = search (rules, unmapped) in
    let all =
    start_put c.args.t (asks c.args.a c.args.bytes.now) (word r) (bytes r) c.rule-outcome.result c.rule-outcome.ensures (sym c.is_ok.ensures.value ∙ c.if-is_ok.true) long _
    (count r) _ c.new_row.ensures in
    record { exact = all.0; model = all.1 }

pub returns-else-is_ok : goal.returns-else-is_ok
returns-else-is_ok c =
    let r = (goal.at.returns-else-is_ok c).After-is_ok in
    let all =
    start_same c.args.t (asks c.args.a c.args.bytes.now) (word r) (bytes r) c.rule-outcome.result c.rule-outcome.ensures (sym c.is_ok.ensures.value ∙ c.if-is_ok.false) in
    record { exact = all.0; model = all.1 }
