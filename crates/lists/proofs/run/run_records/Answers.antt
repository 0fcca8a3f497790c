-- `run::run_records` meets its contract. The invariant: the answers of the records passed stand at the front of the buffer, and with
-- those of the records left they are all answers (proofs/Running.antt). At each join what is held is what the monitor says of the record's
-- lane, so that the record comes to `step_on`. Assumes nothing.
use mathlib.Core.Path.{◌≡◌, sym, ap, ap₂, ◌∙◌}
use mathlib.Core.Bool.{◌||◌}
use mathlib.Core.List.{List}
use Prim.Native.Nat.{ℕ, ◌-◌, ◌<◌, ◌^◌}
use native.Mathlib.Omega.{arith}
use lib.Dec.{eqb}
use lib.ListN.{length, take, drop}
use borrow.Author.Rules.{rules}
use Rattle.base.specs.Bytes.{blank}
use Rattle.base.specs.Laws.Told.{bytes_told}
use Rattle.model.specs.Lists.{answered}
use Rattle.interval.specs.Active.{active_in}
use Rattle.interval.specs.Runs as interval
use Rattle.queues.specs.Runs as queues
use Rattle.monitor.specs.Answers.{answering}
use Rattle.monitor.specs.Requests.{asks, ask_of}
use Rattle.monitor.specs.Store.{stores, store_ask}
use Rattle.monitor.specs.Lanes.{Lane, laned}
use Rattle.monitor.proofs.Arms.{last_arm, last_store_arm}
use Rattle.monitor.proofs.Laws.Held.{Held, held, held_of, held_setting, held_turned, held_end, parts, decided, undecided, ended, went_on, held_lane, held_step}
use Rattle.monitor.proofs.Laws.Held.{asked_of, asked_by, asked_yes, asked_ticks, asked_not, stored_of, stored_by, stored_yes, stored_not, made_of, made_by, made_yes, made_not}
use Rattle.monitor.specs.Step.{allowed_in, step_on, lent, turned}
use Rattle.monitor.specs.Table.{no_items, tables, store_of, fresh_parts}
use Rattle.monitor.specs.declared.Parts.{Parts}
use Rattle.monitor.specs.declared.Tables.{Tables}
use Rattle.monitor.specs.declared.settle.Turned.{Turned}
use Rattle.frames.specs.Reading.{records_from}
use Rattle.lists.specs.Run.{answers_on}
use Rattle.lists.proofs.Laning.{fresh_same, fresh_typed, fresh_well}
use Rattle.lists.proofs.Running.{running_none, running_long, running_end, running_all, onward, running_moved, running_more}
use Rattle.lists.proofs.run.run_records.Goals as goal
use Rattle.lists.proofs.run.run_records.Goals.{then-for_requests+in-1, then-for_requests+in-2, then-for_requests+in-3, then-for_requests+in-4, then-for_requests+in-5, then-for_requests+in-6, then-for_requests+in-7, then-for_requests+in_default-command, else-for_requests}
use Rattle.lists.proofs.run.run_records.Goals.{then-for_store+in-10, then-for_store+in-11, then-for_store+in-12, then-for_store+in-13, then-for_store+in_default-command-2, else-for_store}
use Rattle.lists.proofs.run.run_records.Goals.{then-for_settings, else-for_settings, then-decides, else-decides, then-v, else-v}

-- ---- a turn of the loop

module _ (c : goal.After-slice_known-in-Record-1) where
  -- the record that is read, and the tables as they stand before it
  abbrev r : List ℕ
  r = take (c.in-Record.next - c.in-Record.start) (drop c.in-Record.start c.args.list.now)

  abbrev t : Tables
  t = let g = c.loop-start in tables (parts g.requests g.queues g.tasks) g.items

  -- its issuer, and the lane that it is in
  abbrev n : ℕ
  n = c.issuer-issuer.result

  abbrev l : Lane
  l = c.lane_of-lane.result

  -- ---- who may send it

  may : c.may_send-may.result ≡ allowed_in t.parts r
  may = c.may_send-may.ensures ∙ ap (λ (i : ℕ). eqb i (blank 8) || active_in t.parts.requests i) c.issuer-issuer.ensures.exact

  -- ---- what the part of its lane comes to: each part in turn

  asked : asked_of c.if-for_requests.requests c.if-for_requests.said ≡ asked_by l t r
  unfolding ask_of
  asked =
      let k = c.command-command.ensures.exact in
      let is = c.for_requests.ensures.exact in
      elim c.if-for_requests.branch [
        | then-for_requests+in-1 w ↦ asked_yes l t r 1 _ (sym is ∙ w.if-for_requests.true) (sym w.in-1.is ∙ k) w.define_program-a.ensures.exact w.requests-is w.said-is
        | then-for_requests+in-2 w ↦ asked_yes l t r 2 _ (sym is ∙ w.if-for_requests.true) (sym w.in-2.is ∙ k) w.define_terminal-a.ensures.exact w.requests-is w.said-is
        | then-for_requests+in-3 w ↦ asked_yes l t r 3 _ (sym is ∙ w.if-for_requests.true) (sym w.in-3.is ∙ k) w.advance-a.ensures.exact w.requests-is w.said-is
        | then-for_requests+in-4 w ↦ asked_ticks l t r _ (sym is ∙ w.if-for_requests.true) (sym w.in-4.is ∙ k) w.plain-said.ensures.exact w.requests-is w.said-is
        | then-for_requests+in-5 w ↦ asked_yes l t r 5 _ (sym is ∙ w.if-for_requests.true) (sym w.in-5.is ∙ k) w.dispatch-a.ensures.exact w.requests-is w.said-is
        | then-for_requests+in-6 w ↦ asked_yes l t r 6 _ (sym is ∙ w.if-for_requests.true) (sym w.in-6.is ∙ k) w.start-a.ensures.exact w.requests-is w.said-is
        | then-for_requests+in-7 w ↦ asked_yes l t r 7 _ (sym is ∙ w.if-for_requests.true) (sym w.in-7.is ∙ k) w.cancel-a.ensures.exact w.requests-is w.said-is
        | then-for_requests+in_default-command w ↦
            asked_yes l t r _ _ (sym is ∙ w.if-for_requests.true) k
            (w.retrieve-a.ensures.exact
            ∙ ap (λ (q : interval.Ask). asks (interval.turn t.parts.requests q))
            (last_arm r c.command-command.result (λ e. omega arith) (λ e. omega arith) (λ e. omega arith) (λ e. omega arith) (λ e. omega arith) (λ e. omega arith) (λ e. omega arith)))
            w.requests-is w.said-is
        | else-for_requests w ↦ asked_not l t r (sym is ∙ w.if-for_requests.false) w.requests-is (w.said-is ∙ c.word_of-said.ensures.exact)
      ]

  stored : stored_of c.if-for_store.queues c.if-for_store.said c.if-for_store.items ≡ stored_by l t r c.if-for_requests.said
  unfolding store_ask
  stored =
      let v = c.if-for_requests.said in
      let k = c.command-command.ensures.exact in
      let is = c.for_store.ensures.exact in
      elim c.if-for_store.branch [
        | then-for_store+in-10 w ↦ stored_yes l t r v 10 _ _ (sym is ∙ w.if-for_store.true) (sym w.in-10.is ∙ k) w.append-a.ensures.exact w.queues-is w.items-is w.said-is
        | then-for_store+in-11 w ↦ stored_yes l t r v 11 _ _ (sym is ∙ w.if-for_store.true) (sym w.in-11.is ∙ k) w.read_next-a.ensures.exact w.queues-is w.items-is w.said-is
        | then-for_store+in-12 w ↦ stored_yes l t r v 12 _ _ (sym is ∙ w.if-for_store.true) (sym w.in-12.is ∙ k) w.read_at-a.ensures.exact w.queues-is w.items-is w.said-is
        | then-for_store+in-13 w ↦ stored_yes l t r v 13 _ _ (sym is ∙ w.if-for_store.true) (sym w.in-13.is ∙ k) w.rewrite-a.ensures.exact w.queues-is w.items-is w.said-is
        | then-for_store+in_default-command-2 w ↦
            stored_yes l t r v _ _ t.items (sym is ∙ w.if-for_store.true) k
            (w.delete-a.ensures.exact t.items
            ∙ ap (λ (q : queues.Ask). stores (queues.turn (store_of t) q))
            (last_store_arm r c.command-command.result (λ e. omega arith) (λ e. omega arith) (λ e. omega arith) (λ e. omega arith)))
            w.queues-is w.items-is w.said-is
        | else-for_store w ↦ stored_not l t r v (sym is ∙ w.if-for_store.false) w.queues-is w.items-is w.said-is
      ]

  made : made_of c.if-for_settings.tasks c.if-for_settings.said ≡ made_by l t r c.if-for_store.said
  made =
      let v = c.if-for_store.said in
      let is = c.for_settings.ensures.exact in
      elim c.if-for_settings.branch [
        | then-for_settings w ↦ made_yes l t r v _ _ (sym is ∙ w.if-for_settings.true) c.command-command.ensures.exact w.ask-a.ensures.exact w.tasks-is w.said-is
        | else-for_settings w ↦ made_not l t r v (sym is ∙ w.if-for_settings.false) w.tasks-is w.said-is
      ]

  abbrev kept : Held
  kept = held c.if-for_requests.requests c.if-for_store.queues c.if-for_settings.tasks c.if-for_store.items c.if-for_settings.said

  by_lane : kept ≡ held_of (laned l t r)
  by_lane = held_lane l t r _ _ _ asked stored made

  -- ---- what the handlers decide, and the answer

  by_setting : c.if-decides.by ≡ held_setting l n kept
  by_setting = elim c.if-decides.branch [
    | then-decides w ↦ decided l n kept c.decides.result c.decides.ensures.exact w.if-decides.true (w.by-is ∙ w.decide-by.ensures.exact)
    | else-decides w ↦ undecided l n kept c.decides.result c.decides.ensures.exact w.if-decides.false w.by-is
  ]

  ending : held_turned kept c.if-v.requests c.if-v.tasks c.answered-a.result ≡ held_end kept n c.judge-v.result c.judge-v.result.ends
  ending =
      let v = c.judge-v.result in
      let said = c.answered-a.ensures.exact ∙ ap₂ (answering kept.said) c.from.ensures c.label.ensures.exact in
      elim c.if-v.branch [
        | then-v w ↦ ended kept n v said w.if-v.true (w.requests-is ∙ w.remove-requests.ensures.exact) (w.tasks-is ∙ w.forget-tasks.ensures.exact)
        | else-v w ↦ went_on kept n v said w.if-v.false w.requests-is w.tasks-is
      ]

  -- the parts after the record, and its answer
  abbrev replied : Turned
  replied = record { parts = parts c.if-v.requests c.if-for_store.queues c.if-v.tasks; answer = c.answered-a.result }

  stepped : lent replied c.if-for_store.items ≡ turned (step_on t r)
  stepped =
      ending
      ∙ held_step t r n c.may_send-may.result l kept c.if-decides.by c.judge-v.result c.issuer-issuer.ensures.exact may c.lane_of-lane.ensures.exact by_lane by_setting
      c.judge-v.ensures.exact

  -- the type's own fact of the answer's bytes, which is all that is known of how many it has
  long : length c.answered-a.result.bytes ≡ 64
  long = search rules

-- ---- the needs

pub loop-start-init : goal.loop-start-init
unfolding no_items
loop-start-init c =
    let h : c.args.register < 2 ^ 32 = search rules in
    let p : Parts = parts c.fresh_requests-requests.result c.fresh-queues.result c.fresh_tasks-tasks.result in
    let e : p ≡ fresh_parts c.args.register =
    fresh_same c.args.register c.fresh_requests-requests.ensures c.fresh-queues.ensures.exact c.fresh_tasks-tasks.ensures in
    running_none c.args.list.now c.args.out.now (tables p _) c.requires
    (bytes_told c.args.list.now c.type_inv.list)
    (fresh_typed c.args.register h p e) (fresh_well c.args.register h p e)

pub slice_bounds-rec-start : goal.slice_bounds-rec-start
slice_bounds-rec-start c = let a = (onward c.loop-start.invariant _ _ c.in-Record.ensures.exact).ahead in omega arith

pub slice_bounds-rec-end : goal.slice_bounds-rec-end
slice_bounds-rec-end c = let a = (onward c.loop-start.invariant _ _ c.in-Record.ensures.exact).ahead in omega arith

pub slice_bounds-rec-count : goal.slice_bounds-rec-count
slice_bounds-rec-count c = let a = (onward c.loop-start.invariant _ _ c.in-Record.ensures.exact).ahead in omega arith

pub overflow_add-written : goal.overflow_add-written
overflow_add-written c =
    let R = c.loop-start.invariant in
    let m = running_moved R _ _ c.in-Record.ensures.exact (replied c) _ (stepped c) (long c) c.write-n.result c.write-n.new.out c.write-n.ensures in
    let k = running_long R in
    omega arith

pub loop-start-smaller : goal.loop-start-smaller
loop-start-smaller c = let a = (onward c.loop-start.invariant _ _ c.in-Record.ensures.exact).ahead in omega arith

pub loop-start-preserved : goal.loop-start-preserved
loop-start-preserved c =
    running_more c.loop-start.invariant _ _ c.in-Record.ensures.exact (replied c) _ (stepped c) (long c) c.write-n.result c.write-n.new.out c.write-n.ensures

pub returns : goal.returns
unfolding no_items
returns c =
    let R = c.loop-start.invariant in
    running_all R (running_end R c.part_at.result c.part_at.ensures.exact c.in_default.not-Record)
    ∙ ap (λ (p : Parts). answered (answers_on (tables p no_items) (records_from c.args.list.now 9)) c.args.out.now)
    (fresh_same c.args.register c.fresh_requests-requests.ensures c.fresh-queues.ensures.exact c.fresh_tasks-tasks.ensures)
