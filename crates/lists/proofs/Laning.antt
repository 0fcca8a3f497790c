-- Fresh tables, in the words of the monitor.
-- Assumes nothing.
use mathlib.Core.Path.{◌≡◌, sym, ap, subst, ◌∙◌}
use mathlib.Core.Bool.{true}
use Prim.Native.Nat.{ℕ, ◌<◌, ◌^◌}
use Rattle.interval.specs.Fresh.{fresh_at}
use Rattle.interval.specs.declared.Requests.{Requests}
use Rattle.queues.specs.Fresh as queues
use Rattle.queues.specs.declared.Queues.{Queues}
use Rattle.handlers.specs.Fresh.{no_tasks}
use Rattle.handlers.specs.declared.Tasks.{Tasks}
use Rattle.monitor.specs.declared.Parts.{Parts}
use Rattle.monitor.specs.Table.{tables, no_items, fresh_parts, sound_p}
use Rattle.monitor.specs.Laws.Fine.{Typed, fresh_fine, fresh_sound}
use Rattle.monitor.proofs.Laws.Held.{parts}

pub fresh_same : (v : ℕ) {q : Requests} {s : Queues} {h : Tasks} → q ≡ fresh_at v → s ≡ queues.fresh → h ≡ no_tasks → parts q s h ≡ fresh_parts v
unfolding fresh_parts
fresh_same v eq es eh = rw (eq, es, eh)

-- whose types' bounds hold, and which are sound
module _ (v : ℕ) (h : v < 2 ^ 32) (p : Parts) (e : p ≡ fresh_parts v) where
  pub fresh_typed : Typed (tables p no_items)
  fresh_typed = subst (λ (x : Parts). Typed (tables x no_items)) (sym e) (fresh_fine v h).typed

  pub fresh_well : sound_p p ≡ true
  fresh_well = ap sound_p e ∙ fresh_sound v h
