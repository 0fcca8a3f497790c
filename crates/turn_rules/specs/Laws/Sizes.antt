-- Tables of some sizes hold that much, and keep their sizes. Assumes nothing.
use Rattle.std.specs.Prelude.{◌≡◌}
use Rattle.std.proofs.Common.{◌∙◌, arith}
use Rattle.model.specs.Limits.{Fit as Carried}
use Rattle.request_rows.specs.Table.{spaces}
use Rattle.turn_rules.specs.Tables.{Tables}
use Rattle.turn_rules.specs.Standing.{limits_of, Sizes, limits, Fit, Sized}
use Rattle.turn_rules.specs.Laws.Kept.{Keeps}
use Rattle.turn_rules.specs.Laws.Fine.{Roomy}

-- what an answer can carry
pub limits_carried : (z : Sizes) → Fit z → Carried (limits z)
limits_carried z f = record { item = omega arith; requests = omega (arith, f.requests); slots = omega (arith, f.slots) }

module _ (z : Sizes) (t : Tables) (h : Sized z t) where
  pub sized_limits : Fit z → limits_of t ≡ limits z
  sized_limits f =
      let r : spaces t.requests t.area ≡ z.requests = omega (arith, h.requests, h.area, f.requests) in
      rw (h.programs, h.terminals, r, h.queues, h.slots)

  pub sized_roomy : Roomy t
  sized_roomy = omega (arith, h.programs, h.settings)

  pub sized_kept : (t' : Tables) → Keeps t t' → Sized z t'
  sized_kept t' k = record {
    programs = k.memory.programs ∙ h.programs;
    terminals = k.memory.terminals ∙ h.terminals;
    register = k.memory.register ∙ h.register;
    requests = k.memory.rows ∙ h.requests;
    requests_past = k.memory.past ∙ h.requests_past;
    area = k.memory.area ∙ h.area;
    queues = k.rows ∙ h.queues;
    slots = k.slots ∙ h.slots;
    queues_past = k.past ∙ h.queues_past;
    items = k.items ∙ h.items;
    settings = k.lines ∙ h.settings;
    settings_past = k.lines_past ∙ h.settings_past;
  }
