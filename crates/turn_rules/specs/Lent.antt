-- What lent tables hold, and that they are still the caller's.
use Rattle.std.specs.Prelude.{◌≡◌}
use Rattle.turn_rules.specs.Tables.{Tables, tables_of}
use Rattle.turn_rules.specs.declared.Lent.{Lent}

abbrev pub held : Lent → Tables
held t = tables_of t.programs.now t.terminals.now t.requests.now t.area.now t.queues.now t.items.now t.settings.now

-- each slice is the one that was lent, so what it holds the caller finds in his own
pub record SameLoans (t u : Lent) : Type 0 where
  pub programs : t.programs.ghost_name ≡ u.programs.ghost_name
  pub terminals : t.terminals.ghost_name ≡ u.terminals.ghost_name
  pub requests : t.requests.ghost_name ≡ u.requests.ghost_name
  pub area : t.area.ghost_name ≡ u.area.ghost_name
  pub queues : t.queues.ghost_name ≡ u.queues.ghost_name
  pub items : t.items.ghost_name ≡ u.items.ghost_name
  pub settings : t.settings.ghost_name ≡ u.settings.ghost_name
