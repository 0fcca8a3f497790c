-- What it is to keep what the types say and how much is lent; and tables that keep it because a part of them does. Assumes nothing.
use Rattle.std.specs.Prelude.{ℕ, ◌≡◌, refl, length}
use Rattle.std.proofs.Common.{◌∙◌}
use Rattle.model.specs.Commands.{rest}
use Rattle.request_rows.specs.Remove.{remove_at, remove_in}
use Rattle.request_rows.specs.Stands.{Memory, with_requests}
use Rattle.request_rows.specs.Typed as requests
use Rattle.request_rows.specs.Laws.Kept as requests-kept
use Rattle.queue_rows.specs.Table.{rows_in, slots_in, Store}
use Rattle.queue_rows.specs.Laws.Kept as queues
use Rattle.settings.specs.Table.{Tasks, rows_in as linesIn}
use Rattle.settings.specs.Forget.{forget_in}
use Rattle.settings.specs.Laws.Typed as lines
use Rattle.settings.specs.Laws.Kept as lines-kept
use Rattle.turn_rules.specs.Tables.{Tables, interval_in, with_interval, store_in, with_store, with_settings, known, with_known}
use Rattle.turn_rules.specs.Standing.{Typed}

-- as much is lent of each kind, and it is what the types say
pub record Keeps (t t' : Tables) : Type 0 where
  pub typed : Typed t'
  pub memory : requests.SameSizes (interval_in t) (interval_in t')
  pub rows : rows_in t'.queues ≡ rows_in t.queues
  pub slots : slots_in t'.queues ≡ slots_in t.queues
  pub past : length t'.queues.past ≡ length t.queues.past
  pub items : length t'.items ≡ length t.items
  pub lines : linesIn t'.settings ≡ linesIn t.settings
  pub lines_past : length t'.settings.past ≡ length t.settings.past

same_sizes : (m : Memory) → requests.SameSizes m m
same_sizes m = record { programs = refl; terminals = refl; register = refl; rows = refl; past = refl; area = refl }

pub keeps_itself : (t : Tables) → Typed t → Keeps t t
keeps_itself t y = record { typed = y; memory = same_sizes (interval_in t); rows = refl; slots = refl; past = refl; items = refl; lines = refl; lines_past = refl }

pub keeps_then : (t u w : Tables) → Keeps t u → Keeps u w → Keeps t w
keeps_then t u w a b =
    let m = a.memory in
    let n = b.memory in
    record {
      typed = b.typed;
      memory = record {
        programs = n.programs ∙ m.programs;
        terminals = n.terminals ∙ m.terminals;
        register = n.register ∙ m.register;
        rows = n.rows ∙ m.rows;
        past = n.past ∙ m.past;
        area = n.area ∙ m.area;
      };
      rows = b.rows ∙ a.rows;
      slots = b.slots ∙ a.slots;
      past = b.past ∙ a.past;
      items = b.items ∙ a.items;
      lines = b.lines ∙ a.lines;
      lines_past = b.lines_past ∙ a.lines_past;
    }

-- settings of as many rows and words past them as t has
abbrev pub AsMany : Tables → Tasks → Type 0
AsMany t s = lines.Typed (linesIn t.settings) (length t.settings.past) s

module _ (t : Tables) (y : Typed t) where
  -- ---- a part, kept

  pub lines_again : (s : Tasks) → AsMany t s → lines.Typed (linesIn s) (length s.past) s
  lines_again s k = record { counted = k.counted; rows = refl; each = k.each; past = refl; rest = k.rest }

  both_kept : (m : Memory) (s : Tasks) → requests.Keeps (interval_in t) m → AsMany t s → Keeps t (with_settings (with_interval t m) s)
  both_kept m s k h = record {
    typed = record { memory = k.typed; fits = y.fits; store = y.store; settings = lines_again s h; rows = rw h.rows y.rows };
    memory = k.sizes;
    rows = refl;
    slots = refl;
    past = refl;
    items = refl;
    lines = h.rows;
    lines_past = h.past;
  }

  pub memory_kept : (m : Memory) → requests.Keeps (interval_in t) m → Keeps t (with_interval t m)
  memory_kept m k = both_kept m t.settings k y.settings

  pub settings_kept : (s : Tasks) → AsMany t s → Keeps t (with_settings t s)
  settings_kept s h = both_kept (interval_in t) s (record { typed = y.memory; sizes = same_sizes (interval_in t) }) h

  pub store_kept : (s : Store) → queues.Kept (store_in t) s → Keeps t (with_store t s)
  store_kept s k = record {
    typed = record { memory = y.memory; fits = k.fits; store = k.typed; settings = y.settings; rows = y.rows };
    memory = same_sizes (interval_in t);
    rows = k.rows;
    slots = k.slots;
    past = k.past;
    items = k.bytes;
    lines = refl;
    lines_past = refl;
  }

  -- a task goes
  pub without_at_kept : (i n : ℕ) → Keeps t (with_known t (known (remove_at t.requests i) (forget_in t.settings n)))
  without_at_kept i n =
      both_kept (with_requests (interval_in t) (remove_at t.requests i)) (forget_in t.settings n)
      (requests-kept.remove_at_kept (interval_in t) y.memory i) (lines-kept.forget_typed _ _ t.settings y.settings y.rows n)

  pub without_kept : (n : ℕ) → Keeps t (with_known t (known (remove_in t.requests n) (forget_in t.settings n)))
  without_kept n =
      both_kept (with_requests (interval_in t) (remove_in t.requests n)) (forget_in t.settings n)
      (requests-kept.remove_kept (interval_in t) y.memory n) (lines-kept.forget_typed _ _ t.settings y.settings y.rows n)
