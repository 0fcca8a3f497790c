-- What the types of the parts and of the tables tell of every value that a program holds is what `Typed` says: from the relation of a
-- parameter (`s.good.0`) or of a call's result (`c.f.ok`). Assumes nothing.
use Prim.Native.Nat.{ℕ}
use mathlib.Core.Path.{◌≡◌, sym, subst}
use mathlib.Core.Bool.{true}
use mathlib.Core.List.{List}
use lib.ListN.{length}
use mir.Syntax.{w8}
use mir.Val.{Val}
use denote.Plain.{UInt}
use denote.Array.{Array}
use denote.Struct.Field.{array_field, row_field}
use denote.Shadow.{shadow}
use Rattle.std.proofs.lemmas.List.{map-id}
use Rattle.base.specs.Bytes.{is_bytes}
use Rattle.base.specs.Laws.Told.{Told, uint_passes, array_long, array_all}
use Rattle.interval.proofs.Told as requests
use Rattle.queues.proofs.Told as queues
use Rattle.handlers.proofs.Told as settings
use Rattle.monitor.specs.declared.Parts.{Parts}
use Rattle.monitor.specs.declared.Tables.{Tables}
use Rattle.monitor.specs.Table.{tables}
use Rattle.monitor.specs.Laws.Fine.{Typed}
use Rattle.monitor.specs.contracts.Parts as parts
use Rattle.monitor.specs.contracts.Tables as whole

-- the parts with bytes that are lent, which their reference tells nothing of
pub parts_typed : (p : Parts) (vs : List Val) → Told parts.the_field p vs → (b : List ℕ) → length b ≡ 8192 → is_bytes b ≡ true → Typed (tables p b)
parts_typed p vs s b n y =
    let f = s.1.1 in
    record {
      requests = requests.told_typed p.requests _ f.0;
      store = record { typed = queues.told_typed p.queues _ f.1.0; long = n; bytes = y };
      tasks = settings.told_typed p.tasks _ f.1.1.0;
    }

-- bytes in a struct are told as they stand
items_told : (n : ℕ) (l : List ℕ) (vs : List Val) → shadow ((Array (UInt w8) n).own_val l vs) → Told (array_field (row_field (UInt w8)) n) l vs
items_told n l vs s = subst (λ (x : List ℕ). shadow ((Array (UInt w8) n).own_val x vs)) (sym (map-id l)) s

pub tables_typed : (t : Tables) (vs : List Val) → Told whole.the_field t vs → Typed t
tables_typed t vs s =
    let items = items_told 8192 t.items _ s.1.1.1.0 in
    parts_typed t.parts _ s.1.1.0 t.items (array_long (row_field (UInt w8)) 8192 t.items _ items)
    (array_all (row_field (UInt w8)) 8192 t.items _ items _ (uint_passes w8))
