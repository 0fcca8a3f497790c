-- What the types say, and how much is lent, is kept by each exact definition, of sound memory and of other. Assumes nothing.
use Rattle.std.specs.Prelude.{ℕ, ◌^◌, ◌<◌, refl}
use Rattle.model.specs.Plans.{outcome_in}
use Rattle.model.specs.Interval.{Asked}
use Rattle.names.specs.Names.{Names, fresh_of, define_in}
use Rattle.request_rows.specs.Table.{Requests}
use Rattle.request_rows.specs.Remove.{remove_at, remove_in}
use Rattle.request_rows.specs.Cancel.{cancel_in}
use Rattle.request_rows.specs.Start.{Kept, start_in}
use Rattle.request_rows.specs.Dispatch.{dispatch_in}
use Rattle.request_rows.specs.Retrieve.{retrieve_at}
use Rattle.request_rows.specs.Advance.{advance_in, ask_in}
use Rattle.request_rows.specs.Fresh.{fresh_at}
use Rattle.request_rows.specs.Stands.{Memory, memory, with_programs, with_terminals, with_requests, with_kept}
use Rattle.request_rows.specs.Typed.{Typed, TypedAsked, Keeps}
use Rattle.request_rows.specs.Laws.KeptParts as parts

module _ (m : Memory) (y : Typed m) where
  -- ---- a part, kept

  programs : (v : Names) → parts.KeepsNames m.programs v → Keeps m (with_programs m v)
  programs v k = record {
    typed = record { programs = k.typed; terminals = y.terminals; requests = y.requests; bytes = y.bytes };
    sizes = record { programs = k.sizes; terminals = refl; register = refl; rows = refl; past = refl; area = refl };
  }

  terminals : (v : Names) → parts.KeepsNames m.terminals v → Keeps m (with_terminals m v)
  terminals v k = record {
    typed = record { programs = y.programs; terminals = k.typed; requests = y.requests; bytes = y.bytes };
    sizes = record { programs = refl; terminals = k.sizes; register = refl; rows = refl; past = refl; area = refl };
  }

  requests : (t : Requests) → parts.KeepsRequests m.requests t → Keeps m (with_requests m t)
  requests t k = record {
    typed = record { programs = y.programs; terminals = y.terminals; requests = k.typed; bytes = y.bytes };
    sizes = record { programs = refl; terminals = refl; register = k.register; rows = k.rows; past = k.past; area = refl };
  }

  with_data : (k : Kept) → parts.KeepsKept m.requests m.area k → Keeps m (with_kept m k)
  with_data k h = record {
    typed = record { programs = y.programs; terminals = y.terminals; requests = h.requests.typed; bytes = h.bytes };
    sizes = record { programs = refl; terminals = refl; register = h.requests.register; rows = h.requests.rows; past = h.requests.past; area = h.size };
  }

  -- ---- each definition

  pub program_kept : (n : ℕ) → n < 2 ^ 32 → Keeps m (outcome_in (with_programs m) (define_in m.programs n)).state
  program_kept n wide = programs (define_in m.programs n).state (parts.define_keeps m.programs y.programs n wide)

  pub terminal_kept : (n : ℕ) → n < 2 ^ 32 → Keeps m (outcome_in (with_terminals m) (define_in m.terminals n)).state
  terminal_kept n wide = terminals (define_in m.terminals n).state (parts.define_keeps m.terminals y.terminals n wide)

  pub remove_at_kept : (i : ℕ) → Keeps m (with_requests m (remove_at m.requests i))
  remove_at_kept i = requests (remove_at m.requests i) (parts.remove_at_keeps m.requests y.requests i)

  pub remove_kept : (n : ℕ) → Keeps m (with_requests m (remove_in m.requests n))
  remove_kept n = requests (remove_in m.requests n) (parts.remove_keeps m.requests y.requests n)

  pub cancel_kept : (n : ℕ) → Keeps m (outcome_in (with_requests m) (cancel_in m.requests n)).state
  cancel_kept n = requests (cancel_in m.requests n).state (parts.cancel_keeps m.requests y.requests n)

  pub start_kept : (a : Asked) → TypedAsked a
      → Keeps m (outcome_in (with_kept m) (start_in m.programs m.terminals m.requests m.area a)).state
  start_kept a w =
      with_data (start_in m.programs m.terminals m.requests m.area a).state
      (parts.start_keeps m.requests y.requests m.programs m.terminals m.area a w y.bytes)

  pub dispatch_kept : Keeps m (outcome_in (with_requests m) (dispatch_in m.requests)).state
  dispatch_kept = requests (dispatch_in m.requests).state (parts.dispatch_keeps m.requests y.requests)

  pub retrieve_kept : (i room : ℕ) → Keeps m (outcome_in (with_requests m) (retrieve_at m.requests m.area i room)).state
  retrieve_kept i room =
      requests (retrieve_at m.requests m.area i room).state (parts.retrieve_keeps m.requests y.requests m.area i room)

  pub advance_kept : (ticks : ℕ) → Keeps m (outcome_in (with_requests m) (advance_in m.requests ticks)).state
  advance_kept ticks = requests (advance_in m.requests ticks).state (parts.advance_keeps m.requests y.requests ticks)

  pub ask_kept : Keeps m (outcome_in (with_requests m) (ask_in m.requests)).state
  ask_kept = requests (ask_in m.requests).state (parts.ask_keeps m.requests y.requests)

  pub fresh_kept : (register : ℕ) → register < 2 ^ 64
      → Keeps m (memory (fresh_of m.programs) (fresh_of m.terminals) (fresh_at m.requests register) m.area)
  fresh_kept register wide =
      let p = parts.fresh_names m.programs y.programs in
      let e = parts.fresh_names m.terminals y.terminals in
      let t = parts.fresh_keeps m.requests y.requests register wide in
      record {
        typed = record { programs = p.typed; terminals = e.typed; requests = t.typed; bytes = y.bytes };
        sizes = record { programs = p.sizes; terminals = e.sizes; register = t.register; rows = t.rows; past = t.past; area = refl };
      }
