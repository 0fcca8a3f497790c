-- What the types say of the words and bytes that are lent: how wide each number is, and that how many there are is a number of a word. Assumes nothing.
use Rattle.std.specs.Prelude.{ℕ, ◌^◌, ◌<◌, ◌≡◌, Bool, true, ◌&&◌, ltb, length}
use Rattle.base.specs.Lists.{all}
use Rattle.base.specs.Bytes.{is_bytes}
use Rattle.model.specs.Interval.{Asked}
use Rattle.names.specs.Names.{Names}
use Rattle.request_rows.specs.Rows.{Row}
use Rattle.request_rows.specs.Table.{Requests}
use Rattle.request_rows.specs.Stands.{Memory}

abbrev pub word : ℕ → Bool
word n = ltb n (2 ^ 64)

abbrev pub typed_row : Row → Bool
typed_row q = word q.name && word q.who && word q.phase && word q.rest

pub record TypedNames (v : Names) : Type 0 where
  pub count : v.count < 2 ^ 64
  pub size : length v.places < 2 ^ 64
  pub each : all word v.places ≡ true

pub record TypedRequests (t : Requests) : Type 0 where
  pub register : all word t.register ≡ true
  pub count : t.count < 2 ^ 64
  pub size : length t.rows < 2 ^ 64
  pub each : all typed_row t.rows ≡ true
  pub past : all word t.past ≡ true

pub record Typed (m : Memory) : Type 0 where
  pub programs : TypedNames m.programs
  pub terminals : TypedNames m.terminals
  pub requests : TypedRequests m.requests
  pub bytes : is_bytes m.area ≡ true

-- the same of what a start asks for; how wide its interval is does not matter, since it has a bound
pub record TypedAsked (a : Asked) : Type 0 where
  pub name : a.name < 2 ^ 64
  pub program : a.program < 2 ^ 32
  pub terminal : a.terminal < 2 ^ 32
  pub bytes : is_bytes a.bytes ≡ true

-- as much is lent, of each kind
pub record SameSizes (m m' : Memory) : Type 0 where
  pub programs : length m'.programs.places ≡ length m.programs.places
  pub terminals : length m'.terminals.places ≡ length m.terminals.places
  pub register : length m'.requests.register ≡ length m.requests.register
  pub rows : length m'.requests.rows ≡ length m.requests.rows
  pub past : length m'.requests.past ≡ length m.requests.past
  pub area : length m'.area ≡ length m.area

-- what every exact definition keeps
pub record Keeps (m m' : Memory) : Type 0 where
  pub typed : Typed m'
  pub sizes : SameSizes m m'
