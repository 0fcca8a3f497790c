-- Define program, define terminal.
use Rattle.std.specs.Prelude.{ℕ, List, [], ◌∷◌, ◌++◌, length, take, ◌==◌, nat_le, is_ok, Result, Ok, Err}
use Rattle.base.specs.Choice.{pick}
use Rattle.base.specs.Lists.{has, over}
use Rattle.base.specs.Bytes.{blank}
use Rattle.model.specs.Plans.{normal, invalid_request, not_unique, no_space}
use Rattle.interval.specs.declared.Requests.{Requests}
use Rattle.interval.specs.declared.answers.DefineError.{DefineError}
use Rattle.interval.specs.declared.answers.DefineError.TheVariants.{Invalid, NotUnique, NoSpace}
use Rattle.interval.specs.Answers.{Defined}

abbrev pub define_gives : Result (Unit {0}) DefineError → ℕ
define_gives (Ok u) = normal
define_gives (Err Invalid) = invalid_request
define_gives (Err NotUnique) = not_unique
define_gives (Err NoSpace) = no_space

-- what a new name comes to behind those that are known, of which there are `most` at most
unfoldable pub ruling : ℕ → List ℕ → ℕ → Result (Unit {0}) DefineError
ruling most known n =
    pick (n == blank 4) (Err Invalid)
    (pick (has n known) (Err NotUnique)
    (pick (nat_le most (length known)) (Err NoSpace) (Ok tt)))

-- the names known, and a name more
abbrev pub behind : ℕ → List ℕ → ℕ → List ℕ
behind count places n = take count places ++ (n ∷ [])

-- t with other programs, and with other terminals: the places, and how many of them count
abbrev pub put_programs : Requests → ℕ → List ℕ → Requests
put_programs t k l = record {
  register = t.register;
  pcount = k;
  programs = l;
  tcount = t.tcount;
  terminals = t.terminals;
  count = t.count;
  rows = t.rows;
}

abbrev pub put_terminals : Requests → ℕ → List ℕ → Requests
put_terminals t k l = record {
  register = t.register;
  pcount = t.pcount;
  programs = t.programs;
  tcount = k;
  terminals = l;
  count = t.count;
  rows = t.rows;
}

-- a name more behind the first `count` places, where the ruling is that it is done
abbrev pub define : ℕ → ℕ → List ℕ → Requests → (ℕ → List ℕ → Requests) → ℕ → Defined
define most count places t put n =
    let more : List ℕ = behind count places n in
    let o : Result (Unit {0}) DefineError = ruling most (take count places) n in
    record { requests = pick (is_ok o) (put (length more) (over more places)) t; outcome = o }

unfoldable pub define_program : Requests → ℕ → Defined
define_program t n = define 16 t.pcount t.programs t (put_programs t) n

unfoldable pub define_terminal : Requests → ℕ → Defined
define_terminal t n = define 8 t.tcount t.terminals t (put_terminals t) n
