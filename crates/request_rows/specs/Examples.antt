-- Document 01, "Examples to prove": P2, P3 and P8, and P8 where the register wraps between start and dispatch; besides them the paper mill's
-- case, due in the last ticks before the wrap and looked at just after it. One table under one statement, `all_examples`, which the checker
-- computes from the exact definitions. Assumes nothing.
use Rattle.std.specs.Prelude.{ℕ, ◌≡◌, refl, List, [], ◌∷◌, ◌++◌, map, replicate}
use Rattle.std.specs.Int.Count.{ones}
use Rattle.base.specs.Bytes.{num_from, stored}
use Rattle.model.specs.Plans.{normal, invalid_request, not_found}
use Rattle.slots.specs.Bits.{bit, with_bit, clear_from, lowest_clear, free_for, put}
use Rattle.names.specs.Names as names
use Rattle.request_rows.specs.Circle.{after, to_go}
use Rattle.request_rows.specs.Rows.{phase_of}
use Rattle.request_rows.specs.Table.{view_of}
use Rattle.request_rows.specs.Advance.{lapse, advance_in, ask_in}
use Rattle.request_rows.specs.Dispatch.{pick_in, dispatch_in}
use Rattle.request_rows.specs.Fresh.{fresh_at}
use Rattle.request_rows.specs.Stands.{Memory, memory}
use Rattle.request_rows.specs.Start.{begun_at, free_slot, start_in}
use Rattle.request_rows.specs.Runs.{Ask, Program, Advance, AskTicks, Dispatch, Start, Heard, outcomes}
use Rattle.request_rows.specs.Laws.Fresh.{fresh_memory}

-- ---- how they are written

-- what is lent: 4 programs, 2 terminals, 6 requests and 64 bytes for each; what stands there before does not matter
abbrev lent : Memory
lent = memory (names.view_of (replicate 5 7)) (names.view_of (replicate 3 7)) (view_of (replicate 26 7)) (replicate 384 7)

-- a name of 8 bytes, one of 4, and none
abbrev long : ℕ → List ℕ
long k = replicate 7 0x52 ++ (k ∷ [])

abbrev short : ℕ → List ℕ
short k = 0x53 ∷ 0x50 ∷ 0x45 ∷ k ∷ []

abbrev none : List ℕ
none = replicate 4 0x20

abbrev defines : ℕ → Ask
defines k = Program (num_from 0 (short k))

-- a start at no terminal, without data
abbrev starts : ℕ → ℕ → ℕ → Ask
starts request program interval = Start (record { name = num_from 0 (long request); program = num_from 0 (short program); terminal = num_from 0 none; interval = interval; bytes = [] })

abbrev hears : ℕ → ℕ → List ℕ → Heard
hears c n b = record { condition = c; number = n; bytes = b }

-- condition 0 with a number, another condition, and what a dispatch gives
abbrev ok : ℕ → Heard
ok n = hears normal n []

abbrev plain : ℕ → Heard
plain c = hears c 0 []

abbrev gives : ℕ → ℕ → Heard
gives request program = hears normal 0 (long request ++ short program ++ none)

-- what is asked of fresh memory with that register, and what is heard
pub record Case : Type 0 where
  pub register : ℕ
  pub asks : List Ask
  pub hears : List Heard

-- ---- the examples

-- "P2 interval 359,999,000 accepted, 359,999,001 gets 10."
abbrev pub p2 : Case
p2 = record {
  register = 0;
  asks = defines 1 ∷ starts 1 1 359_999_000 ∷ starts 2 1 359_999_001 ∷ [];
  hears = ok 0 ∷ ok 0 ∷ plain invalid_request ∷ [];
}

-- "P3 advance 1,000,000,000 accepted, one more gets 10."
abbrev pub p3 : Case
p3 = record {
  register = 0;
  asks = Advance 1_000_000_000 ∷ Advance 1_000_000_001 ∷ AskTicks ∷ [];
  hears = ok 0 ∷ plain invalid_request ∷ ok 1_000_000_000 ∷ [];
}

-- "P8 two starts due at the same tick dispatch in order of acceptance." The first accepted has the later name.
abbrev pub two_starts : List Ask
two_starts = defines 1 ∷ defines 2 ∷ starts 5 1 3 ∷ starts 4 2 3 ∷ Advance 3 ∷ Dispatch ∷ Dispatch ∷ []

abbrev pub two_heard : List Heard
two_heard = ok 0 ∷ ok 0 ∷ ok 0 ∷ ok 0 ∷ ok 2 ∷ gives 5 1 ∷ gives 4 2 ∷ []

abbrev pub p8 : Case
p8 = record { register = 0; asks = two_starts; hears = two_heard }

-- the same from 2 ticks before the wrap: both are due at tick 1 behind it
abbrev pub p8_wrap : Case
p8_wrap = record { register = 4_294_967_294; asks = two_starts ++ (AskTicks ∷ []); hears = two_heard ++ (ok 1 ∷ []) }

-- The paper mill's: from 6 ticks before the wrap, 4 and 3 are due at the last tick before it, and 5, accepted before them, at tick 4 behind it.
-- Looked at at tick 2, 4 and 3 have expired and 5 has not; at tick 4 it has. Then the register goes on by more than half of the circle, and
-- nothing changes: they start by due and then by order of acceptance. (specs/AdvanceExamples.antt shows the rows of such a case.)
abbrev pub mill : Case
mill = record {
  register = 4_294_967_290;
  asks = defines 1 ∷ defines 2 ∷ defines 3 ∷ starts 5 1 10 ∷ starts 4 2 5 ∷ starts 3 3 5 ∷ Advance 8 ∷ AskTicks ∷ Advance 2
      ∷ Advance 1_000_000_000 ∷ Advance 1_000_000_000 ∷ Advance 1_000_000_000 ∷ Dispatch ∷ Dispatch ∷ Dispatch ∷ Dispatch ∷ [];
  hears = ok 0 ∷ ok 0 ∷ ok 0 ∷ ok 0 ∷ ok 0 ∷ ok 0 ∷ ok 2 ∷ ok 2 ∷ ok 1
      ∷ ok 0 ∷ ok 0 ∷ ok 0 ∷ gives 4 2 ∷ gives 3 3 ∷ gives 5 1 ∷ plain not_found ∷ [];
}

abbrev pub examples : List Case
examples = p2 ∷ p3 ∷ p8 ∷ p8_wrap ∷ mill ∷ []

-- ---- the statement

abbrev pub got : Case → List Heard
got c = outcomes (fresh_memory lent lent.area c.register) c.asks

abbrev pub wanted : Case → List Heard
wanted c = c.hears

pub all_examples : map got examples ≡ map wanted examples
unfolding outcomes fresh_at names.define_in lapse advance_in ask_in after to_go phase_of dispatch_in pick_in start_in begun_at free_slot free_for lowest_clear clear_from put with_bit bit ones stored
all_examples = refl
