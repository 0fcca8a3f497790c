-- The paper mill's case in rows, across the register's wrap: what is due in the last ticks before it is expired when looked at just after it
-- (`across_wrap`), and what is due just after it is not expired before it (`before_wrap`). Assumes nothing.
use Rattle.std.specs.Prelude.{ℕ, ◌≡◌, refl, List, [], ◌∷◌, map}
use Rattle.model.specs.Plans.{invalid_request, fault}
use Rattle.request_rows.specs.declared.Phase.{Phase}
use Rattle.request_rows.specs.declared.Phase.TheVariants.{Waiting, Expired}
use Rattle.request_rows.specs.Circle.{after, to_go}
use Rattle.request_rows.specs.Rows.{Row, row, phase_of, phase_word}
use Rattle.request_rows.specs.Table.{Requests, register_of, live}
use Rattle.request_rows.specs.Advance.{lapse, advance_in}

-- a request by its name, and what is seen of it
abbrev request : ℕ → Phase → Row
request n p = row n 1 (phase_word p) 0

record Seen : Type 0 where
  name : ℕ
  phase : Phase

abbrev seen : ℕ → Phase → Seen
seen n p = record { name = n; phase = p }

abbrev look : Requests → List Seen
look t = map (λ (q : Row). seen q.name (phase_of q.phase)) (live t)

-- 6 ticks before the wrap: 1 is due 4 ticks after it, 2 and 3 at the last tick before it; 4 has been in the line for long; 9 is past the count
abbrev mill : Requests
mill = record {
  register = 4_294_967_290 ∷ [];
  count = 4;
  rows = request 1 (Waiting 4) ∷ request 2 (Waiting 4_294_967_295) ∷ request 3 (Waiting 4_294_967_295) ∷ request 4 Expired ∷ request 9 Expired ∷ [];
  past = [];
}

abbrev on : ℕ → Requests
on ticks = (advance_in mill ticks).state

-- to the last tick before the wrap: those two have expired, in order of acceptance, behind the older; the other has not
before_wrap : look (on 5) ≡ seen 1 (Waiting 4) ∷ seen 4 Expired ∷ seen 2 Expired ∷ seen 3 Expired ∷ []
unfolding advance_in lapse phase_of after to_go
before_wrap = refl

-- to just after the wrap, in one advance: the same
across_wrap : look (on 8) ≡ seen 1 (Waiting 4) ∷ seen 4 Expired ∷ seen 2 Expired ∷ seen 3 Expired ∷ []
unfolding advance_in lapse phase_of after to_go
across_wrap = refl

across_register : register_of (on 8) ≡ 2
unfolding advance_in lapse phase_of after to_go
across_register = refl

across_number : (advance_in mill 8).number ≡ 2
unfolding advance_in lapse phase_of after to_go
across_number = refl

-- and on to the tick at which the first is due: it stands behind those that were due before it
due_after : look (on 10) ≡ seen 4 Expired ∷ seen 2 Expired ∷ seen 3 Expired ∷ seen 1 Expired ∷ []
unfolding advance_in lapse phase_of after to_go
due_after = refl

-- what has expired stays so, however far the register goes
long_after : look (advance_in (advance_in (on 10) 1_000_000_000).state 1_000_000_000).state
    ≡ seen 4 Expired ∷ seen 2 Expired ∷ seen 3 Expired ∷ seen 1 Expired ∷ []
unfolding advance_in lapse phase_of after to_go
long_after = refl

too_far : advance_in mill 1_000_000_001 ≡ fault mill invalid_request
unfolding advance_in
too_far = refl
