-- The paper mill's case, across the register's wrap: what is due in the last ticks before it is expired when looked at just after it,
-- and what is due just after it is not expired before it. Assumes nothing.
use Rattle.std.specs.Prelude.{◌≡◌, ℕ, List, [], ◌∷◌, map, replicate, refl, Ok, Err}
use Rattle.interval.specs.declared.Phase.{Phase}
use Rattle.interval.specs.declared.Phase.TheVariants.{Waiting, Expired}
use Rattle.interval.specs.declared.Request.{Request}
use Rattle.interval.specs.declared.Requests.{Requests}
use Rattle.interval.specs.Circle.{after, to_go}
use Rattle.interval.specs.Table.{live}
use Rattle.interval.specs.Advance.{advance_of}

-- a row, and what is seen of it
abbrev row : ℕ → Phase → Request
row n p = record { name = n; program = 1; terminal = 2; phase = p; len = 0; bytes = replicate 64 0 }

record Seen : Type 0 where
  name : ℕ
  phase : Phase

abbrev seen : ℕ → Phase → Seen
seen n p = record { name = n; phase = p }

abbrev look : Requests → List Seen
look t = map (λ (q : Request). seen q.name q.phase) (live t)

-- 6 ticks before the wrap: 1 is due 4 ticks after it, 2 and 3 at the last tick before it; 4 has been in the line for long
abbrev mill : Requests
mill = record {
  register = 4_294_967_290;
  pcount = 0;
  programs = [];
  tcount = 0;
  terminals = [];
  count = 4;
  rows = row 1 (Waiting 4) ∷ row 2 (Waiting 4_294_967_295) ∷ row 3 (Waiting 4_294_967_295) ∷ row 4 Expired ∷ row 9 Expired ∷ [];
}

-- to the last tick before the wrap: those two have expired, in order of acceptance, behind the older; the other has not
before_wrap : look (advance_of mill 5).requests ≡ seen 1 (Waiting 4) ∷ seen 4 Expired ∷ seen 2 Expired ∷ seen 3 Expired ∷ []
unfolding advance_of after to_go
before_wrap = refl

-- to just after the wrap, in one advance: the same
across_wrap : look (advance_of mill 8).requests ≡ seen 1 (Waiting 4) ∷ seen 4 Expired ∷ seen 2 Expired ∷ seen 3 Expired ∷ []
unfolding advance_of after to_go
across_wrap = refl

across_register : (advance_of mill 8).requests.register ≡ 2
unfolding advance_of after to_go
across_register = refl

across_number : (advance_of mill 8).outcome ≡ Ok 2
unfolding advance_of after to_go
across_number = refl

-- and on to the tick at which the first is due: it stands behind those that were due before it
due_after : look (advance_of mill 10).requests ≡ seen 4 Expired ∷ seen 2 Expired ∷ seen 3 Expired ∷ seen 1 Expired ∷ []
unfolding advance_of after to_go
due_after = refl

-- what has expired stays so, however far the register goes
long_after : look (advance_of (advance_of (advance_of mill 10).requests 1_000_000_000).requests 1_000_000_000).requests
    ≡ seen 4 Expired ∷ seen 2 Expired ∷ seen 3 Expired ∷ seen 1 Expired ∷ []
unfolding advance_of after to_go
long_after = refl

too_far : (advance_of mill 1_000_000_001).outcome ≡ Err (record {})
unfolding advance_of after to_go
too_far = refl
