-- A start by a condition's number, a row's number and one pass over the requests: the code has Results, Options and the library's methods now, and
-- nothing cites these. Assumes nothing.
use Rattle.std.specs.Prelude.{◌≡◌, ℕ, ◌+◌, ◌*◌, ◌<◌, ◌≤◌, Bool, true, false, not, ◌&&◌, ◌||◌, ltb, List, [], ◌∷◌, ◌++◌, length, take, ◌==◌, ◌≢◌, nat_lt, slice_index_or, refl}
use Rattle.std.proofs.Math.Path.{sym, ap}
use Rattle.std.proofs.Common.{ap₂, ◌∙◌, arith, take_all}
use borrow.Author.Tests.{eq-eqb, ne_eqb, lt-ltb, le-ltb, ltb-true, ltb-false}
use Rattle.base.specs.Choice.{pick}
use Rattle.base.specs.Lists.{any, first_at, has}
use Rattle.base.specs.Bytes.{blank, stored}
use Rattle.base.specs.Laws.Tests.{and_l, and_r}
use Rattle.base.specs.Laws.Keep.{first_at_any}
use Rattle.base.specs.Laws.Scans.{read_cons}
use Rattle.base.specs.Laws.Seeking.{counted, within, seeks_hit, seeks_on, seeks_end}
use Rattle.slots.specs.Bits.{none, marked, free_for}
use Rattle.slots.specs.declared.Used.{Used}
use Rattle.model.specs.Plans.{normal, invalid_request, wrong_length, unknown_program, unknown_terminal, not_unique, no_space, Outcome, fault, done}
use Rattle.model.specs.Interval.{Asked, none_or_known}
use Rattle.words.specs.declared.said.Said.{Said}
use Rattle.words.specs.Said.{gave, handed}
use Rattle.names.specs.Names.{Names, names_in}
use Rattle.request_rows.specs.declared.Phase.{Phase}
use Rattle.request_rows.specs.declared.Request.{Request}
use Rattle.request_rows.specs.Rows.{Row, no_row, slot_of, decode, encode, named}
use Rattle.request_rows.specs.Table.{Requests, view_of, register_of, live, with_live, slots_in}
use Rattle.request_rows.specs.Start.{begun_at, used_from, slot_from, free_slot, room_in, Kept, kept, begin, start_in}
use Rattle.request_rows.specs.Laws.View.{Seeks, live_sought}

-- ---- what a start finds out on its way

-- the condition that arises before the requests are looked at, and normal where none does
unfoldable pub refusal : Names → Names → ℕ → ℕ → ℕ → ℕ → ℕ → ℕ
refusal programs terminals n p m i size =
    pick (n == blank 8 || nat_lt 359_999_000 i) invalid_request
    (pick (nat_lt 64 size) wrong_length
    (pick (not (has p (names_in programs))) unknown_program
    (pick (not (none_or_known m (names_in terminals))) unknown_terminal normal)))

-- where a name stands, and the slots of the rows before it
pub record Passed (l : List Row) (n at : ℕ) (u : Used) : Type 0 where
  pub place : at ≡ first_at (named n) l
  pub used : u ≡ used_from none (take at l)

-- the lowest slot that is not in use
unfoldable pub slot_at : Used → ℕ
slot_at u = slot_from (free_for 128 u)

-- what comes to be where nothing is refused
unfoldable pub accept_in : Requests → List ℕ → Asked → Outcome Kept
accept_in t area a =
    pick (any (named a.name) (live t)) (fault (kept t area) not_unique)
    (pick (not (room_in t area)) (fault (kept t area) no_space)
    (done (begin t area a (free_slot (live t))) 0))

-- ---- the pass over the requests

used_snoc : (u : Used) (l : List Row) (q : Row) → used_from u (l ++ (q ∷ [])) ≡ marked (used_from u l) (slot_of q)
used_snoc u [] q = refl
used_snoc u (r ∷ l) q = used_snoc (marked u (slot_of r)) l q

module _ (w : List ℕ) (n m : ℕ) where
  -- none of the rows before i has the name, and u are their slots
  pub record Passing (i : ℕ) (u : Used) : Type 0 where
    pub sought : Seeks (named n) w m i
    pub used : u ≡ used_from none (take i (live (view_of w)))

  pub passing_start : m ≡ length (live (view_of w)) → (u : Used) → u ≡ none → Passing 0 u
  passing_start e u z = record { sought = live_sought w (named n) m e; used = z }

  module _ (i : ℕ) (u : Used) (v : Passing i u) where
    module _ (h : i < m) (q : Request) (e : q ≡ decode (slice_index_or (view_of w).rows i no_row)) where
      pub passing_hit : q.name ≡ n → Passed (live (view_of w)) n i u
      passing_hit f =
          record { place = seeks_hit v.sought h no_row (eq-eqb _ _ (sym (ap (λ (x : Request). x.name) e) ∙ f)); used = v.used }

      pub passing_on : (q.name ≢ n) → (k : ℕ) → k ≡ q.slot → (u' : Used) → u' ≡ marked u k → Passing (i + 1) u'
      passing_on f k g u' s =
          record {
            sought = seeks_on v.sought h no_row (ne_eqb _ _ (λ z. f (ap (λ (x : Request). x.name) e ∙ z)));
            used =
                s ∙ ap₂ marked v.used (g ∙ ap (λ (x : Request). x.slot) e)
                ∙ sym (used_snoc none (take i (live (view_of w))) (slice_index_or (view_of w).rows i no_row))
                ∙ ap (used_from none) (sym (read_cons (view_of w).rows (view_of w).count i no_row (counted v.sought h) (within v.sought h)));
          }

    pub passing_end : m ≤ i → Passed (live (view_of w)) n i u
    passing_end h = record { place = seeks_end v.sought h; used = v.used }

-- ---- what is said before that

module _ {O : Type 0} (f : ℕ → O) (x y z v : ℕ) (rest : O) where
  -- the first of four tests that holds
  first_of_lem : (a b d e : Bool) (c : ℕ) → c ≡ pick a x (pick b y (pick d z (pick e v 0))) → (c ≢ 0)
      → f c ≡ pick a (f x) (pick b (f y) (pick d (f z) (pick e (f v) rest)))
  first_of_lem true b d e c k n = ap f k
  first_of_lem false true d e c k n = ap f k
  first_of_lem false false true e c k n = ap f k
  first_of_lem false false false true c k n = ap f k
  first_of_lem false false false false c k n = absurd (n k)

-- none of them holds
none_of : (a b d e : Bool) → pick a 10 (pick b 4 (pick d 5 (pick e 6 normal))) ≡ normal → (a ≡ false) × (b ≡ false) × (d ≡ false) × (e ≡ false)
none_of true b d e k = absurd (omega arith)
none_of false true d e k = absurd (omega arith)
none_of false false true e k = absurd (omega arith)
none_of false false false true k = absurd (omega arith)
none_of false false false false k = (refl, refl, refl, refl)

module _ (ps ts : Names) (t : Requests) (area : List ℕ) (a : Asked) where
  abbrev refuses : ℕ
  refuses = refusal ps ts a.name a.program a.terminal a.interval (length a.bytes)

  pub start_refused : (c : ℕ) → c ≡ refuses → (c ≢ 0) → fault (kept t area) c ≡ start_in ps ts t area a
  unfolding start_in refusal
  start_refused c e n =
      first_of_lem (fault (kept t area)) 10 4 5 6 _ (a.name == blank 8 || nat_lt 359_999_000 a.interval) (nat_lt 64 (length a.bytes))
      (not (has a.program (names_in ps))) (not (none_or_known a.terminal (names_in ts))) c e n

  module _ (e : refuses ≡ normal) where
    cleared : ((a.name == blank 8 || nat_lt 359_999_000 a.interval) ≡ false) × (nat_lt 64 (length a.bytes) ≡ false)
        × (not (has a.program (names_in ps)) ≡ false) × (not (none_or_known a.terminal (names_in ts)) ≡ false)
    unfolding refusal
    cleared =
        none_of (a.name == blank 8 || nat_lt 359_999_000 a.interval) (nat_lt 64 (length a.bytes))
        (not (has a.program (names_in ps))) (not (none_or_known a.terminal (names_in ts))) e

    pub start_small : length a.bytes ≤ 64
    start_small = ltb-false 64 (length a.bytes) cleared.1

    start_accepted : accept_in t area a ≡ start_in ps ts t area a
    unfolding start_in accept_in
    start_accepted = rw (cleared.0, cleared.1, cleared.2, cleared.3)

    pub start_said : (r : Said) (s : Kept) → ((b : List ℕ) → gave r s b ≡ handed (accept_in t area a) b)
        → (b : List ℕ) → gave r s b ≡ handed (start_in ps ts t area a) b
    start_said r s g b = g b ∙ ap (λ (o : Outcome Kept). handed o b) start_accepted

-- ---- where nothing is refused

module _ (t : Requests) (area : List ℕ) (a : Asked) (at : ℕ) (u : Used) (p : Passed (live t) a.name at u) where
  found : any (named a.name) (live t) ≡ nat_lt at (length (live t))
  found = first_at_any (named a.name) (live t) ∙ ap (λ (i : ℕ). ltb i (length (live t))) (sym p.place)

  pub accept_taken : at < length (live t) → fault (kept t area) not_unique ≡ accept_in t area a
  unfolding accept_in
  accept_taken h = rw (found ∙ lt-ltb at (length (live t)) h)

  module _ (h : length (live t) ≤ at) (k : ℕ) (ek : k ≡ slot_at u) where
    unique : any (named a.name) (live t) ≡ false
    unique = found ∙ le-ltb at (length (live t)) h

    slot : k ≡ free_slot (live t)
    unfolding free_slot slot_at
    slot = ek ∙ ap slot_at (p.used ∙ ap (used_from none) (take_all at (live t) h))

    module _ (m : ℕ) (em : m ≡ length (live t)) (b : Bool) (eb : b ≡ (nat_lt m (length t.rows) && nat_lt k (slots_in area))) where
      room : b ≡ room_in t area
      room = eb ∙ ap₂ (λ (i j : ℕ). nat_lt i (length t.rows) && nat_lt j (slots_in area)) em slot

      pub accept_full : b ≡ false → fault (kept t area) no_space ≡ accept_in t area a
      unfolding accept_in
      accept_full f = rw (unique, sym room ∙ f)

      abbrev begun_in : Phase → Request
      begun_in ph = record { name = a.name; program = a.program; terminal = a.terminal; phase = ph; len = length a.bytes; slot = k }

      pub accept_done : b ≡ true → (ph : Phase) → ph ≡ begun_at (register_of t) a.interval → (t' : Requests) (area' : List ℕ)
          → t' ≡ with_live t (live t ++ (encode (begun_in ph) ∷ [])) → area' ≡ stored area (k * 64) a.bytes → done (kept t' area') 0 ≡ accept_in t area a
      unfolding accept_in
      accept_done f ph ep t' area' et ea = rw (unique, sym room ∙ f, et, ea, ep, slot)

-- where there is room
module _ (t : Requests) (area : List ℕ) (m k : ℕ) (b : Bool) (eb : b ≡ (nat_lt m (length t.rows) && nat_lt k (slots_in area))) (f : b ≡ true) where
  pub room_row : m < length t.rows
  room_row = ltb-true m (length t.rows) (and_l (nat_lt m (length t.rows)) (nat_lt k (slots_in area)) (sym eb ∙ f))

  pub room_slot : k < 128
  room_slot = let h = ltb-true k (slots_in area) (and_r (nat_lt m (length t.rows)) (nat_lt k (slots_in area)) (sym eb ∙ f)) in omega arith
