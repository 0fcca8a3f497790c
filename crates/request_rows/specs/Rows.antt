-- A request in four words, and every four words as a request: each word has one reading.
use Rattle.std.specs.Prelude.{ℕ, ◌+◌, ◌*◌, ◌/◌, ◌%◌, min, Bool, true, false, not, List, [], ◌∷◌, ◌++◌, eqb, take, drop, get_or}
use Rattle.base.specs.Choice.{pick}
use Rattle.request_rows.specs.declared.Phase.{Phase}
use Rattle.request_rows.specs.declared.Phase.TheVariants.{Waiting, Expired, Active}
use Rattle.request_rows.specs.declared.Request.{Request}

pub record Row : Type 0 where
  pub name : ℕ
  pub who : ℕ
  pub phase : ℕ
  pub rest : ℕ

abbrev pub row : ℕ → ℕ → ℕ → ℕ → Row
row a b c d = record { name = a; who = b; phase = c; rest = d }

-- what is read where there is no row
abbrev pub no_row : Row
no_row = row 0 0 0 0

-- four words as a row
abbrev pub row_of : List ℕ → Row
row_of w = row (get_or w 0 0) (get_or w 1 0) (get_or w 2 0) (get_or w 3 0)

-- ---- words as rows: the whole rows, and the words past them

abbrev pub rows_of : List ℕ → List Row
rows_of [] = []
rows_of (a ∷ []) = []
rows_of (a ∷ b ∷ []) = []
rows_of (a ∷ b ∷ c ∷ []) = []
rows_of (a ∷ b ∷ c ∷ d ∷ w) = row a b c d ∷ rows_of w

abbrev pub rest_of : List ℕ → List ℕ
rest_of [] = []
rest_of (a ∷ []) = a ∷ []
rest_of (a ∷ b ∷ []) = a ∷ b ∷ []
rest_of (a ∷ b ∷ c ∷ []) = a ∷ b ∷ c ∷ []
rest_of (a ∷ b ∷ c ∷ d ∷ w) = rest_of w

abbrev pub words_of : List Row → List ℕ
words_of [] = []
words_of (q ∷ l) = q.name ∷ q.who ∷ q.phase ∷ q.rest ∷ words_of l

-- rows, and words past them
abbrev pub flat : List Row → List ℕ → List ℕ
flat l t = words_of l ++ t

-- ---- the phase

-- 0 expired, 1 active, 2 active and its data taken; of any other word the low half is the due tick
unfoldable pub phase_of : ℕ → Phase
phase_of w = pick (eqb w 0) Expired (pick (eqb w 1) (Active false) (pick (eqb w 2) (Active true) (Waiting (w % 4_294_967_296))))

abbrev pub phase_word : Phase → ℕ
phase_word (Waiting d) = 4_294_967_296 + d
phase_word Expired = 0
phase_word (Active t) = pick t 2 1

abbrev pub is_expired : Phase → Bool
is_expired (Waiting d) = false
is_expired Expired = true
is_expired (Active t) = false

abbrev pub is_active : Phase → Bool
is_active (Waiting d) = false
is_active Expired = false
is_active (Active t) = true

abbrev pub not_taken : Phase → Bool
not_taken (Waiting d) = false
not_taken Expired = false
not_taken (Active t) = not t

-- ---- the fields of a row

abbrev pub program_of : Row → ℕ
program_of q = q.who / 4_294_967_296

abbrev pub terminal_of : Row → ℕ
terminal_of q = q.who % 4_294_967_296

abbrev pub len_of : Row → ℕ
len_of q = q.rest % 256

abbrev pub slot_of : Row → ℕ
slot_of q = q.rest / 256 % 256

abbrev pub decode : Row → Request
decode q = record {
  name = q.name;
  program = program_of q;
  terminal = terminal_of q;
  phase = phase_of q.phase;
  len = len_of q;
  slot = slot_of q;
}

abbrev pub encode : Request → Row
encode q = row q.name (q.program * 4_294_967_296 + q.terminal) (phase_word q.phase) (q.len + q.slot * 256)

abbrev pub in_phase : Phase → Row → Row
in_phase p q = row q.name q.who (phase_word p) q.rest

abbrev pub expired : Row → Bool
expired q = is_expired (phase_of q.phase)

abbrev pub active : Row → Bool
active q = is_active (phase_of q.phase)

abbrev pub named : ℕ → Row → Bool
named n q = eqb q.name n

-- its data, of the bytes that are lent: 64 bytes a slot
abbrev pub data_of : List ℕ → Row → List ℕ
data_of area q = take (min (len_of q) 64) (drop (slot_of q * 64) area)
