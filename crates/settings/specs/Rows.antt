-- A task's row: its name, and a word for each of its settings. Every word has one reading.
use Rattle.std.specs.Prelude.{ℕ, zero, suc, ◌*◌, ◌/◌, Bool, List, [], ◌∷◌, ◌++◌, eqb, ltb, length, take, drop, get_or, set, replicate}
use Rattle.base.specs.Choice.{pick}
use Rattle.settings.specs.declared.Setting.{Setting}
use Rattle.settings.specs.declared.Setting.TheVariants.{Unset, Ignore, Label}

-- "Each task has a setting for conditions 0..10": eleven words
pub record Line : Type 0 where
  pub name : ℕ
  pub cells : List ℕ

abbrev pub line : ℕ → List ℕ → Line
line n l = record { name = n; cells = l }

abbrev pub name_of : Line → ℕ
name_of v = v.name

-- ---- words as rows, twelve words each: the first n rows, all that are whole, and the words past them

abbrev pub lines : ℕ → List ℕ → List Line
lines zero w = []
lines (suc n) w = line (get_or w 0 0) (take 11 (drop 1 w)) ∷ lines n (drop 12 w)

abbrev pub lines_of : List ℕ → List Line
lines_of w = lines (length w / 12) w

abbrev pub rest_of : List ℕ → List ℕ
rest_of w = drop (length w / 12 * 12) w

abbrev pub words_of : List Line → List ℕ
words_of [] = []
words_of (v ∷ l) = v.name ∷ (v.cells ++ words_of l)

-- ---- a setting

-- "unset, ignore, or a label 1..65535": 0 is unset, any word above 65535 is ignore
unfoldable pub read_setting : ℕ → Setting
read_setting w = pick (eqb w 0) Unset (pick (ltb w 65_536) (Label w) Ignore)

abbrev pub setting_word : Setting → ℕ
setting_word Unset = 0
setting_word Ignore = 65_536
setting_word (Label n) = n

-- ---- the settings of a row

abbrev pub named : ℕ → Line → Bool
named n v = eqb v.name n

-- "All are unset at dispatch."
abbrev pub unset_line : ℕ → Line
unset_line n = line n (replicate 11 0)

-- what is read where there is no row
abbrev pub no_line : Line
no_line = unset_line 0

abbrev pub setting_at : ℕ → Line → Setting
setting_at c v = read_setting (get_or v.cells c 0)

abbrev pub with_word : ℕ → ℕ → Line → Line
with_word c w v = line v.name (set v.cells c w)

abbrev pub with_setting : ℕ → Setting → Line → Line
with_setting c x v = with_word c (setting_word x) v
