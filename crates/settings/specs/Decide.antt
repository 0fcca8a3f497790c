-- What decides: "setting c decides; if unset, setting 0".
use Rattle.std.specs.Prelude.{ℕ}
use Rattle.settings.specs.declared.Setting.{Setting}
use Rattle.settings.specs.declared.Setting.TheVariants.{Unset, Ignore, Label}
use Rattle.settings.specs.Rows.{setting_at}
use Rattle.settings.specs.Table.{Tasks, line_in}

abbrev pub or_else : Setting → Setting → Setting
or_else Unset general = general
or_else Ignore general = Ignore
or_else (Label n) general = Label n

-- a task that has no row has all unset, and above 10 there is no setting
unfoldable pub decide_in : Tasks → ℕ → ℕ → Setting
decide_in t n c = or_else (setting_at c (line_in t n)) (setting_at 0 (line_in t n))
