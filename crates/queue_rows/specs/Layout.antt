-- Where the columns lie in the words, as the code has it, and what is seen in them.
use Rattle.std.specs.Prelude.{ℕ, ◌+◌, ◌*◌, ◌≤◌, min, ◌≡◌, List}
use Rattle.queue_rows.specs.declared.Columns.{Columns}
use Rattle.queue_rows.specs.Table.{Queues, columns, slots_for, rows_for}

-- the columns stand one behind the other, behind a head of three words or as many as there are, and all of them lie in the words
pub record Laid (words : ℕ) (l : Columns) : Type 0 where
  pub names : l.names ≡ min 3 words
  pub pointers : l.pointers ≡ l.names + l.rows
  pub owner : l.owner ≡ l.pointers + l.rows
  pub slot : l.slot ≡ l.owner + l.slots
  pub len : l.len ≡ l.slot + l.slots
  pub inside : l.len + l.slots ≤ words

-- they are as long as the definitions say; each slot has its 64 bytes
pub record Sized (words bytes : ℕ) (l : Columns) : Type 0 where
  pub rows : l.rows ≡ rows_for words (slots_for words bytes)
  pub slots : l.slots ≡ slots_for words bytes
  pub few : l.slots ≤ 128
  pub lent : l.slots * 64 ≤ bytes

-- the queues in words that are laid out so
abbrev pub seen : Columns → List ℕ → Queues
seen l w = columns l.rows l.slots w
