-- What a sweep leaves of the entries: the columns of their owners and slots.
use Rattle.std.specs.Prelude.{ℕ, ◌≡◌, List, length, take}
use Rattle.base.specs.Lists.{over}
use Rattle.slots.specs.declared.Used.{Used}
use Rattle.queue_rows.specs.Table.{slots_of}
use Rattle.queue_rows.specs.Delete.{others_than, slots_but, clear_all}

-- the first i entries are swept: those of the name are gone and their slots are free, and j others are left in front
pub record Swept (n : ℕ) (owner slot : List ℕ) (u : Used) (i : ℕ) (v : Used) (j : ℕ) (os ss : List ℕ) : Type 0 where
  pub used : v ≡ clear_all u (slots_of n (take i owner) (take i slot))
  pub kept : j ≡ length (others_than n (take i owner))
  pub owners : os ≡ over (others_than n (take i owner)) owner
  pub slots : ss ≡ over (slots_but n (take i owner) (take i slot)) slot
