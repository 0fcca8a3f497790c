-- What the code's answers on the table of commands stand for among the model's.
use Rattle.std.specs.Prelude.{ℕ, suc, zero, ◌-◌, ◌≡◌, Bool, false, not, ◌&&◌, List, [], ◌∷◌, leb, length, get_or}
use Rattle.model.specs.Commands.{Size, exactly, at_least, never, fits, Who, anyone, sys, task, row_of}
use Rattle.records.specs.declared.Extent.{Extent}
use Rattle.records.specs.declared.Extent.TheVariants.{Exactly, AtLeast, Never}
use Rattle.records.specs.declared.Kind.{Kind}
use Rattle.records.specs.declared.Kind.TheVariants.{Anyone, System, Task}
use Rattle.records.specs.declared.Part.{Part}
use Rattle.records.specs.declared.Part.TheVariants.{Interval, Finish, Queues, Settings}
use Rattle.records.specs.declared.Row.{Row}

abbrev pub size_of : Extent → Size
size_of (Exactly k) = exactly k
size_of (AtLeast k) = at_least k
size_of Never = never

abbrev pub who_of : Kind → Who
who_of Anyone = anyone
who_of System = sys
who_of Task = task

-- the parts that obey the commands, from 1; a number that is no command's is looked up all the same
abbrev pub parts : List Part
parts =
    Interval ∷ Interval ∷ Interval ∷ Interval ∷ Interval ∷ Interval ∷ Interval ∷ Interval ∷ Finish
    ∷ Queues ∷ Queues ∷ Queues ∷ Queues ∷ Queues ∷ Settings ∷ Settings ∷ Settings ∷ []

abbrev pub part_of : ℕ → Part
part_of zero = Interval
part_of (suc k) = get_or parts k Interval

-- a row of the table of commands
pub record Columns (n : ℕ) (r : Row) : Type 0 where
  pub size : size_of r.0 ≡ (row_of n).size
  pub who : who_of r.1 ≡ (row_of n).who
  pub part : r.2 ≡ part_of n

-- a record whose operands are to be of that size
abbrev pub shaped_as : Size → List ℕ → Bool
shaped_as z r = leb 9 (length r) && fits z (length r - 9)

-- is it not for the system, or for no one else
abbrev pub shut_to : Kind → Bool → Bool
shut_to Anyone system = false
shut_to System system = not system
shut_to Task system = system
