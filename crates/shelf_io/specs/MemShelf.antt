-- the shelf in memory
use Rattle.std.specs.Prelude.{◌≡◌, ◌-◌, Bool, true, false, ℕ, List, length, min, Option, Some, None, Result, Ok, Err}
use Rattle.shelf_io.specs.Files as files
use Rattle.shelf_io.specs.declared.traits.Failed.{Failed}
use Rattle.shelf_io.specs.declared.plan.Plan.{Plan}
use Rattle.shelf_io.specs.declared.mem_shelf.MemShelf.{MemShelf}

-- what the file under a name holds; none where the name is lacking
abbrev pub held : MemShelf → List ℕ → Option (List ℕ)
held shelf name = files.held shelf.files name

-- how many takes have failed
abbrev pub failed_takes : MemShelf → ℕ
failed_takes shelf = shelf.reads

-- how many calls of `begin` and `put` have failed
abbrev pub failed_writes : MemShelf → ℕ
failed_writes shelf = shelf.writes

-- the calls that are to fail, and how much one put takes
abbrev pub plan_of : MemShelf → Plan
plan_of shelf = shelf.plan

-- two shelves have failed as often, and are to fail at the same calls
pub record SameFaults (old new : MemShelf) : Type 0 where
  pub takes : failed_takes new ≡ failed_takes old
  pub writes : failed_writes new ≡ failed_writes old
  pub plan : plan_of new ≡ plan_of old

-- what `take` answers: it fails at a marked call and at a name that is lacking, and else gives how much
-- of `room` the bytes from `at` on can fill
abbrev pub taken : Bool → Option (List ℕ) → ℕ → ℕ → Result ℕ Failed
taken true file at room = Err record {}
taken false None at room = Err record {}
taken false (Some bytes) at room = Ok (min room (length bytes - at))
