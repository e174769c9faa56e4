-- the shelf that never fails
use Rattle.std.specs.Prelude.{◌-◌, ℕ, List, length, min, Option, Some, None}
use Rattle.shelf_io.specs.Files as files
use Rattle.shelf_io.specs.declared.never.NeverShelf.{NeverShelf}

-- what a name was set to, if nothing was begun or put there since
abbrev pub held : NeverShelf → List ℕ → Option (List ℕ)
held shelf name = files.held shelf.files name

-- how many bytes a take gives: none of a name that is untold, and else what the bytes from `at` on can fill
abbrev pub taken_count : Option (List ℕ) → ℕ → ℕ → ℕ
taken_count None at room = 0
taken_count (Some bytes) at room = min room (length bytes - at)
