-- numbers and file lengths above a limit, and their refusal
use Rattle.std.specs.Prelude.{ℕ, List, length, nat_lt, if◌then◌else◌, Option, Some, None, Result, Ok, Err}
use Rattle.command_ends.specs.declared.refusal.Limited.{Limited}
use Rattle.command_ends.specs.declared.refusal.Refusal.{Refusal}
use Rattle.command_ends.specs.declared.refusal.Refusal.TheVariants.{Limit}

-- the refusal of more than so many
abbrev pub above : Limited → ℕ → ℕ → Option Refusal
above what most n = if nat_lt most n then Some (Limit what n) else None

-- a file's contents, which have at most so many bytes
unfoldable pub within_limit : Limited → ℕ → List ℕ → Result (List ℕ) Refusal
within_limit what most bytes = if nat_lt most (length bytes) then Err (Limit what most) else Ok bytes
