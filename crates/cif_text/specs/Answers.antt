-- what a program that reads answers
use Rattle.std.specs.Prelude.{if◌then◌else◌, ◌&&◌, ◌==◌, ◌+◌, ◌≤◌, codes, ℕ, zero, suc, ℤ, pos, negsuc, Bool, true, false, List, [], length, Option, Some, None, Result, Err}
use Rattle.std.specs.Str.{byte, bytes_eq}
use Rattle.cif_text.specs.declared.command.CifCommand.{CifCommand}
use Rattle.cif_text.specs.declared.fault.CifKind.{CifKind}
use Rattle.cif_text.specs.declared.fault.CifFault.{CifFault}
use Rattle.cif_text.specs.declared.fault.CifFault.TheVariants.{Bad, Memory}
use Rattle.cif_text.specs.declared.misfit.Misfit.{Misfit}
use Rattle.cif_text.specs.declared.misfit.Misfit.TheVariants.{TooGreat}
use Rattle.cif_text.specs.CifReads.{commands_at}
use Rattle.cif_text.specs.Flaws.{Flaw}
use Rattle.cif_text.specs.declared.command.UserKind.{UserKind}
use Rattle.cif_text.specs.declared.command.UserKind.TheVariants as users
use Rattle.cif_text.specs.Forms.{Axis, along_x, along_y}

-- a number that is too great begins so many bytes before a semicolon that with those behind it they are at most `left`
abbrev pub HasPlaceWithin : ℕ → ℕ → Result (Result CifCommand CifKind) Misfit → Type 0
HasPlaceWithin left behind (Err (TooGreat before)) = before + 1 + behind ≤ left
HasPlaceWithin left behind _ = Unit {0}

-- whether an axis is that of y
abbrev pub upright_of : Option Axis → Option Bool
upright_of (Some along_x) = Some false
upright_of (Some along_y) = Some true
upright_of None = None

-- quarter turns to the positive side of an axis, and two more to its negative side
abbrev pub quarters_along : ℤ → ℕ → Option ℕ
quarters_along (pos zero) quarters = None
quarters_along (pos (suc n)) quarters = Some quarters
quarters_along (negsuc n) quarters = Some (quarters + 2)

-- what a user command is for
abbrev pub user_kind_of : ℕ → List ℕ → UserKind
user_kind_of first digits =
    if first == byte "9" && bytes_eq digits [] then users.SymbolName else
    if first == byte "9" && bytes_eq digits (codes "1") then users.InstanceName else
    if first == byte "9" && bytes_eq digits (codes "4") then users.Label else users.Other

-- the commands of a text that begins inside a definition or outside
abbrev pub commands_of : Bool → List ℕ → Result (List CifCommand) Flaw
commands_of inside bytes = commands_at (suc (length bytes)) inside bytes

-- what a fault tells, and nothing for want of memory
abbrev pub told_of : CifFault → Option (CifKind × ℕ)
told_of (Bad kind at) = Some (kind, at)
told_of Memory = None
