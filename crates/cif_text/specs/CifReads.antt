-- the reading of a whole text
use Rattle.std.specs.Prelude.{if◌then◌else◌, ℕ, zero, suc, List, [], ◌∷◌, length, Bool, true, false, Result, Ok, Err}
use Rattle.std.specs.List.{list_all}
use Rattle.cif_text.specs.declared.command.CifCommand.{CifCommand}
use Rattle.cif_text.specs.declared.command.CifCommand.TheVariants as commands
use Rattle.cif_text.specs.declared.fault.CifKind.{CifKind}
use Rattle.cif_text.specs.declared.fault.CifKind.TheVariants as kinds
use Rattle.cif_text.specs.Bytes.{is_ascii_byte, is_between, span, skip}
use Rattle.read_base.specs.Placed.{placed}
use Rattle.read_base.specs.Steps.{◌>>=◌}
use Rattle.cif_text.specs.Flaws.{Flaw}
use Rattle.cif_text.specs.Commands.{fails, command_at}

abbrev pub is_end : CifCommand → Bool
is_end commands.End = true
is_end _ = false

-- whether a definition is open behind a command
abbrev pub is_open_behind : Bool → CifCommand → Bool
is_open_behind inside (commands.Start n a b) = true
is_open_behind inside commands.Finish = false
is_open_behind inside _ = inside

-- the commands up to the end command, one after another; the number is above that of the bytes
unfoldable pub commands_at : ℕ → Bool → List ℕ → Result (List CifCommand) Flaw
commands_at zero inside bytes = fails kinds.NoEnd 0
commands_at (suc n) inside bytes = do
  first ← command_at inside (skip is_between bytes)
  if is_end first.0 then Ok (first.0 ∷ []) else do
    others ← commands_at n (is_open_behind inside first.0) first.1
    Ok (first.0 ∷ others)

-- what a text reads as: its commands, or a kind of fault and the byte where it stands
unfoldable pub cif_reads : List ℕ → Result (List CifCommand) (CifKind × ℕ)
cif_reads bytes =
    if list_all is_ascii_byte bytes then placed (length bytes) (commands_at (suc (length bytes)) false bytes)
    else Err (kinds.NotAscii, length (span is_ascii_byte bytes).0)
