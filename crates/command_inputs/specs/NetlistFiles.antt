-- what the file of a netlist and that of its cells say
use Rattle.std.specs.Prelude.{ℕ, List, Result, Ok, Err}
use Rattle.blif_reader.specs.BlifReads.{blif_reads}
use Rattle.blif_reader.specs.declared.fault.BlifKind.{BlifKind}
use Rattle.blif_reader.specs.declared.file.BlifFile.{BlifFile}
use Rattle.command_ends.specs.Limits.{within_limit}
use Rattle.command_ends.specs.Refusing.{◌>>=◌}
use Rattle.command_ends.specs.declared.refusal.Limited.TheVariants as limits
use Rattle.command_ends.specs.declared.refusal.Refusal.{Refusal}
use Rattle.command_ends.specs.declared.refusal.Refusal.TheVariants.{Blif}
use Rattle.command_inputs.specs.Stated.{yal_said}
use Rattle.limits.specs.declared.TheConstants.{MOST_DESIGN_BYTES}
use Rattle.yal_reader.specs.YalReads.{yal_reads}
use Rattle.yal_reader.specs.declared.file.YalFile.{YalFile}
use Rattle.yal_reader.specs.declared.notation.Numbers.TheVariants.{Decimal}

abbrev pub netlist_said : Result BlifFile (BlifKind × ℕ) → Result BlifFile Refusal
netlist_said (Ok netlist) = Ok netlist
netlist_said (Err bad) = Err (Blif bad.0 bad.1)

-- the netlist that the bytes of a file are
unfoldable pub netlist_verdict : List ℕ → Result BlifFile Refusal
netlist_verdict bytes = do
  whole ← within_limit limits.Blif MOST_DESIGN_BYTES bytes
  netlist_said (blif_reads whole)

-- the modules of cells that a text states, whose numbers have so many decimals
abbrev pub stated_cells : ℕ → List ℕ → Result YalFile Refusal
stated_cells decimals bytes = yal_said (yal_reads bytes (Decimal decimals))

-- those that the bytes of a file state
unfoldable pub cells_verdict : ℕ → List ℕ → Result YalFile Refusal
cells_verdict decimals bytes = do
  whole ← within_limit limits.Cells MOST_DESIGN_BYTES bytes
  stated_cells decimals whole
