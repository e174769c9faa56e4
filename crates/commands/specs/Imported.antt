-- a design that comes from a netlist
use Rattle.std.specs.Prelude.{◌≡◌, ◌++◌, ◌∷◌, [], ℕ, List, Result, Ok, Err}
use Rattle.blif_reader.specs.BlifReads.{blif_reads}
use Rattle.blif_reader.specs.declared.file.BlifFile.{BlifFile}
use Rattle.command_ends.specs.declared.refusal.Refusal.{Refusal}
use Rattle.command_ends.specs.declared.refusal.Refusal.TheVariants.{Import}
use Rattle.netlist_import.specs.Carries.{Carries}
use Rattle.netlist_import.specs.declared.fault.ImportFlaw.{ImportFlaw}
use Rattle.yal_reader.specs.YalReads.{yal_reads}
use Rattle.yal_reader.specs.declared.file.Module.{Module}
use Rattle.yal_reader.specs.declared.file.YalFile.{YalFile}
use Rattle.yal_reader.specs.declared.notation.Numbers.TheVariants.{Decimal}

-- the flaw of a netlist as a refusal
abbrev pub import_said : Result Module ImportFlaw → Result Module Refusal
import_said (Ok parent) = Ok parent
import_said (Err flaw) = Err (Import flaw)

-- a text reads as the modules of cells, as these bytes read, and a PARENT behind them that carries the netlist of other bytes: its calls are the gates in order, and two pins have one signal
-- word exactly where the netlist joins their nets
pub record IsImportOf (decimals : ℕ) (netlist_text cells_text text : List ℕ) : Type 0 where
  pub netlist : BlifFile
  pub netlist_reads : blif_reads netlist_text ≡ Ok netlist
  pub cells : YalFile
  pub cells_read : yal_reads cells_text (Decimal decimals) ≡ Ok cells
  pub parent : Module
  pub reads : yal_reads text (Decimal decimals) ≡ Ok (record { modules = cells.modules ++ parent ∷ [] })
  pub carries : Carries netlist cells.modules parent
