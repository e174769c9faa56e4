-- calls of modules, and what may be wrong with them
use Rattle.std.specs.Prelude.{ℕ, List, [], ◌∷◌, length, Bool, not, ◌==◌, nat_lt, find, if◌then◌else◌, Option, None, Some, Result, Ok, Err}
use Rattle.std.specs.Str.{bytes_eq}
use Rattle.yal_reader.specs.Kept.{is_standard, is_parent}
use Rattle.yal_reader.specs.declared.file.Call.{Call}
use Rattle.yal_reader.specs.declared.file.Module.{Module}
use Rattle.netlist_core.specs.Answers.{first_fault}
use Rattle.netlist_core.specs.Cells.{terminals_of}
use Rattle.design_model.specs.declared.design.Terminal.{Terminal}
use Rattle.netlist_core.specs.declared.fault.Count.{Count}
use Rattle.netlist_core.specs.declared.fault.DesignFault.{DesignFault}
use Rattle.netlist_core.specs.declared.fault.DesignFault.TheVariants as faults

-- the one module of these, which are the PARENTs
abbrev pub only_parent : List Module → Result Module DesignFault
only_parent [] = Err faults.NoParent
only_parent (m ∷ []) = Ok m
only_parent (m ∷ other ∷ ms) = Err faults.ManyParents

-- whether a module is a PARENT
abbrev pub is_parent_module : Module → Bool
is_parent_module m = is_parent m.kind

-- the module with this name
abbrev pub module_named : List Module → List ℕ → Option Module
module_named modules name = find (λ (m : Module). bytes_eq name m.name) modules

-- the terminals of a module, or none where there is no such module
abbrev pub terminals_in : Option Module → List Terminal
terminals_in None = []
terminals_in (Some m) = terminals_of m.lines

-- what is wrong with the call numbered i, which has so many signals and calls this module
abbrev pub fault_in : ℕ → ℕ → Option Module → Option DesignFault
fault_in i signals None = Some (faults.UnknownModule i)
fault_in i signals (Some m) =
    if not (is_standard m.kind) then Some (faults.NotStandard i) else
    if signals == length (terminals_of m.lines) then None else Some (faults.SignalCount i)

unfoldable pub call_fault : List Module → ℕ → Call → Option DesignFault
call_fault modules i call = fault_in i (length call.signals) (module_named modules call.«module»)

-- the first thing that is wrong with calls
unfoldable pub calls_fault : List Module → List Call → Option DesignFault
calls_fault modules calls = first_fault (call_fault modules) 0 calls

-- the fault of more than so many
abbrev pub over : Count → ℕ → ℕ → Option DesignFault
over count most n = if nat_lt most n then Some (faults.Limit count n) else None
