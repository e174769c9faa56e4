-- the names in the faults of a design
use Rattle.std.specs.Prelude.{ℕ, List, Option, None, option_map, slice_get}
use Rattle.yal_reader.specs.declared.file.Call.{Call}
use Rattle.yal_reader.specs.declared.file.Module.{Module}
use Rattle.yal_reader.specs.declared.file.YalFile.{YalFile}
use Rattle.netlist_core.specs.SignalWords.{parent_calls}
use Rattle.netlist_core.specs.declared.fault.DesignFault.{DesignFault}
use Rattle.netlist_core.specs.declared.fault.DesignFault.TheVariants as faults

-- the name of the instance with this number
abbrev pub instance_name : YalFile → ℕ → Option (List ℕ)
instance_name file i = option_map (λ (call : Call). call.name) (slice_get (parent_calls file) i)

-- the name of the module with this number
abbrev pub module_name : YalFile → ℕ → Option (List ℕ)
module_name file n = option_map (λ (m : Module). m.name) (slice_get file.modules n)

-- the name of the instance or the module that a fault speaks of
unfoldable pub fault_name : YalFile → DesignFault → Option (List ℕ)
fault_name file faults.NoParent = None
fault_name file faults.ManyParents = None
fault_name file (faults.UnknownModule i) = instance_name file i
fault_name file (faults.NotStandard i) = instance_name file i
fault_name file (faults.SignalCount i) = instance_name file i
fault_name file (faults.NoShape n) = module_name file n
fault_name file (faults.OffGrid n) = module_name file n
fault_name file (faults.TooLow n) = module_name file n
fault_name file (faults.PinClash n) = module_name file n
fault_name file (faults.WrongLayer n) = module_name file n
fault_name file (faults.Limit count n) = None
fault_name file faults.Memory = None
