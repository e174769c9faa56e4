-- what a fault of commands tells
use Rattle.std.specs.Prelude.{ℕ, Option, Some, None}
use Rattle.cif_reader.specs.declared.fault.ExpandFault.{ExpandFault}
use Rattle.cif_reader.specs.declared.fault.ExpandFault.TheVariants.{Bad, Memory}
use Rattle.cif_reader.specs.declared.fault.ExpandKind.{ExpandKind}
use Rattle.cif_reader.specs.declared.refusal.ExpandStop.{ExpandStop}
use Rattle.cif_reader.specs.declared.refusal.ExpandStop.TheVariants as refusals

-- what a fault tells, and nothing for want of memory
abbrev pub told_of : ExpandFault → Option (ExpandKind × ℕ)
told_of (Bad kind at) = Some (kind, at)
told_of Memory = None

-- the fault of a command of this number
abbrev pub fault_of : ExpandStop → ℕ → ExpandFault
fault_of (refusals.Because kind) at = Bad kind at
fault_of refusals.Memory at = Memory
