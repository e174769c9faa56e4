use Rattle.std.proofs.Common.{◌≡◌, length, filter}
use Rattle.netlist_core.specs.Calls.{is_parent_module}
use Rattle.netlist_core.specs.SignalWords.{first_calls, parent_calls}
use Rattle.command_inputs.proofs.fault_name.parent_calls.Given as goal

-- the first PARENT is among the modules that are left
abbrev pub invariant-loop-module : goal.invariant-loop-module
invariant-loop-module l = first_calls (filter is_parent_module l.rest) ≡ parent_calls l.fn.file

abbrev pub decreases-loop-module : goal.decreases-loop-module
decreases-loop-module l = length l.rest
