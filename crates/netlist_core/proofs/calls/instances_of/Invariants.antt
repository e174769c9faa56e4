use Rattle.std.proofs.Common.{◌≡◌, ◌++◌, map, drop}
use Rattle.netlist_core.specs.OnGrid.{inst_in}
use Rattle.netlist_core.proofs.calls.instances_of.Given as goal

abbrev pub invariant-loop-call : goal.invariant-loop-call
invariant-loop-call l =
    l.instances.items ++ map (inst_in (l.names)) (drop l.call-index l.calls) ≡ map (inst_in (l.names)) l.calls
