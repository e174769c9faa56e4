use Rattle.std.proofs.Common.{◌≡◌, ◌++◌, drop, map}
use Rattle.std.specs.List.{enumerate_from}
use Rattle.netlist_import.specs.Parent.{instance_of, instances_of}
use Rattle.netlist_import.proofs.names.instances_of.Given as goal

abbrev pub invariant-loop-number : goal.invariant-loop-number
invariant-loop-number l = l.found.items ++ map instance_of (enumerate_from l.number (drop l.number l.gates)) ≡ instances_of l.gates
