use Rattle.std.proofs.Common.{◌≡◌, length, filter}
use Rattle.netlist_core.specs.Calls.{is_parent_module}
use Rattle.port_rows.specs.Ports.{lines_of_first, parent_lines}
use Rattle.port_rows.proofs.parent.parent_lines.Given as goal

abbrev pub invariant-loop-module : goal.invariant-loop-module
invariant-loop-module l = lines_of_first (filter is_parent_module l.rest) ≡ parent_lines l.file

abbrev pub decreases-loop-module : goal.decreases-loop-module
decreases-loop-module l = length l.rest
