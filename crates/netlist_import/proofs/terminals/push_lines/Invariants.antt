use Rattle.std.proofs.Common.{◌≡◌, ◌++◌, drop, map}
use Rattle.netlist_import.specs.Parent.{line_of}
use Rattle.netlist_import.proofs.terminals.push_lines.Given as goal

abbrev pub invariant-loop-terminal : goal.invariant-loop-terminal
invariant-loop-terminal l = l.lines.items ++ map (line_of l.flow) (drop l.terminal-index l.terminals) ≡ l.fn.lines.items ++ map (line_of l.flow) l.terminals
