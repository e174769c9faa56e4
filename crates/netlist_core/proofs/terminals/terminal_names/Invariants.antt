use Rattle.std.proofs.Common.{◌≡◌, drop, fold}
use Rattle.list_facts.specs.Names.{mention}
use Rattle.list_facts.specs.Texts.{texts}
use Rattle.netlist_core.specs.Cells.{line_names, terminal_names}
use Rattle.netlist_core.proofs.terminals.terminal_names.Given as goal

abbrev pub invariant-loop-line : goal.invariant-loop-line
invariant-loop-line l = fold mention (texts l.names.keys) (line_names (drop l.line-index l.lines)) ≡ terminal_names l.lines
