use Rattle.std.proofs.Common.{◌≡◌, fold, drop}
use Rattle.list_facts.specs.Names.{mention}
use Rattle.list_facts.specs.Texts.{texts}
use Rattle.netlist_core.specs.Cells.{line_names, power_lines, power_names}
use Rattle.port_rows.proofs.names.power_names.Given as goal

abbrev pub invariant-loop-line : goal.invariant-loop-line
invariant-loop-line l = fold mention (texts l.names.keys) (line_names (power_lines (drop l.line-index l.lines))) ≡ power_names l.lines
