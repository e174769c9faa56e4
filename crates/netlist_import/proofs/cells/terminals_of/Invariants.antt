use Rattle.std.proofs.Common.{◌≡◌, drop, fold, map}
use Rattle.list_facts.specs.Names.{mention}
use Rattle.netlist_import.specs.Cells.{terminal_names}
use Rattle.yal_reader.specs.declared.file.Line.{Line}
use Rattle.netlist_import.proofs.cells.terminals_of.Given as goal

abbrev pub invariant-loop-line : goal.invariant-loop-line
invariant-loop-line l = fold mention l.names.items (map (λ (x : Line). x.name) (drop l.line-index l.lines)) ≡ terminal_names l.lines
