use Rattle.std.proofs.Common.{◌≡◌, ◌++◌, drop}
use Rattle.list_facts.specs.Texts.{texts}
use Rattle.port_rows.specs.PortNames.{lent_lines}
use Rattle.port_rows.specs.Ports.{first_but, first_lines}
use Rattle.port_rows.proofs.names.first_lines.Given as goal

abbrev pub invariant-loop-line : goal.invariant-loop-line
invariant-loop-line l = lent_lines l.firsts.items ++ first_but (texts l.seen.keys) (drop l.line-index l.lines) ≡ first_lines l.lines
