use Rattle.std.proofs.Common.{◌≡◌, ◌++◌, drop}
use Rattle.list_facts.specs.Texts.{texts}
use Rattle.port_rows.specs.PortNames.{lent_lines}
use Rattle.port_rows.specs.Ports.{ports_among}
use Rattle.port_rows.proofs.names.side_ports.Given as goal

abbrev pub invariant-loop-line : goal.invariant-loop-line
invariant-loop-line l =
    texts l.names.items ++ ports_among (texts l.power.keys) l.out (lent_lines (drop l.line-index l.firsts))
    ≡ ports_among (texts l.power.keys) l.out (lent_lines l.firsts)
