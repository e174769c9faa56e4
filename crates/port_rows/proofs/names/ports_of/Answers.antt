use Rattle.std.proofs.Common.{ap}
use Rattle.port_rows.specs.PortNames.{lent_lines}
use Rattle.port_rows.proofs.NameLaws.{found-ports}
use Rattle.port_rows.proofs.names.ports_of.Goals as goal

pub invariant_of-result : goal.invariant_of-result
invariant_of-result c =
    found-ports c.args.file.now c.requires.file c.requires.few c.parent_lines-lines.result.now _ _ _ _ _ _ c.parent_lines-lines.ensures c.in_ok-power.ensures
    c.in_ok-firsts.ensures (ap lent_lines c.as_slice.ensures.value) (ap lent_lines c.as_slice-2.ensures.value) c.in_ok-south.ensures c.in_ok-north.ensures
