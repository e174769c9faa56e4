use Rattle.std.proofs.Common.{ap, ◌∙◌}
use Rattle.netlist_import.specs.Constants.{pins_drive}
use Rattle.netlist_import.specs.Nets.{all_seen}
use Rattle.netlist_import.proofs.constants.does_gate_drive.Goals as goal

pub returns-in-Some : goal.returns-in-Some
returns-in-Some c =
    let driven = rw (c.items-in-Some.ensures, c.items-in-Some-2.ensures) at c.do_pins_drive.ensures in
    let cell = rw c.items.ensures at c.in-Some.ensures in
    driven ∙ ap (pins_drive (all_seen c.args.renamings.now) c.args.net.now c.args.gate.now.pins) cell
