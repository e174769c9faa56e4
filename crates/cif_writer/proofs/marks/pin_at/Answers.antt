use Rattle.std.proofs.Common.{subst}
use Rattle.design_model.specs.Netlist.{IsNetlist, Netlist}
use Rattle.cif_writer.proofs.PinLaws.{pin-is}
use Rattle.cif_writer.proofs.marks.pin_at.Goals as goal

pub returns : goal.returns
returns c =
    let good : IsNetlist c.args.design.now = subst (λ (d : Netlist). IsNetlist d) c.design.view_is c.design.invariant.netlist in
    pin-is c.args.design.now good c.args.instance c.args.terminal c.pin.result c.pin.ensures.pin c.pin.ensures.power
