use Rattle.std.proofs.Common.{◌≡◌, ap, sym, ◌∙◌, arith, length}
use Rattle.design_model.specs.Netlist.{Netlist}
use Rattle.row_board.proofs.FlatLaws.{first-length, instances-first, order-first, pins-first}
use Rattle.row_board.proofs.nets.flat_tables.Goals as goal

pub returns : goal.returns
returns c =
    let d = c.args.design.now in
    let nets : length d.nets ≡ length c.items.result.now = sym (ap length c.items.ensures ∙ ap (λ (d : Netlist). length d.nets) c.design.view_is) in
    let instances : length d.instances ≡ length c.items-2.result.now = sym (ap length c.items-2.ensures ∙ ap (λ (d : Netlist). length d.instances) c.design.view_is) in
    record {
      by_net = pins-first d c.in_ok-by_net.by_net c.in_ok-nets.nets _ c.in_ok-nets.ensures (omega (arith, nets)) c.in_ok-by_net.ensures.by_net;
      by_instance = instances-first d c.in_ok-by_net.by_instance c.in_ok-instances.instances _ c.in_ok-instances.ensures instances c.in_ok-by_net.ensures.by_instance;
      in_order = order-first d c.in_ok-by_net.by_instance c.in_ok-instances.instances _ c.in_ok-instances.ensures instances c.in_ok-by_net.ensures.in_order;
      long = ap length c.in_ok-instances.ensures ∙ first-length c.in_ok-by_net.by_instance _ ∙ sym instances;
    }
