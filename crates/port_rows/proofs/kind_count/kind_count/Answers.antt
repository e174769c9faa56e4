use Rattle.std.proofs.Common.{◌≡◌, length, arith, ap, ◌∙◌, subst}
use Rattle.design_model.specs.Netlist.{IsNetlist, Netlist}
use Rattle.port_rows.proofs.KindsFew.{few-kinds}
use Rattle.port_rows.proofs.kind_count.kind_count.Goals as goal

pub returns-clause-few : goal.returns-clause-few
returns-clause-few c =
    let same : length c.items.result.now ≡ length c.args.design.now.kinds = ap length (c.items.ensures ∙ ap (λ (d : Netlist). d.kinds) c.design.view_is) in
    let few = few-kinds c.args.design.now (subst IsNetlist c.design.view_is c.design.invariant.netlist) in
    omega arith
