use Rattle.std.proofs.Common.{◌≤◌, ap, sym, ◌∙◌, arith, length, subst}
use Rattle.design_model.specs.Netlist.{Netlist}
use Rattle.list_facts.specs.Lists.{list_there}
use Rattle.row_board.proofs.PinTableLaws.{net-short}
use Rattle.row_board.proofs.nets.Nets.pins.Goals as goal

pub returns-clause-few : goal.returns-clause-few
returns-clause-few c = λ few.
    let d = c.self.inside.design.now in
    omega (
      arith,
      net-short d c.args.net c.self.invariant.good,
      ap length (c.at.ensures ∙ ap list_there (c.self.invariant.by_net.each c.args.net (subst (λ (v : Netlist). c.args.net ≤ length v.nets) (sym c.self.view_is) few))),
    )
