use Rattle.extract_tests.proofs.matching.cells_match.Goals as goal
use Rattle.std.proofs.lemmas.Result.{IfOk-weaker}
use Rattle.design_model.specs.CellsMatch.{CellsMatch}
use Rattle.extract_tests.specs.InOrder.{AreInOrder}
use Rattle.extract_tests.proofs.OrderedCells.{in-order-match}
use Rattle.std_laws.proofs.Options.{on-true}

pub returns : goal.returns
returns c = IfOk-weaker c.are_in_order.result _ _
    (λ b are. on-true b (AreInOrder c.args.rules.now c.args.design.now c.args.layout.now) (CellsMatch c.args.rules.now c.args.design.now c.args.layout.now)
    (in-order-match c.args.rules.now c.args.design.now c.args.layout.now (rw (← c.design.view_is) c.design.invariant.netlist)) are) c.are_in_order.ensures
