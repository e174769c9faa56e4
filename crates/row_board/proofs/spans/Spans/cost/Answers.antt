use Rattle.std.proofs.Common.{ap, ◌∙◌, arith}
use Rattle.row_board.specs.Cost.{cost_of}
use Rattle.row_board.specs.WeighedRows.{WeighedRows}
use Rattle.row_board.proofs.BoundLaws.{cost-few}
use Rattle.row_board.proofs.TotalLaws.{cost-told}
use Rattle.row_board.proofs.spans.Spans.cost.Goals as goal

pub returns : goal.returns
returns c =
    let i = c.self.inside in
    let is = c.total_of.ensures.is ∙ cost-told i.costs.design i.rows i.costs.weights i.costs.standings i.lengths c.self.invariant.good c.self.invariant.board in
    record {
      is = is ∙ ap (λ (v : WeighedRows). cost_of v.design v.rows v.weights) c.self.view_is;
      few = omega (arith, is, cost-few i.costs.design i.rows i.costs.weights c.self.invariant.good c.self.invariant.board.seated.placed c.self.invariant.few);
    }
