use Rattle.std.proofs.Common.{ℕ, ◌+◌, ◌*◌, ap, ap₂, ◌∙◌, map, sum}
use Rattle.row_board.specs.Cost.{spread}
use Rattle.row_board.specs.NetCosts.{table_costs, Tabled}
use Rattle.row_board.specs.Spreads.{NumberLists}
use Rattle.row_board.specs.Weights.{Weighing}
use Rattle.row_board.proofs.PinPlaceLaws.{costs-sum}
use Rattle.row_board.proofs.net_costs.NetCosts.sum.Goals as goal

pub returns-clause-is : goal.returns-clause-is
returns-clause-is c =
    let i = c.self.inside in
    ap₂ (λ (m n : ℕ). m + n) (c.sum.ensures.is ∙ ap (λ (v : NumberLists). sum (map spread v.lists)) c.self.invariant.columns)
    (ap₂ (λ (m n : ℕ). m * n) (ap (λ (w : Weighing). w.row_cost) c.weights.view_is)
    (c.sum-2.ensures.is ∙ ap (λ (v : NumberLists). sum (map spread v.lists)) c.self.invariant.rows))
    ∙ costs-sum i.nets i.weights i.standings.items ∙ ap (λ (v : Tabled). sum (table_costs v.design v.weights v.standings)) c.self.view_is
