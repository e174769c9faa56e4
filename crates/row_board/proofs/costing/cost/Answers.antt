use Rattle.std.proofs.Common.{◌+◌, ◌*◌, sum, ap, ◌∙◌, rules, subst}
use Rattle.design_model.specs.Netlist.{IsNetlist}
use Rattle.row_board.specs.Board.{lengths_of, AreSeated}
use Rattle.row_board.specs.NetCosts.{table_costs, Tabled}
use Rattle.row_board.specs.RowLengthsView.{misses_of}
use Rattle.row_model.specs.Placed.{Placing}
use Rattle.row_board.proofs.TotalLaws.{cost-told}
use Rattle.row_board.proofs.costing.cost.Goals as goal

pub returns : goal.returns
returns c =
    let good : IsNetlist c.args.design.now = search rules in
    c.total_of.ensures.is ∙ ap (λ (t : Tabled). sum (table_costs t.design t.weights t.standings) + t.weights.length_cost * sum (misses_of c.in_ok-lengths.lengths)) c.in_ok-costs.ensures
    ∙ cost-told c.args.design.now c.args.rows.now c.args.weights c.in_ok-standings.standings.items c.in_ok-lengths.lengths good
    (record {
      seated = subst (λ (p : Placing). AreSeated p.design p.rows c.in_ok-standings.standings.items) c.new-placed.ensures c.in_ok-standings.ensures;
      are_lengths = c.in_ok-lengths.ensures ∙ ap (λ (p : Placing). lengths_of p.design p.rows) c.new-placed.ensures;
    })
