use Rattle.std.proofs.Common.{List, ap, ◌∙◌, subst}
use Rattle.row_model.specs.Changes.{swapped}
use Rattle.row_model.specs.Rows.{AreRows}
use Rattle.row_board.specs.WeighedRows.{WeighedRows}
use Rattle.row_model.specs.declared.rows.Seat.{Seat}
use Rattle.row_model.proofs.PlacedLaws.{placed-distinct}
use Rattle.row_model.proofs.TwiceLaws.{swap-twice}
use Rattle.row_board.proofs.spans.Spans.swap_within.Goals as goal

pub returns-clause-left : goal.returns-clause-left
returns-clause-left c =
    let different : AreRows c.args.self.now.rows = subst (λ (v : WeighedRows). AreRows v.rows) c.self.view_is (placed-distinct c.self.inside.costs.design c.self.inside.rows c.self.invariant.board.seated.placed) in
    c.swap-2.ensures ∙ ap (λ (v : WeighedRows). record { design = v.design; rows = swapped c.args.a c.args.b v.rows; weights = v.weights }) c.swap.ensures
    ∙ ap (λ (v : WeighedRows). record { design = v.design; rows = swapped c.args.a c.args.b (swapped c.args.a c.args.b v.rows); weights = v.weights }) c.is_too_dear.ensures.left
    ∙ ap (λ (l : List (List Seat)). record { design = c.args.self.now.design; rows = l; weights = c.args.self.now.weights }) (swap-twice c.args.self.now.rows c.args.a c.args.b different)
