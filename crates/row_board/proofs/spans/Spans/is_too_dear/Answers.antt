use Rattle.std.proofs.Common.{◌<◌, ◌+◌, List, ap, sym, ◌∙◌, subst, arith}
use Rattle.std.specs.Bool.{OnTrue}
use Rattle.row_board.specs.Board.{IsBoard}
use Rattle.row_board.specs.Cost.{cost_of}
use Rattle.row_board.specs.WeighedRows.{WeighedRows}
use Rattle.row_model.specs.Changes.{swapped}
use Rattle.row_model.specs.declared.rows.Seat.{Seat}
use Rattle.row_model.proofs.SwapLaws.{swap-placed}
use Rattle.row_board.proofs.BoundLaws.{cost-few}
use Rattle.row_board.proofs.TotalLaws.{cost-told}
use Rattle.std_laws.proofs.Options.{on-true}
use Rattle.row_board.proofs.spans.Spans.is_too_dear.Goals as goal

pub returns-clause-dear : goal.returns-clause-dear
returns-clause-dear c =
    let i = c.self.inside in
    let d = i.costs.design in
    let w = i.costs.weights in
    let before = c.total_of.ensures.is ∙ cost-told d i.rows w i.costs.standings i.lengths c.self.invariant.good c.self.invariant.board in
    let few = cost-few d (swapped c.args.a c.args.b i.rows) w c.self.invariant.good (swap-placed d i.rows c.args.a c.args.b c.self.invariant.board.seated.placed) c.self.invariant.few in
    subst (λ (v : WeighedRows). OnTrue c.is_dear.result (cost_of v.design v.rows v.weights + c.args.most < cost_of v.design (swapped c.args.a c.args.b v.rows) v.weights)) c.self.view_is
    (on-true c.is_dear.result (c.saturating_add-limit.result < cost_of d (swapped c.args.a c.args.b c.items.result.now) w) (cost_of d i.rows w + c.args.most < cost_of d (swapped c.args.a c.args.b i.rows) w)
    (λ dear. omega (
      arith,
      dear,
      before,
      few,
      c.saturating_add-limit.ensures,
      ap (λ (rows : List (List Seat)). cost_of d (swapped c.args.a c.args.b rows) w) (c.items.ensures ∙ c.rows.view_is),
    )) c.is_dear.ensures.dear)

pub is_dear-requires-clause-board : goal.is_dear-requires-clause-board
is_dear-requires-clause-board c =
    let i = c.self.inside in
    subst (λ (rows : List (List Seat)). IsBoard i.costs.design rows i.costs.standings i.lengths) (sym (c.items.ensures ∙ c.rows.view_is)) c.self.invariant.board
