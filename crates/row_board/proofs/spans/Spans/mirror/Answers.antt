use Rattle.row_board.proofs.spans.Spans.mirror.Goals as goal
use Rattle.std.proofs.Common.{length, ap, sym, ◌∙◌, subst}
use Rattle.row_model.specs.Changes.{mirrored}
use Rattle.row_model.specs.Rows.{AreRows}
use Rattle.row_model.proofs.PlacedLaws.{placed-distinct}
use Rattle.row_board.proofs.BoardLaws.{lengths-mirrored}
use Rattle.row_board.proofs.ReachLaws.{all-entered}
use Rattle.row_board.proofs.SpansLaws.{spans-kept}
use Rattle.std_laws.proofs.Slices.{overwritten-same}

pub invariant_of-rows : goal.invariant_of-rows
invariant_of-rows c =
    subst AreRows (sym (overwritten-same c.turn_seat-reach.new.rows _ (c.turn_seat-reach.auto.rows ∙ ap length c.items_mut-seats.ensures.value)))
    (placed-distinct _ _ c.turn_seat-reach.ensures.placed)

pub invariant_of-self : goal.invariant_of-self
invariant_of-self c =
    let i = c.self.inside in
    let d = i.costs.design in
    let board = c.self.invariant.board in
    let rows = c.turn_seat-reach.new.rows in
    let turned = c.turn_seat-reach.ensures in
    let reach = c.turn_seat-reach.result in
    let entered = c.enter_reach.ensures in
    let new = c.enter_reach.new.costs in
    spans-kept i c.self.invariant rows _ (overwritten-same rows _ (c.turn_seat-reach.auto.rows ∙ ap length c.items_mut-seats.ensures.value)) new entered.rest i.lengths
    (record {
      seated = record {
        placed = turned.placed;
        count = entered.count ∙ board.seated.count;
        entered = all-entered d rows i.costs.standings new.standings new.standings reach reach turned.unmoved entered.entered entered.kept entered.entered (λ r k was. was);
      };
      are_lengths = board.are_lengths ∙ lengths-mirrored d c.args.a i.rows rows (turned.mirrored ∙ ap (mirrored c.args.a) (c.items_mut-seats.ensures.value ∙ c.rows.view_is));
    })
