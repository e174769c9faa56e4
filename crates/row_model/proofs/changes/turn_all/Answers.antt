use Rattle.std.proofs.Common.{ap, ◌∙◌, map, sym}
use Rattle.row_model.specs.Changes.{turned}
use Rattle.row_model.proofs.ChangeLaws.{row-more}
use Rattle.row_model.proofs.changes.turn_all.Goals as goal

pub loop-row-preserved : goal.loop-row-preserved
loop-row-preserved c =
    row-more (turned c.args.instance) c.args.rows.now c.loop-row.rows c.loop-row.row-index c.row-item.result c.turn_in.new.seats c.loop-row-test.true c.loop-row.invariant
    c.row-item.is (c.turn_in.ensures ∙ ap (map (turned c.args.instance)) c.items_mut.ensures.value ∙ sym (ap (map (turned c.args.instance)) c.row-item.is))
