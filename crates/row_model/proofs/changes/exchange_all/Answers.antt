use Rattle.std.proofs.Common.{ap, ◌∙◌, map, sym}
use Rattle.row_model.specs.Changes.{exchanged}
use Rattle.row_model.proofs.ChangeLaws.{row-more}
use Rattle.row_model.proofs.changes.exchange_all.Goals as goal

pub loop-row-preserved : goal.loop-row-preserved
loop-row-preserved c =
    row-more (exchanged c.args.a c.args.b) c.args.rows.now c.loop-row.rows c.loop-row.row-index c.row-item.result c.exchange_in.new.seats c.loop-row-test.true c.loop-row.invariant
    c.row-item.is (c.exchange_in.ensures ∙ ap (map (exchanged c.args.a c.args.b)) c.items_mut.ensures.value ∙ sym (ap (map (exchanged c.args.a c.args.b)) c.row-item.is))
