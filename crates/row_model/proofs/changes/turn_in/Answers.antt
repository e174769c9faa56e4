use Rattle.row_model.specs.Changes.{turned}
use Rattle.row_model.proofs.ChangeLaws.{seat-more}
use Rattle.row_model.proofs.changes.turn_in.Goals as goal

pub loop-seat-preserved : goal.loop-seat-preserved
loop-seat-preserved c =
    seat-more (turned c.args.instance) c.args.seats.now c.loop-seat.seats c.loop-seat.seat-index _ c.turned.result c.loop-seat-test.true c.loop-seat.auto.seats c.loop-seat.invariant c.turned.ensures
