use Rattle.row_model.specs.Changes.{exchanged}
use Rattle.row_model.proofs.ChangeLaws.{seat-more}
use Rattle.row_model.proofs.changes.exchange_in.Goals as goal

pub loop-seat-preserved : goal.loop-seat-preserved
loop-seat-preserved c =
    seat-more (exchanged c.args.a c.args.b) c.args.seats.now c.loop-seat.seats c.loop-seat.seat-index _ c.exchanged.result c.loop-seat-test.true c.loop-seat.auto.seats c.loop-seat.invariant
    c.exchanged.ensures
