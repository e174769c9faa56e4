use Rattle.finding_markers.proofs.places.append_place.Goals as goal
use Rattle.shelf_io.proofs.WroteLaws.{writes-none}

pub returns-in-None : goal.returns-in-None
returns-in-None g c =
    rw c.in-None.is (writes-none _ c.args.buffer.now (g.K.Sink.written c.args.out.now) (g.K.Sink.faults c.args.out.now) {S = g.K.Sink.else_same c.args.out.now c.args.out.now}
    (g.met.K.Sink.place_here c.args.out.now) (g.met.K.Sink.same_here c.args.out.now))
