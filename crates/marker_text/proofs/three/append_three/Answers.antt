use Rattle.marker_text.proofs.three.append_three.Goals as goal
use Rattle.std.proofs.Common.{◌++◌}
use Rattle.shelf_io.proofs.WritesLaws.{writes-both, writes-stopped}

pub returns-in_err-append : goal.returns-in_err-append
returns-in_err-append g c =
    writes-stopped c.from_residual.result (c.args.second.now ++ c.args.third.now) c.from_residual.ensures.0 c.in_err-append.ensures

pub returns-in_err-append-2 : goal.returns-in_err-append-2
returns-in_err-append-2 g c =
    let result = c.from_residual-in_err-append-2.result in
    writes-both result (g.met.K.Sink.place_then _ _ _) (g.met.K.Sink.same_then _ _ _) c.in_ok-append.ensures
    (writes-stopped result c.args.third.now c.from_residual-in_err-append-2.ensures.0 c.in_err-append-2.ensures)

pub returns : goal.returns
returns g c =
    writes-both c.append-3.result (g.met.K.Sink.place_then _ _ _) (g.met.K.Sink.same_then _ _ _) c.in_ok-append.ensures
    (writes-both c.append-3.result (g.met.K.Sink.place_then _ _ _) (g.met.K.Sink.same_then _ _ _) c.in_ok-append-2.ensures c.append-3.ensures)
