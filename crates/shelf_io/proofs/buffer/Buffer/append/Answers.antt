use Rattle.shelf_io.proofs.buffer.Buffer.append.Goals as goal
use Rattle.std.proofs.Common.{◌≡◌, ◌++◌, sym, true, arith}
use Rattle.std.proofs.lemmas.Bool.Decides.{nat_tests}
use Rattle.std.proofs.lemmas.List.{nil_from_length, take-append-drop}
use Rattle.shelf_io.proofs.SoFar.{so_far-begun, so_far-done, so_far-failed, so_far-more}

pub loop-rest-init : goal.loop-rest-init
loop-rest-init g c = so_far-begun c.args.bytes.now c.args.self.now _ _ (g.met.K.Sink.place_here c.args.out.now) (g.met.K.Sink.same_here c.args.out.now)

pub returns-in_err-fill : goal.returns-in_err-fill
returns-in_err-fill g c =
    let parts : c.loop-rest.rest.now ≡ c.split_at.result.0.now ++ c.split_at.result.1.now =
    rw (c.split_at.ensures.front, c.split_at.ensures.back) (sym (take-append-drop c.min.result c.loop-rest.rest.now)) in
    so_far-failed c.from_residual.result _ (g.met.K.Sink.place_then _ _ _) (g.met.K.Sink.same_then _ _ _) c.from_residual.ensures.0 c.loop-rest.invariant parts c.in_err-fill.ensures

pub loop-rest-preserved : goal.loop-rest-preserved
loop-rest-preserved g c =
    let parts : c.loop-rest.rest.now ≡ c.split_at.result.0.now ++ c.split_at.result.1.now =
    rw (c.split_at.ensures.front, c.split_at.ensures.back) (sym (take-append-drop c.min.result c.loop-rest.rest.now)) in
    so_far-more (g.met.K.Sink.place_then _ _ _) (g.met.K.Sink.same_then _ _ _ true) c.loop-rest.invariant parts c.in_ok-fill.ensures

pub returns : goal.returns
returns g c = so_far-done _ (nil_from_length c.loop-rest.rest.now (grind (arith, nat_tests))) c.loop-rest.invariant
