use Rattle.layout_picture.proofs.scale.append_scale.Goals as goal
use Rattle.std.proofs.Common.{◌≡◌, ◌∙◌, sym, false, ◌==◌, arith}
use Rattle.std.proofs.lemmas.Bool.Decides.{nat_tests}
use Rattle.shelf_io.proofs.WroteLaws.{writes-none}
use Rattle.layout_picture.specs.Scale.{scale_bar, scale_text}

pub returns-then-bar-eq0 : goal.returns-then-bar-eq0
unfolding scale_text
returns-then-bar-eq0 g c =
    let none : scale_bar c.args.frame.now ≡ 0 = sym c.scale_bar-bar.ensures.is ∙ c.if-bar-eq0.true in
    rw none (writes-none _ c.args.buffer.now (g.K.Sink.written c.args.out.now) (g.K.Sink.faults c.args.out.now) {S = g.K.Sink.else_same c.args.out.now c.args.out.now}
    (g.met.K.Sink.place_here c.args.out.now) (g.met.K.Sink.same_here c.args.out.now))

pub returns : goal.returns
unfolding scale_text
returns g c =
    let some : (c.scale_bar-bar.result == 0) ≡ false = grind (arith, nat_tests) in
    let wide : (scale_bar c.args.frame.now == 0) ≡ false = rw c.scale_bar-bar.ensures.is at some in
    rw wide (rw (c.greater_side.ensures, c.scale_bar-bar.ensures.is) at c.append_bar.ensures)
