use Rattle.layout_picture.proofs.shapes.append_shown.Goals as goal
use Rattle.std.proofs.Common.{◌≡◌, ◌∙◌, false, sym}
use Rattle.shelf_io.proofs.WroteLaws.{writes-none}
use Rattle.layout_picture.specs.Frame.{do_meet}

pub returns-else-do_meet : goal.returns-else-do_meet
returns-else-do_meet g c =
    let no : do_meet c.args.frame.now c.args.shape.now.rect ≡ false = sym c.do_meet.ensures ∙ c.if-do_meet.false in
    rw no (writes-none _ c.args.buffer.now (g.K.Sink.written c.args.out.now) (g.K.Sink.faults c.args.out.now) {S = g.K.Sink.else_same c.args.out.now c.args.out.now}
    (g.met.K.Sink.place_here c.args.out.now) (g.met.K.Sink.same_here c.args.out.now))
