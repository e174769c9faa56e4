use Rattle.finding_markers.proofs.pins.append_pins.Goals as goal
use Rattle.shelf_io.proofs.WritesLaws.{writes-both, writes-stopped}
use Rattle.finding_markers.specs.Markers.{boxes_text}
use Rattle.finding_markers.specs.Places.{pin_places}
use Rattle.finding_markers.proofs.BoxLaws.{boxes-both}

pub returns-in_err-append_pin : goal.returns-in_err-append_pin
returns-in_err-append_pin g c =
    let one = pin_places c.args.design.now c.args.layout.now c.args.p in
    let two = pin_places c.args.design.now c.args.layout.now c.args.q in
    rw (boxes-both one two) (writes-stopped c.from_residual.result (boxes_text two) c.from_residual.ensures.0 c.in_err-append_pin.ensures)

pub returns : goal.returns
returns g c =
    let one = pin_places c.args.design.now c.args.layout.now c.args.p in
    let two = pin_places c.args.design.now c.args.layout.now c.args.q in
    rw (boxes-both one two)
    (writes-both c.append_pin-2.result (g.met.K.Sink.place_then _ _ _) (g.met.K.Sink.same_then _ _ _) c.in_ok-append_pin.ensures c.append_pin-2.ensures)
