use Rattle.plain_router.specs.Plain.{bottom_across, bottom_via}
use Rattle.plain_router.proofs.PinLaws.{for_pins-push}
use Rattle.plain_router.proofs.router.wire_bottom_pins.Goals as goal

pub loop-column-preserved : goal.loop-column-preserved
loop-column-preserved c = record {
  segments = rw (c.in_ok-push.ensures.items, c.loop-column.invariant.segments, c.place_of.ensures.place)
      (for_pins-push (bottom_across c.args.nets.now) c.args.side.now c.loop-column.column c.args.segments.now.items c.if-net-eq0.false);
  vias = rw (c.in_ok-push-2.ensures.items, c.loop-column.invariant.vias, c.place_of.ensures.place)
      (for_pins-push (bottom_via c.args.nets.now) c.args.side.now c.loop-column.column c.args.vias.now.items c.if-net-eq0.false);
}
