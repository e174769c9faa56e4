use Rattle.std.proofs.Common.{◌≡◌, ◌++◌}
use Rattle.plain_router.specs.Plain.{for_pins, bottom_across, bottom_via}
use Rattle.plain_router.proofs.router.wire_bottom_pins.Given as goal

abbrev pub invariant-loop-column : goal.invariant-loop-column
invariant-loop-column l = record {
  segments : l.segments.items ≡ l.fn.segments.items ++ for_pins (bottom_across l.nets) l.side l.column;
  vias : l.vias.items ≡ l.fn.vias.items ++ for_pins (bottom_via l.nets) l.side l.column;
}
