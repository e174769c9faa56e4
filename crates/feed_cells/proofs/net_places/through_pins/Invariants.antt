use Rattle.std.proofs.Common.{◌≡◌, ◌≤◌, ◌-◌, map, max}
use Rattle.std.specs.List.{range_with_len}
use Rattle.feed_cells.specs.Placement.{first_through}
use Rattle.feed_cells.proofs.net_places.through_pins.Given as goal

abbrev pub invariant-loop-row : goal.invariant-loop-row
invariant-loop-row l = record {
  until : l.row ≤ max l.lo l.hi;
  made : l.through.items ≡ map (first_through l.pins) (range_with_len l.lo (l.row - l.lo));
}
