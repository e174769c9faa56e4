use Rattle.std.proofs.Common.{◌≡◌, ◌++◌, ◌-◌, ◌≤◌, length, drop}
use Rattle.close_rects.specs.Kins.{is_later, numbers_of}
use Rattle.close_rects.proofs.crowding.places_after.Given as goal

abbrev pub invariant-loop-found : goal.invariant-loop-found
invariant-loop-found l = record {
  within : l.at ≤ length l.crowd.items;
  rest : l.places.items ++ numbers_of (is_later l.crowd.members l.row l.member) (drop l.at l.crowd.items)
      ≡ numbers_of (is_later l.crowd.members l.row l.member) l.crowd.items;
}

abbrev pub decreases-loop-found : goal.decreases-loop-found
decreases-loop-found l = length l.crowd.items - l.at
