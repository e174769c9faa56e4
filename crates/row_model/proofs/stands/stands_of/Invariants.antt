use Rattle.std.proofs.Common.{◌≡◌, ℕ, ◌+◌, ◌≤◌, ◌<◌, Option, Some, length, slice_get}
use Rattle.std.specs.Option.{option_map}
use Rattle.row_model.specs.Stand.{Stand}
use Rattle.row_model.specs.Stands.{or_else, stand_from, stand_of}
use Rattle.row_model.specs.NearStands.{AreShort}
use Rattle.row_model.proofs.stands.stands_of.Given as goal

abbrev pub invariant-loop-seats : goal.invariant-loop-seats
invariant-loop-seats l = record {
  few : l.row + length l.rest ≤ 514;
  short : AreShort l.rest;
  each : (i : ℕ) → i < length l.placed.design.instances
      → option_map (λ (s : Option Stand). or_else s (stand_from l.design l.row l.rest i)) (slice_get l.stands.items i) ≡ Some (stand_of l.placed.design l.placed.rows i);
}

abbrev pub decreases-loop-seats : goal.decreases-loop-seats
decreases-loop-seats l = length l.rest
