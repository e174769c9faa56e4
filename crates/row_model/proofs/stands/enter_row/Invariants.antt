use Rattle.std.proofs.Common.{◌≡◌, ℕ, ◌+◌, ◌*◌, ◌≤◌, Option, length, slice_get}
use Rattle.std.specs.Option.{option_map}
use Rattle.row_model.specs.Stand.{Stand}
use Rattle.row_model.specs.Stands.{or_else, stand_in}
use Rattle.row_model.proofs.stands.enter_row.Given as goal

abbrev pub invariant-loop-seat : goal.invariant-loop-seat
invariant-loop-seat l = record {
  fits : l.left + 100000000 * length l.rest ≤ 2000000000000;
  each : (i : ℕ) → option_map (λ (s : Option Stand). or_else s (stand_in l.design l.row l.left l.rest i)) (slice_get l.stands i)
      ≡ option_map (λ (s : Option Stand). or_else s (stand_in l.design l.row 0 l.fn.seats i)) (slice_get l.initial.stands i);
}

abbrev pub decreases-loop-seat : goal.decreases-loop-seat
decreases-loop-seat l = length l.rest
