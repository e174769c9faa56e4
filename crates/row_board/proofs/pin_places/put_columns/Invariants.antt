use Rattle.std.proofs.Common.{◌≡◌, ℕ, length, slice_get}
use Rattle.std.specs.Option.{option_map}
use Rattle.row_board.specs.PinPlaces.{instance_column, puts}
use Rattle.row_board.proofs.pin_places.put_columns.Given as goal

abbrev pub invariant-loop-pin : goal.invariant-loop-pin
invariant-loop-pin l = record {
  most : l.columns.most ≡ l.fn.columns.most;
  lists : (net : ℕ) → option_map (puts (instance_column l.standing) l.rest net) (slice_get l.columns.lists net)
      ≡ option_map (puts (instance_column l.standing) l.fn.pins net) (slice_get l.fn.columns.lists net);
}

abbrev pub decreases-loop-pin : goal.decreases-loop-pin
decreases-loop-pin l = length l.rest
