use Rattle.std.proofs.Common.{◌≡◌, ℕ, length, slice_get}
use Rattle.std.specs.Option.{option_map}
use Rattle.row_board.specs.PinPlaces.{puts}
use Rattle.row_board.specs.declared.net_pins.InstancePin.{InstancePin}
use Rattle.row_board.proofs.pin_places.put_rows.Given as goal

abbrev pub invariant-loop-pin : goal.invariant-loop-pin
invariant-loop-pin l = record {
  most : l.rows.most ≡ l.fn.rows.most;
  lists : (net : ℕ) → option_map (puts (λ (p : InstancePin). l.row) l.rest net) (slice_get l.rows.lists net)
      ≡ option_map (puts (λ (p : InstancePin). l.row) l.fn.pins net) (slice_get l.fn.rows.lists net);
}

abbrev pub decreases-loop-pin : goal.decreases-loop-pin
decreases-loop-pin l = length l.rest
