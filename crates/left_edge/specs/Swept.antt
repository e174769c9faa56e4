-- the sweep that gives the tracks
use Rattle.std.specs.Prelude.{◌≡◌, ◌<◌, ◌&&◌, ℕ, length, nat_lt, slice_index}
use Rattle.std.specs.BTreeSet.{contains}
use Rattle.std.specs.Ordering.{nat_cmp}
use Rattle.channel_model.specs.Pins.{Pins}
use Rattle.channel_model.specs.Nets.{nets_of}
use Rattle.left_edge.specs.declared.sweep.TracksSoFar.{TracksSoFar}
use Rattle.left_edge.specs.Spans.{span}
use Rattle.left_edge.specs.Tracks.{is_past, lasts, level_of}

-- the sweep has given tracks to the nets that begin in the first columns, and a track is free where its last net ended left of a column
pub record IsSwept (pins : Pins) (begun column : ℕ) (sweep : TracksSoFar) : Type 0 where
  pub count : sweep.count ≡ length (lasts pins begun)
  pub free : (level : ℕ) → contains nat_cmp sweep.free level
      ≡ (nat_lt level (length (lasts pins begun)) && is_past pins column (slice_index (lasts pins begun) level))
  pub long : length sweep.levels.items ≡ length (nets_of pins)
  pub levels : (place : ℕ) → place < length (nets_of pins) → (span pins (slice_index (nets_of pins) place)).first < begun
      → slice_index sweep.levels.items place ≡ level_of pins (slice_index (nets_of pins) place)
