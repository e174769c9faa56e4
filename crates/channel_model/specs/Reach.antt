-- from where to where a net has pins, along one edge of a channel and along both
use Rattle.std.specs.Prelude.{◌==◌, ◌<◌, ◌≤◌, if◌then◌else◌, ℕ, zero, suc, List, length, slice_index, Option, Some, None, min, max}
use Rattle.channel_model.specs.declared.reach.Reach.{Reach}
use Rattle.channel_model.specs.Pins.{Pins}

-- a reach that goes on to a column
abbrev pub reach_to : Option Reach → ℕ → Reach
reach_to None column = record { first = column; last = column }
reach_to (Some reach) column = record { first = reach.first; last = column }

-- from the first to the last of a net's pins among the first columns of an edge
abbrev pub reach_of : List ℕ → ℕ → ℕ → Option Reach
reach_of side net zero = None
reach_of side net (suc column) =
    if slice_index side column == net then Some (reach_to (reach_of side net column) column) else reach_of side net column

-- the least reach that has both
abbrev pub joined : Option Reach → Option Reach → Option Reach
joined None other = other
joined (Some a) None = Some a
joined (Some a) (Some b) = Some (record { first = min a.first b.first; last = max a.last b.last })

-- from the first to the last of a net's pins along both edges
abbrev pub span_of : Pins → ℕ → Option Reach
span_of pins net = joined (reach_of pins.top net (length pins.top)) (reach_of pins.bottom net (length pins.bottom))

-- a reach within some columns
pub record IsReach (columns : ℕ) (reach : Reach) : Type 0 where
  pub ordered : reach.first ≤ reach.last
  pub within : reach.last < columns
