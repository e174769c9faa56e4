-- a table of the stands of a design's instances, and what it tells of one
use Rattle.std.specs.Prelude.{◌≡◌, ℕ, ◌<◌, List, length, Bool, true, false, Option, None, Some, slice_get}
use Rattle.row_model.specs.Stand.{Stand}
use Rattle.design_model.specs.Netlist.{Netlist}
use Rattle.row_model.specs.Stands.{stand_of}
use Rattle.row_model.specs.declared.rows.Seat.{Seat}

-- a stand, if this is so
abbrev pub stand_if : Bool → Stand → Option Stand
stand_if true stand = Some stand
stand_if false stand = None

-- a table has the stand of each instance
pub record AreStands (d : Netlist) (rows : List (List Seat)) (stands : List (Option Stand)) : Type 0 where
  pub each : (i : ℕ) → i < length d.instances → slice_get stands i ≡ Some (stand_of d rows i)

-- what a table has at a place, if that is in it
abbrev pub stand_there : Option (Option Stand) → Option Stand
stand_there None = None
stand_there (Some stand) = stand

-- the stand of an instance in a table
abbrev pub tabled_stand : List (Option Stand) → ℕ → Option Stand
tabled_stand stands instance = stand_there (slice_get stands instance)
