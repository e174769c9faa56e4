-- where an instance stands as contracts see it, and that its row and column are within limits
use Rattle.row_board.specs.Spot.{Spot, IsSpot}
use Rattle.row_board.specs.declared.standings.Standing.TheInside.{Inside}

abbrev pub spot_in : Inside → Spot
spot_in a = record { row = a.row; mirror = a.mirror; place = a.place; left = a.left }

abbrev pub IsStanding : Inside → Type 0
IsStanding a = IsSpot (spot_in a)
