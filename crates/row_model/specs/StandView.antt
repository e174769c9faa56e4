-- the stand of an instance as contracts see it, and how far right it may begin
use Rattle.std.specs.Prelude.{◌≤◌}
use Rattle.row_model.specs.Stand.{Stand}
use Rattle.row_model.specs.declared.stands.Stand.TheInside.{Inside}

abbrev pub stand_in : Inside → Stand
stand_in a = record { row = a.row; left = a.left; mirror = a.mirror }

-- in a row of at most 20,000 cells, each of at most 100,000,000 columns
abbrev pub IsStandIn : Inside → Type 0
IsStandIn a = a.left ≤ 2000000000000
