-- a scan as contracts see it: the close pairs that it has still to give
use Rattle.std.specs.Prelude.{ℕ, List, map, All}
use Rattle.close_rects.specs.Items.{entry, IsFit}
use Rattle.close_rects.specs.Rests.{rest_at}
use Rattle.close_rects.specs.declared.scan.Scan.TheInside.{Inside}

-- the pairs that are left to be given
abbrev pub rest_in : Inside → List (ℕ × ℕ)
rest_in s = rest_at s.reach.length (map entry s.indexed) s.row s.at

-- a scan's rectangles fit it
abbrev pub IsScan : Inside → Type 0
IsScan s = All IsFit s.indexed
