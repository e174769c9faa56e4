-- what the reader's limits look at
use Rattle.std.specs.Prelude.{if◌then◌else◌, ℕ, suc, ℤ, ◌==◌, nat_lt, nat_abs, List, [], ◌∷◌, ◌++◌, length, map, ◌+◌, Option, Some, None}
use Rattle.limits.specs.declared.TheConstants.{DEEPEST, FARTHEST, MOST_SHAPES}
use Rattle.geom_core.specs.declared.layout.Shape.{Shape}
use Rattle.geom_core.specs.declared.corner.Corner.{Corner}
use Rattle.geom_core.specs.Extent.{Extent}
use Rattle.region_cut.specs.Maximal.{maximal}
use Rattle.geom_core.specs.Turning.{Turning}
use Rattle.cif_text.specs.declared.command.CifCommand.{CifCommand}
use Rattle.cif_text.specs.declared.command.CifCommand.TheVariants as commands
use Rattle.cif_text.specs.Scales.{box_around, doubled_corner, scaled_corners, scaled_extent, scaled_extents, scaled_turning, wire_around}
use Rattle.cif_text.specs.Symbols.{Symbol, Level, symbol_of, moved_shapes}
use Rattle.cif_reader.specs.declared.fault.ExpandKind.{ExpandKind}
use Rattle.cif_reader.specs.declared.fault.ExpandKind.TheVariants as kinds

-- the product's own: no coordinate is farther from 0 than so many half centimicrons, no level has more shapes, and none is deeper
abbrev pub farthest : ℕ
farthest = FARTHEST

abbrev pub most_shapes : ℕ
most_shapes = MOST_SHAPES

abbrev pub deepest : ℕ
deepest = DEEPEST

-- the first number that is too far
abbrev pub first_far : List ℤ → Option ℤ
first_far [] = None
first_far (z ∷ zs) = if nat_lt farthest (nat_abs z) then Some z else first_far zs

abbrev pub sides_of : Extent → List ℤ
sides_of e = e.x0 ∷ e.y0 ∷ e.x1 ∷ e.y1 ∷ []

-- the coordinates of shapes, in order
abbrev pub coordinates_of : List Shape → List ℤ
coordinates_of [] = []
coordinates_of (s ∷ ss) = sides_of s.rect ++ coordinates_of ss

abbrev pub sides_of_all : List Extent → List ℤ
sides_of_all [] = []
sides_of_all (e ∷ es) = sides_of e ++ sides_of_all es

abbrev pub box_numbers : Option Extent → List ℤ
box_numbers None = []
box_numbers (Some rect) = sides_of rect

abbrev pub wire_numbers : Option (List Extent) → List ℤ
wire_numbers None = []
wire_numbers (Some rects) = sides_of_all rects

abbrev pub coordinates_of_corner : Corner → List ℤ
coordinates_of_corner c = c.x ∷ c.y ∷ []

-- the coordinates of a path, point after point
abbrev pub coordinates_of_path : List Corner → List ℤ
coordinates_of_path [] = []
coordinates_of_path (c ∷ cs) = coordinates_of_corner c ++ coordinates_of_path cs

abbrev pub path_numbers : Option (List Corner) → List ℤ
path_numbers None = []
path_numbers (Some path) = coordinates_of_path path

abbrev pub call_numbers : Option Symbol → Option Turning → List ℤ
call_numbers (Some symbol) (Some turn) = turn.dx ∷ turn.dy ∷ coordinates_of (moved_shapes turn symbol.shapes)
call_numbers _ _ = []

-- the numbers that a command gives its level: the coordinates of a box, those of the rectangles of a wire, those of the corners of a polygon, or the offset
-- of a call and then those of its shapes
abbrev pub numbers_of : List Symbol → Level → CifCommand → List ℤ
numbers_of symbols l (commands.Box long wide cx cy upright) = box_numbers (scaled_extent l.a l.b (box_around long wide cx cy upright))
numbers_of symbols l (commands.Wire width path) = wire_numbers (scaled_extents l.a l.b (wire_around width path))
numbers_of symbols l (commands.Polygon path) = path_numbers (scaled_corners l.a l.b (map doubled_corner path))
numbers_of symbols l (commands.Call n flip quarters dx dy) = call_numbers (symbol_of n symbols) (scaled_turning l.a l.b flip quarters dx dy)
numbers_of symbols l _ = []

abbrev pub called_shapes : Option Symbol → ℕ
called_shapes None = 0
called_shapes (Some symbol) = length symbol.shapes

abbrev pub blocks_of : Option (List Corner) → ℕ
blocks_of None = 0
blocks_of (Some path) = length (maximal path)

-- how many shapes a command gives its level
abbrev pub shapes_given : List Symbol → Level → CifCommand → ℕ
shapes_given symbols l (commands.Box long wide cx cy upright) = 1
shapes_given symbols l (commands.Wire width path) = length (wire_around width path)
shapes_given symbols l (commands.Polygon path) = blocks_of (scaled_corners l.a l.b (map doubled_corner path))
shapes_given symbols l (commands.Call n flip quarters dx dy) = called_shapes (symbol_of n symbols)
shapes_given symbols l _ = 0

-- too many shapes, where a level that has so many gets so many more
abbrev pub more_than_most : ℕ → ℕ → Option ExpandKind
more_than_most before given = if nat_lt most_shapes (before + given) then Some kinds.TooMany else None

abbrev pub far_or_many : Option ℤ → Option ExpandKind → Option ExpandKind
far_or_many (Some z) many = Some (kinds.TooFar z)
far_or_many None many = many

-- the product's own: a polygon has at most so many points, as they are written
abbrev pub most_corners : ℕ
most_corners = 2000

abbrev pub long_path : ℕ → Option ExpandKind
long_path count = if nat_lt most_corners count then Some kinds.LongPath else None

abbrev pub long_by : CifCommand → Option ExpandKind
long_by (commands.Polygon path) = long_path (length path)
long_by _ = None

-- the first of two limits, of which each may be passed or not
abbrev pub either_limit : Option ExpandKind → Option ExpandKind → Option ExpandKind
either_limit (Some kind) second = Some kind
either_limit None second = second

-- the limit that a command passes by what it gives its level
abbrev pub limit_passed : List Symbol → Level → CifCommand → Option ExpandKind
limit_passed symbols l c =
    far_or_many (first_far (numbers_of symbols l c)) (either_limit (long_by c) (more_than_most (length l.shapes) (shapes_given symbols l c)))

-- the depth of a symbol: 1 without calls, else one more than that of the deepest that it calls. The depths stand in the order of the symbols
abbrev pub depth_of : ℕ → List Symbol → List ℕ → ℕ
depth_of n (s ∷ ss) (d ∷ ds) = if s.number == n then d else depth_of n ss ds
depth_of n _ _ = 0

-- the depth that a command gives its level
abbrev pub depth_given : List Symbol → List ℕ → CifCommand → ℕ
depth_given symbols depths (commands.Call n flip quarters dx dy) = suc (depth_of n symbols depths)
depth_given symbols depths _ = 1
