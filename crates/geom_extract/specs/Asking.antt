-- what a shape asks for others with
use Rattle.std.specs.Prelude.{ℕ}
use Rattle.geom_core.specs.Extent.{Extent}
use Rattle.geom_core.specs.Reach.{IsExtentInReach}
use Rattle.geom_extract.specs.Planes.{raised, tie_at}
use Rattle.geom_extract.specs.declared.plane.Plane.{Plane}
use Rattle.geom_extract.specs.declared.plane.Plane.TheVariants.{Horizontal, Vertical, Cut, Other}
use Rattle.geom_extract.specs.declared.asker.Asks.{Asks}
use Rattle.geom_extract.specs.declared.asker.Asker.TheInside.{Inside}

-- what a shape of a layer asks with: its own rectangle in the planes of the layers to which it conducts, and its place among ties
abbrev pub asks_of : Plane → Extent → ℕ → Asks
asks_of Horizontal e n = record { first = raised Horizontal e; second = raised Cut e; third = tie_at n }
asks_of Vertical e n = record { first = raised Vertical e; second = raised Cut e; third = tie_at n }
asks_of Cut e n = record { first = raised Horizontal e; second = raised Vertical e; third = tie_at n }
asks_of Other e n = record { first = tie_at n; second = tie_at n; third = tie_at n }

-- what is kept of it, and that its rectangle lies within reach
abbrev pub asks_in : Inside → Asks
asks_in a = asks_of a.plane a.rect a.number

abbrev pub IsAsker : Inside → Type 0
IsAsker a = IsExtentInReach a.rect
