-- the shapes of a cell, and their extent
use Rattle.std.specs.Prelude.{List, drop, take, Option}
use Rattle.geom_core.specs.Extent.{Extent}
use Rattle.geom_core.specs.declared.layout.Cell.{Cell}
use Rattle.geom_core.specs.declared.layout.Layout.{Layout}
use Rattle.geom_core.specs.declared.layout.Shape.{Shape}
use Rattle.shape_extents.specs.Extents.{extent_of}

-- the shapes of a cell: so many as it has from its first on
abbrev pub cell_shapes : Layout → Cell → List Shape
cell_shapes l cell = take cell.count (drop cell.first l.shapes)

-- the least rectangle round them, if there are any
abbrev pub cell_extent : Layout → Cell → Option Extent
cell_extent l cell = extent_of (cell_shapes l cell)
