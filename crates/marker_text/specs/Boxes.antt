-- the value of a box
use Rattle.std.specs.Prelude.{ℕ, ℤ, List, ◌++◌, codes}
use Rattle.geom_core.specs.Extent.{Extent}
use Rattle.marker_text.specs.Microns.{microns}

-- a corner behind a text
abbrev pub corner : List ℕ → ℤ → ℤ → List ℕ
corner before x y = before ++ (microns x ++ (codes "," ++ microns y))

-- a line with a box: its lower left and its upper right corner
unfoldable pub box_text : Extent → List ℕ
box_text e = corner (codes "    <value>box: (") e.x0 e.y0 ++ (corner (codes ";") e.x1 e.y1 ++ codes ")</value>\n")
