-- the groups of cells, with their names
use Rattle.std.specs.Prelude.{ℕ, ◌+◌, ◌/◌, ◌-ℤ◌, unsigned_abs, List, [], ◌∷◌, ◌++◌, length, codes, map, Bool, nat_le, Option, Some, None, if◌then◌else◌}
use Rattle.std.specs.List.{concat}
use Rattle.geom_core.specs.Extent.{Extent}
use Rattle.geom_core.specs.declared.layout.Cell.{Cell}
use Rattle.geom_core.specs.declared.layout.Layout.{Layout}
use Rattle.marker_text.specs.Microns.{microns, size_text}
use Rattle.shape_extents.specs.CellShapes.{cell_extent}
use Rattle.layout_picture.specs.Elements.{sides_text}
use Rattle.layout_picture.specs.Entities.{entities}
use Rattle.layout_picture.specs.Frame.{do_meet, turned}

-- letters in a rectangle are a twelfth of its height, and three fifths of that wide
abbrev pub letter_height : Extent → ℕ
letter_height e = unsigned_abs (e.y1 -ℤ e.y0) / 12 + 1

abbrev pub letter_width : Extent → ℕ
letter_width e = unsigned_abs (e.y1 -ℤ e.y0) / 20 + 1

-- a name fits where there is room for its letters
abbrev pub does_fit : List ℕ → Extent → Bool
does_fit name e = nat_le (length name) (unsigned_abs (e.x1 -ℤ e.x0) / letter_width e)

-- the name, at the lower left, where it fits, and the end of its group
unfoldable pub name_text : Extent → List ℕ → Extent → List ℕ
name_text f name e =
    if does_fit name e
    then concat (codes "     <text x=\"" ∷ microns e.x0 ∷ codes "\" y=\"" ∷ microns (turned f e.y0) ∷ codes "\" dy=\"-0.25em\" font-size=\""
    ∷ size_text (letter_height e) ∷ codes "\">" ∷ entities name ∷ codes "</text>\n    </g>\n" ∷ [])
    else codes "    </g>\n"

-- the group of a cell of a name and an extent: its name as a title, its rectangle, and its name
unfoldable pub group_text : Extent → List ℕ → Extent → List ℕ
group_text f name e =
    concat (codes "    <g>\n     <title>" ∷ entities name ∷ codes "</title>\n     <rect" ∷ []) ++ (sides_text f e ++ name_text f name e)

-- a cell is shown where its extent meets the frame; one without shapes is not
abbrev pub met_text : Extent → List ℕ → Extent → List ℕ
met_text f name e = if do_meet f e then group_text f name e else []

abbrev pub placed_text : Extent → List ℕ → Option Extent → List ℕ
placed_text f name None = []
placed_text f name (Some e) = met_text f name e

abbrev pub cell_text : Extent → Layout → Cell → List ℕ
cell_text f l cell = placed_text f cell.name (cell_extent l cell)

-- the groups of the cells that are shown, in their order
abbrev pub cells_text : Extent → Layout → List Cell → List ℕ
cells_text f l cells = concat (map (cell_text f l) cells)
