-- the parts of a picture that are the same for all layouts
use Rattle.std.specs.Prelude.{ℕ, List}
use Rattle.layout_picture.specs.declared.texts.Part.{Part}
use Rattle.layout_picture.specs.declared.texts.Part.TheVariants.{Begin, Cells, CellsEnd, End, Legend, Shapes, StylesEnd}
use Rattle.layout_picture.specs.declared.texts.TheConstants.{BEGIN, CELLS, CELLS_END, END, LEGEND, SHAPES, STYLES_END}

-- the text of a part, as it stands in the source
unfoldable pub part_text : Part → List ℕ
part_text Begin = BEGIN.now
part_text StylesEnd = STYLES_END.now
part_text Shapes = SHAPES.now
part_text Cells = CELLS.now
part_text CellsEnd = CELLS_END.now
part_text Legend = LEGEND.now
part_text End = END.now
