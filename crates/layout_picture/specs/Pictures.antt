-- the text of a picture
use Rattle.std.specs.Prelude.{ℕ, ◌-ℤ◌, List, [], ◌∷◌, ◌++◌, codes, Option}
use Rattle.std.specs.List.{concat}
use Rattle.geom_core.specs.Extent.{Extent}
use Rattle.geom_core.specs.declared.layout.Layout.{Layout}
use Rattle.marker_text.specs.Microns.{microns}
use Rattle.layout_picture.specs.Cells.{cells_text}
use Rattle.layout_picture.specs.Elements.{shapes_text}
use Rattle.layout_picture.specs.Frame.{frame_of}
use Rattle.layout_picture.specs.Legend.{entries_text}
use Rattle.layout_picture.specs.Parts.{part_text}
use Rattle.layout_picture.specs.Scale.{scale_text}
use Rattle.layout_picture.specs.Styles.{layers_of, styles_text}
use Rattle.layout_picture.specs.declared.texts.Part.TheVariants.{Begin, Cells, CellsEnd, End, Legend, Shapes, StylesEnd}
use Rattle.layout_picture.specs.declared.view.Roles.{Roles}
use Rattle.layout_picture.specs.declared.view.View.{View}

-- the beginning, with a rule for each layer in the style sheet
unfoldable pub sheet_text : List (List ℕ) → List ℕ
sheet_text layers = part_text Begin ++ (styles_text 0 layers ++ part_text StylesEnd)

-- a square into which the frame is fitted, and in it the frame, at whose sides it is cut
unfoldable pub opening_text : Extent → List ℕ
opening_text f =
    let x = microns f.x0 in let width = microns (f.x1 -ℤ f.x0) in let height = microns (f.y1 -ℤ f.y0) in
    concat (codes " <svg width=\"1000\" height=\"1000\" viewBox=\"" ∷ x ∷ codes " 0 " ∷ width ∷ codes " " ∷ height
    ∷ codes "\">\n  <svg x=\"" ∷ x ∷ codes "\" width=\"" ∷ width ∷ codes "\" height=\"" ∷ height ∷ codes "\" viewBox=\"" ∷ x ∷ codes " 0 " ∷ width ∷ codes " " ∷ height
    ∷ codes "\">\n" ∷ [])

-- what is drawn in it: the shapes that are shown, and then the cells
unfoldable pub drawing_text : Extent → Layout → List ℕ
drawing_text f l = part_text Shapes ++ (shapes_text f l.shapes ++ (part_text Cells ++ (cells_text f l l.cells ++ part_text CellsEnd)))

-- beside it the scale bar and the legend
unfoldable pub end_text : Extent → Option Roles → List (List ℕ) → List ℕ
end_text f roles layers = scale_text f ++ (part_text Legend ++ (entries_text roles layers ++ part_text End))

-- the whole picture of a layout
unfoldable pub picture_text : Layout → View → List ℕ
picture_text l v =
    let f = frame_of l v in let layers = layers_of l.shapes in
    sheet_text layers ++ (opening_text f ++ (drawing_text f l ++ end_text f v.roles layers))
