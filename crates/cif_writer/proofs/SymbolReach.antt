use Rattle.std.proofs.Common.{◌+◌, ◌*◌, ◌-◌, ◌≤◌, ◌∷◌, [], ℕ, List, map, arith, subst, sym}
use Rattle.std.proofs.lemmas.List.Elements.{recursion_from_All}
use Rattle.std.specs.List.{AllByRecursion}
use Rattle.channel_stack.specs.Layouts.{feed_drawing}
use Rattle.design_model.specs.Drawing.{drawing_of, middle_of}
use Rattle.design_model.specs.Netlist.{IsKind, IsNetlist, Netlist}
use Rattle.design_model.specs.declared.design.CellKind.{CellKind}
use Rattle.feed_cells.specs.Fed.{Fed, IsFed}
use Rattle.geom_core.specs.Reach.{IsShapeInReach}
use Rattle.geom_core.specs.declared.layout.Shape.{Shape}
use Rattle.tech_rules.specs.Rules.{RuleValues, ValidRules}
use Rattle.cif_writer.specs.FeedHeights.{feed_heights}
use Rattle.cif_writer.specs.Symbols.{symbol_drawings}
use Rattle.channel_stack.proofs.RowHeights.{row-low}
use Rattle.cif_writer.proofs.HeightLaws.{feeds-hold}
use Rattle.cif_writer.proofs.DrawingReach.{drawing-in-reach, scaled-in-reach}
use Rattle.cif_writer.proofs.SymbolDrawings.{drawings-are}
use Rattle.std_laws.proofs.Members.{get-contains}
use Rattle.std_laws.proofs.Every.{every-append}

-- all shapes of some drawings are in reach
abbrev pub AreInReach : List (List Shape) → Type 0
AreInReach drawings = AllByRecursion (λ (shapes : List Shape). AllByRecursion IsShapeInReach shapes) drawings

kinds-reach : (r : RuleValues) → ValidRules r → (kinds : List CellKind) → AllByRecursion IsKind kinds → AreInReach (map (drawing_of r) kinds)
kinds-reach r valid [] are = tt
kinds-reach r valid (k ∷ kinds) are = (drawing-in-reach r k valid are.0, kinds-reach r valid kinds are.1)

feed-reach : (r : RuleValues) (height : ℕ) → ValidRules r → height ≤ 200000000 → AllByRecursion IsShapeInReach (feed_drawing r height)
unfolding feed_drawing
feed-reach r height valid low =
    let fine : r.grid.centi ≤ 1000 = valid.ranges.grid.centi.1 in
    let pitch : r.grid.column ≤ 1000 = valid.ranges.grid.column.1 in
    let wide : r.vertical.width ≤ 1000 = valid.ranges.vertical.width.1 in (
      record {
        x0 = scaled-in-reach 0 r.grid.centi (omega arith) fine;
        y0 = scaled-in-reach 0 r.grid.centi (omega arith) fine;
        x1 = scaled-in-reach (2 * r.grid.column) r.grid.centi (omega arith) fine;
        y1 = scaled-in-reach (2 * height) r.grid.centi (omega arith) fine;
      },
      (
        record {
          x0 = scaled-in-reach (middle_of r.grid.column 0 - r.vertical.width) r.grid.centi (omega arith) fine;
          y0 = scaled-in-reach 0 r.grid.centi (omega arith) fine;
          x1 = scaled-in-reach (middle_of r.grid.column 0 + r.vertical.width) r.grid.centi (omega arith) fine;
          y1 = scaled-in-reach (2 * height) r.grid.centi (omega arith) fine;
        },
        tt,
      ),
    )

feeds-reach : (r : RuleValues) (heights : List ℕ) → ValidRules r → AllByRecursion (λ (h : ℕ). h ≤ 200000000) heights → AreInReach (map (feed_drawing r) heights)
feeds-reach r [] valid low = tt
feeds-reach r (h ∷ heights) valid low = (feed-reach r h valid low.0, feeds-reach r heights valid low.1)

-- the drawings of the symbols of a layout are in reach
pub symbols-reach : (r : RuleValues) (d : Netlist) (fed : Fed) → ValidRules r → IsNetlist d → IsFed d fed → AreInReach (symbol_drawings r d fed)
symbols-reach r d fed valid is from =
    subst AreInReach (sym (drawings-are r d fed))
    (every-append (λ (shapes : List Shape). AllByRecursion IsShapeInReach shapes) (map (drawing_of r) d.kinds) (map (feed_drawing r) (feed_heights fed))
    (kinds-reach r valid d.kinds (recursion_from_All IsKind d.kinds is.kinds))
    (feeds-reach r (feed_heights fed) valid
    (recursion_from_All (λ (h : ℕ). h ≤ 200000000) (feed_heights fed)
    (feeds-hold d fed from (λ (h : ℕ). h ≤ 200000000)
    (λ k items at some. omega (arith, row-low d is fed from.placed items (get-contains fed.rows k items at), is.low))))))
