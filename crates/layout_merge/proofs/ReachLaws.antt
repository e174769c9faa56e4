use Rattle.std.proofs.Common.{◌≡◌, ◌+◌, ◌+ℤ◌, ℕ, zero, suc, ℤ, List, [], ◌∷◌, ◌++◌, Bool, true, false, not, cond, filter, map, drop, take, Option, Some, None, refl, arith}
use Rattle.std.proofs.lemmas.Int.{ints}
use Rattle.std.specs.List.{AllByRecursion, find, flat_map}
use Rattle.std.specs.Prelude.{All, neg_ℤ}
use Rattle.std.specs.Str.{bytes_eq}
use Rattle.std_laws.proofs.Every.{every-append, every-dropped, every-filtered, every-from-get, every-map, every-taken, every-weaker}
use Rattle.std_laws.proofs.Members.{all-get, contains-get, find-passes}
use Rattle.geom_core.specs.Extent.{Extent}
use Rattle.geom_core.specs.Moving.{moved_shape}
use Rattle.geom_core.specs.Reach.{IsExtentInReach, IsInReach, IsShapeInReach}
use Rattle.geom_core.specs.Turning.{Turning, flipped, moved, quarter_turned, quarters_turned, shifted}
use Rattle.geom_core.specs.declared.layout.Cell.{Cell}
use Rattle.geom_core.specs.declared.layout.Layout.{Layout}
use Rattle.geom_core.specs.declared.layout.Shape.{Shape}
use Rattle.tech_rules.specs.Rules.{RuleValues, ValidRules}
use Rattle.design_model.specs.CellsMatch.{shapes_of}
use Rattle.design_model.specs.Drawing.{drawing_of}
use Rattle.design_model.specs.Netlist.{IsKind, IsNetlist, Netlist}
use Rattle.design_model.specs.declared.design.CellKind.{CellKind}
use Rattle.layout_check.specs.CellFaults.{are_shapes}
use Rattle.layout_check.specs.Drawings.{IsExtentLow, IsLow, IsShapeLow}
use Rattle.layout_check.proofs.DrawingReach.{drawing-low}
use Rattle.region_cut.specs.Merged.{merged}
use Rattle.region_cut.proofs.MergedLaws.{merged-all}
use Rattle.region_cut.proofs.SideLaws.{OfSides}
use Rattle.rule_check.specs.Narrow.{is_on}
use Rattle.layout_merge.specs.Areas.{is_merged, merged_on, merged_shapes, others, rects_on, shape_on}
use Rattle.layout_merge.specs.Drawn.{as_drawn, drawn, drawn_by, kind_named}
use Rattle.layout_merge.specs.MergedLayout.{outside}
use Rattle.layout_merge.specs.Near.{IsCellNear, IsNear}
use Rattle.layout_merge.specs.declared.shapes.TheConstants.{MOST_WORK}

-- shapes within reach, one after another
pub one-by-one : {X : Type 0} (P : X → Type 0) (xs : List X) → All P xs → AllByRecursion P xs
one-by-one P xs all = every-from-get P xs (λ n x at. all-get P xs n x all at)

-- merged shapes have their sides among those of the shapes
on-reach : (layer : List ℕ) (shapes : List Shape) → AllByRecursion IsShapeInReach shapes → AllByRecursion IsShapeInReach (merged_on layer shapes)
on-reach layer shapes all =
    every-map IsShapeInReach (shape_on layer) (merged MOST_WORK (rects_on layer shapes))
    (every-weaker (OfSides IsInReach) IsExtentInReach (λ r is. record { x0 = is.0; y0 = is.2; x1 = is.1; y1 = is.3 }) (merged MOST_WORK (rects_on layer shapes))
    (merged-all IsInReach MOST_WORK (rects_on layer shapes)
    (every-map (OfSides IsInReach) (λ (s : Shape). s.rect) (filter (is_on layer) shapes)
    (every-filtered (λ (s : Shape). OfSides IsInReach s.rect) (is_on layer) shapes
    (every-weaker IsShapeInReach (λ (s : Shape). OfSides IsInReach s.rect) (λ s is. (is.x0, is.x1, is.y0, is.y1)) shapes all)))))

pub merged-reach : (r : RuleValues) (shapes : List Shape) → AllByRecursion IsShapeInReach shapes → AllByRecursion IsShapeInReach (merged_shapes r shapes)
unfolding merged_shapes
merged-reach r shapes all =
    every-append IsShapeInReach _ _
    (every-append IsShapeInReach _ _
    (every-append IsShapeInReach _ _ (on-reach r.horizontal.layer shapes all) (on-reach r.vertical.layer shapes all))
    (on-reach r.cut.layer shapes all))
    (every-filtered IsShapeInReach (λ s. not (is_merged r s)) shapes all)

-- a drawing stays within reach under the turn of a cell that is near
turned-low : (z : ℤ) → IsLow z → IsLow (neg_ℤ z)
turned-low z is = record { low = omega (arith, ints, is.high); high = omega (arith, ints, is.low) }

flipped-low : (flip : Bool) (e : Extent) → IsExtentLow e → IsExtentLow (flipped flip e)
flipped-low false e is = is
flipped-low true e is = record { x0 = turned-low _ is.x1; y0 = is.y0; x1 = turned-low _ is.x0; y1 = is.y1 }

quarters-low : (k : ℕ) (e : Extent) → IsExtentLow e → IsExtentLow (quarters_turned k e)
quarters-low zero e is = is
quarters-low (suc k) e is =
    let less = quarters-low k e is in
    record { x0 = turned-low _ less.y1; y0 = less.x0; x1 = turned-low _ less.y0; y1 = less.x1 }

shifted-reach : (z d : ℤ) → IsLow z → IsNear d → IsInReach (z +ℤ d)
shifted-reach z d is near = record { low = omega (arith, ints, is.low, near.low); high = omega (arith, ints, is.high, near.high) }

moved-reach : (cell : Cell) (s : Shape) → IsCellNear cell → IsShapeLow s → IsShapeInReach (moved_shape cell.turn s)
moved-reach cell s near is =
    let low = quarters-low cell.turn.quarters (flipped cell.turn.flip s.rect) (flipped-low cell.turn.flip s.rect is) in
    record {
      x0 = shifted-reach _ _ low.x0 near.across;
      y0 = shifted-reach _ _ low.y0 near.up;
      x1 = shifted-reach _ _ low.x1 near.across;
      y1 = shifted-reach _ _ low.y1 near.up;
    }

chosen : (b : Bool) (xs ys : List Shape) → AllByRecursion IsShapeInReach xs → AllByRecursion IsShapeInReach ys → AllByRecursion IsShapeInReach (cond b xs ys)
chosen true xs ys first second = first
chosen false xs ys first second = second

module _ (r : RuleValues) (d : Netlist) (l : Layout) (valid : ValidRules r) (good : IsNetlist d) (shapes : AllByRecursion IsShapeInReach l.shapes) where
  own-reach : (cell : Cell) → AllByRecursion IsShapeInReach (shapes_of l cell)
  own-reach cell = every-taken IsShapeInReach cell.count (drop cell.first l.shapes) (every-dropped IsShapeInReach cell.first l.shapes shapes)

  by-reach : (cell : Cell) (o : Option CellKind) → kind_named d cell.symbol ≡ o → IsCellNear cell → AllByRecursion IsShapeInReach (drawn_by r l o cell)
  by-reach cell None is near = own-reach cell
  by-reach cell (Some kind) is near =
      let found = find-passes (λ (k : CellKind). bytes_eq k.name cell.symbol) d.kinds kind is in
      let fits : IsKind kind = all-get IsKind d.kinds found.1.0 kind good.kinds (contains-get d.kinds kind found.1) in
      chosen (are_shapes (merged_shapes r (shapes_of l cell)) (merged_shapes r (map (moved_shape cell.turn) (drawing_of r kind)))) (map (moved_shape cell.turn) (drawing_of r kind)) (shapes_of l cell)
      (every-map IsShapeInReach (moved_shape cell.turn) (drawing_of r kind)
      (every-weaker IsShapeLow (λ (s : Shape). IsShapeInReach (moved_shape cell.turn s)) (λ s low. moved-reach cell s near low) (drawing_of r kind)
      (one-by-one IsShapeLow (drawing_of r kind) (drawing-low r kind valid fits))))
      (own-reach cell)

  drawn-reach : (cell : Cell) → IsCellNear cell → AllByRecursion IsShapeInReach (drawn r d l cell)
  unfolding drawn
  drawn-reach cell near = by-reach cell (kind_named d cell.symbol) refl near

  pub all-reach : (cells : List Cell) → AllByRecursion IsCellNear cells → AllByRecursion IsShapeInReach (flat_map (drawn r d l) cells)
  all-reach [] near = tt
  all-reach (c ∷ cs) near = every-append IsShapeInReach (drawn r d l c) (flat_map (drawn r d l) cs) (drawn-reach c near.0) (all-reach cs near.1)

-- what lies outside of cells
pub outside-reach : (n : ℕ) (cells : List Cell) (shapes : List Shape) → AllByRecursion IsShapeInReach shapes → AllByRecursion IsShapeInReach (outside n cells shapes)
outside-reach n [] shapes all = every-dropped IsShapeInReach n shapes all
outside-reach n (c ∷ cs) shapes all =
    every-append IsShapeInReach _ _ (every-taken IsShapeInReach _ (drop n shapes) (every-dropped IsShapeInReach n shapes all)) (outside-reach (c.first + c.count) cs shapes all)
