-- the shapes of a layer as the areas that they cover
use Rattle.std.specs.Prelude.{ℕ, List, ◌++◌, map, filter, Bool, not, ◌||◌}
use Rattle.geom_core.specs.Extent.{Extent}
use Rattle.geom_core.specs.declared.layout.Shape.{Shape}
use Rattle.region_cut.specs.Merged.{merged}
use Rattle.rule_check.specs.Narrow.{is_on}
use Rattle.tech_rules.specs.Rules.{RuleValues}
use Rattle.layout_merge.specs.declared.shapes.TheConstants.{MOST_WORK}

-- the rectangles of the shapes on a layer
abbrev pub rects_on : List ℕ → List Shape → List Extent
rects_on layer shapes = map (λ (s : Shape). s.rect) (filter (is_on layer) shapes)

abbrev pub shape_on : List ℕ → Extent → Shape
shape_on layer rect = record { layer = layer; rect = rect }

-- the shapes on a layer, merged: the maximal blocks of the area that they cover together, or they themselves where these are too many
abbrev pub merged_on : List ℕ → List Shape → List Shape
merged_on layer shapes = map (shape_on layer) (merged MOST_WORK (rects_on layer shapes))

-- a shape on a layer of wires or of cuts
abbrev pub is_merged : RuleValues → Shape → Bool
is_merged r s = is_on r.horizontal.layer s || (is_on r.vertical.layer s || is_on r.cut.layer s)

abbrev pub others : RuleValues → List Shape → List Shape
others r shapes = filter (λ s. not (is_merged r s)) shapes

-- shapes, those on the layers of wires and of cuts merged, layer by layer, and behind them the others as they are
unfoldable pub merged_shapes : RuleValues → List Shape → List Shape
merged_shapes r shapes =
    ((merged_on r.horizontal.layer shapes ++ merged_on r.vertical.layer shapes) ++ merged_on r.cut.layer shapes) ++ others r shapes
