use Rattle.std.proofs.Common.{◌+◌, ◌-◌, ◌*◌, ◌≤◌, ℕ, ℤ, pos, List, Bool, true, false, map, arith}
use Rattle.std.specs.Prelude.{All}
use Rattle.std.proofs.lemmas.Int.{ints}
use Rattle.std.proofs.lemmas.List.{length-map}
use Rattle.std.proofs.lemmas.List.Elements.{All-cons, All-map, All-weaker}
use Rattle.std.proofs.Math.Nat.{mul-le-mul}
use Rattle.geom_core.specs.Reach.{IsInReach, IsShapeInReach}
use Rattle.geom_core.specs.declared.layout.Shape.{Shape}
use Rattle.tech_rules.specs.Rules.{RuleValues, ValidRules}
use Rattle.design_model.specs.Drawing.{drawing_of, extent_of, middle_of, outline_shape, pin_high, pin_low, position_shape}
use Rattle.design_model.specs.Netlist.{IsKind, IsNetlist, IsPosition, Netlist}
use Rattle.design_model.specs.declared.design.CellKind.{CellKind}
use Rattle.design_model.specs.declared.design.Position.{Position}
use Rattle.layout_check.specs.Drawings.{AreForKinds, IsExtentLow, IsLow, IsShapeLow, drawings_of}

-- a length in half units, in half centimicrons
in-low : (n centi : ℕ) → n ≤ 300000000000 → centi ≤ 1000 → IsLow (pos (n * centi))
in-low n centi few small =
    let product : n * centi ≤ 300000000000 * 1000 = mul-le-mul few small in
    record { low = omega (arith, ints); high = omega (arith, ints) }

extent-low : (centi x0 y0 x1 y1 : ℕ) → centi ≤ 1000 → x0 ≤ 300000000000 → y0 ≤ 300000000000 → x1 ≤ 300000000000 → y1 ≤ 300000000000
    → IsExtentLow (extent_of centi x0 y0 x1 y1)
extent-low centi x0 y0 x1 y1 small x0_few y0_few x1_few y1_few =
    record { x0 = in-low x0 centi x0_few small; y0 = in-low y0 centi y0_few small; x1 = in-low x1 centi x1_few small; y1 = in-low y1 centi y1_few small }

outline-low : (r : RuleValues) (kind : CellKind) → ValidRules r → IsKind kind → IsShapeLow (outline_shape r kind)
unfolding outline_shape
outline-low r kind valid good =
    let wide : kind.columns * r.grid.column ≤ 100000000 * 1000 = mul-le-mul good.few valid.ranges.grid.column.1 in
    extent-low r.grid.centi 0 0 (2 * (kind.columns * r.grid.column)) (2 * kind.height) valid.ranges.grid.centi.1 (omega arith) (omega arith) (omega arith) (omega arith)

position-low : (r : RuleValues) (height : ℕ) (kind : CellKind) (p : Position) → ValidRules r → height ≤ 200000000 → IsKind kind → IsPosition kind p
    → IsShapeLow (position_shape r height p)
unfolding position_shape
position-low r height kind p valid low good at =
    let few : p.column ≤ 100000000 = (let below = at.column in let columns = good.few in omega arith) in
    let middle : p.column * r.grid.column ≤ 100000000 * 1000 = mul-le-mul few valid.ranges.grid.column.1 in
    let pitch : r.grid.column ≤ 1000 = valid.ranges.grid.column.1 in
    let width : r.vertical.width ≤ 1000 = valid.ranges.vertical.width.1 in
    let pin : r.grid.pin ≤ 1000 = valid.ranges.grid.pin.1 in
    extent-low r.grid.centi (middle_of r.grid.column p.column - r.vertical.width) (pin_low r.grid.pin height p.top)
    (middle_of r.grid.column p.column + r.vertical.width) (pin_high r.grid.pin height p.top) valid.ranges.grid.centi.1
    (omega arith) (low-end p.top) (omega arith) (high-end p.top pin)
  where
    low-end : (top : Bool) → pin_low r.grid.pin height top ≤ 300000000000
    low-end true = omega arith
    low-end false = omega arith

    high-end : (top : Bool) → r.grid.pin ≤ 1000 → pin_high r.grid.pin height top ≤ 300000000000
    high-end true pin = omega arith
    high-end false pin = omega arith

-- the drawing of a kind
pub drawing-low : (r : RuleValues) (kind : CellKind) → ValidRules r → IsKind kind → All IsShapeLow (drawing_of r kind)
drawing-low r kind valid good =
    All-cons IsShapeLow (outline_shape r kind) (map (position_shape r kind.height) kind.positions) (outline-low r kind valid good)
    (All-map IsShapeLow (position_shape r kind.height) kind.positions
    (All-weaker (IsPosition kind) (λ (p : Position). IsShapeLow (position_shape r kind.height p)) (λ p at. position-low r kind.height kind p valid good.low good at) kind.positions good.positions))

reach : (z : ℤ) → IsLow z → IsInReach z
reach z low = record { low = omega (arith, ints, low.low); high = omega (arith, ints, low.high) }

shape-reach : (s : Shape) → IsShapeLow s → IsShapeInReach s
shape-reach s low = record { x0 = reach _ low.x0; y0 = reach _ low.y0; x1 = reach _ low.x1; y1 = reach _ low.y1 }

drawing-reach : (r : RuleValues) (kind : CellKind) → ValidRules r → IsKind kind → All IsShapeInReach (drawing_of r kind)
drawing-reach r kind valid good = All-weaker IsShapeLow IsShapeInReach shape-reach (drawing_of r kind) (drawing-low r kind valid good)

-- the drawings of all kinds
pub drawings-reach : (r : RuleValues) (d : Netlist) → ValidRules r → IsNetlist d → AreForKinds d (drawings_of r d)
drawings-reach r d valid good = record {
  each = length-map d.kinds (drawing_of r);
  reach = All-map (λ (drawing : List Shape). All IsShapeInReach drawing) (drawing_of r) d.kinds
      (All-weaker IsKind (λ (kind : CellKind). All IsShapeInReach (drawing_of r kind)) (λ kind is. drawing-reach r kind valid is) d.kinds good.kinds);
}
