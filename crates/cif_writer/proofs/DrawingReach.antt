use Rattle.std.proofs.Common.{ℕ, pos, ◌+◌, ◌*◌, ◌-◌, ◌≤◌, List, [], ◌∷◌, map, Bool, true, false, arith}
use Rattle.std.proofs.Math.Nat.{mul-le-mul}
use Rattle.std.proofs.lemmas.Int.{ints}
use Rattle.std.proofs.lemmas.List.Elements.{recursion_from_All}
use Rattle.std.specs.List.{AllByRecursion}
use Rattle.tech_rules.specs.Rules.{RuleValues, ValidRules}
use Rattle.design_model.specs.Drawing.{drawing_of, outline_shape, position_shape, middle_of, pin_low, pin_high}
use Rattle.design_model.specs.Netlist.{IsKind, IsPosition}
use Rattle.design_model.specs.declared.design.CellKind.{CellKind}
use Rattle.design_model.specs.declared.design.Position.{Position}
use Rattle.geom_core.specs.Reach.{IsInReach, IsShapeInReach}

-- half units within 10^12, in half centimicrons
pub scaled-in-reach : (x centi : ℕ) → x ≤ 1000000000000 → centi ≤ 1000 → IsInReach (pos (x * centi))
scaled-in-reach x centi near fine =
    let product : x * centi ≤ 1000000000000 * 1000 = mul-le-mul near fine in
    record { low = omega (arith, ints); high = omega (arith, ints) }

-- a column of a kind lies within 10^11 units
column-near : (column columns pitch : ℕ) → column ≤ columns → columns ≤ 100000000 → pitch ≤ 1000 → column * pitch ≤ 100000000000
column-near column columns pitch within few fine =
    let near : column ≤ 100000000 = omega arith in
    let product : column * pitch ≤ 100000000 * 1000 = mul-le-mul near fine in omega arith

module _ (r : RuleValues) (k : CellKind) (valid : ValidRules r) (is : IsKind k) where
  outline-in-reach : IsShapeInReach (outline_shape r k)
  unfolding outline_shape
  outline-in-reach =
      let columns : k.columns * r.grid.column ≤ 100000000000 = column-near k.columns k.columns r.grid.column (omega arith) is.few valid.ranges.grid.column.1 in
      let fine : r.grid.centi ≤ 1000 = valid.ranges.grid.centi.1 in
      record {
        x0 = scaled-in-reach 0 r.grid.centi (omega arith) fine;
        y0 = scaled-in-reach 0 r.grid.centi (omega arith) fine;
        x1 = scaled-in-reach (2 * (k.columns * r.grid.column)) r.grid.centi (omega arith) fine;
        y1 = scaled-in-reach (2 * k.height) r.grid.centi (omega (arith, is.low)) fine;
      }

  pin_low-near : (top : Bool) → pin_low r.grid.pin k.height top ≤ 1000000000000
  pin_low-near true = omega (arith, is.low)
  pin_low-near false = omega arith

  pin_high-near : (top : Bool) → pin_high r.grid.pin k.height top ≤ 1000000000000
  pin_high-near true = omega (arith, is.low)
  pin_high-near false = let pin : r.grid.pin ≤ 1000 = valid.ranges.grid.pin.1 in omega arith

  position-in-reach : (p : Position) → IsPosition k p → IsShapeInReach (position_shape r k.height p)
  unfolding position_shape
  position-in-reach p at =
      let within : p.column ≤ k.columns = omega (arith, at.column) in
      let pitch : r.grid.column ≤ 1000 = valid.ranges.grid.column.1 in
      let columns : p.column * r.grid.column ≤ 100000000000 = column-near p.column k.columns r.grid.column within is.few pitch in
      let wide : r.vertical.width ≤ 1000 = valid.ranges.vertical.width.1 in
      let fine : r.grid.centi ≤ 1000 = valid.ranges.grid.centi.1 in
      record {
        x0 = scaled-in-reach (middle_of r.grid.column p.column - r.vertical.width) r.grid.centi (omega arith) fine;
        y0 = scaled-in-reach (pin_low r.grid.pin k.height p.top) r.grid.centi (pin_low-near p.top) fine;
        x1 = scaled-in-reach (middle_of r.grid.column p.column + r.vertical.width) r.grid.centi (omega arith) fine;
        y1 = scaled-in-reach (pin_high r.grid.pin k.height p.top) r.grid.centi (pin_high-near p.top) fine;
      }

  positions-in-reach : (ps : List Position) → AllByRecursion (IsPosition k) ps → AllByRecursion IsShapeInReach (map (position_shape r k.height) ps)
  positions-in-reach [] all = tt
  positions-in-reach (p ∷ ps) all = (position-in-reach p all.0, positions-in-reach ps all.1)

  -- a kind's drawing lies within reach
  pub drawing-in-reach : AllByRecursion IsShapeInReach (drawing_of r k)
  drawing-in-reach = (outline-in-reach, positions-in-reach k.positions (recursion_from_All (IsPosition k) k.positions is.positions))
