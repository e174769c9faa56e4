use Rattle.std.proofs.Common.{◌≡◌, ℕ, ◌+◌, ◌-◌, ◌*◌, ◌<◌, ◌≤◌, List, [], ◌∷◌, length, map, Bool, true, false, add-mul, arith}
use Rattle.std.proofs.Math.Nat.{mul-le-mul, mul-le-mul_right}
use Rattle.std.proofs.lemmas.Bool.Decides.{nat_tests}
use Rattle.std.proofs.lemmas.List.Elements.{recursion_from_All}
use Rattle.std.specs.List.{AllByRecursion, list_all}
use Rattle.std.specs.Prelude.{nat_le}
use Rattle.tech_rules.specs.Rules.{RuleValues, ValidRules, pad}
use Rattle.geom_core.specs.Names.{IsName, is_name_byte}
use Rattle.design_model.specs.Drawing.{outline_shape, position_shape, middle_of, pin_low, pin_high}
use Rattle.design_model.specs.Netlist.{IsKind, IsPosition}
use Rattle.design_model.specs.declared.design.CellKind.{CellKind}
use Rattle.design_model.specs.declared.design.Position.{Position}
use Rattle.design_model.specs.Room.{least_height}
use Rattle.cif_text.proofs.PrintableTexts.{IsNameText}
use Rattle.cif_text.proofs.WrittenLayout.{IsShape, IsDrawn}
use Rattle.cif_text.proofs.TextLemmas.{name-shown}
use Rattle.channel_stack.specs.Layouts.{feed_outline, feed_wire, feed_drawing}
use Rattle.cif_writer.specs.Symbols.{symbol_for, feed_symbol}
use Rattle.cif_writer.proofs.WholeBoxes.{box-whole, halves-near}
use Rattle.std.proofs.lemmas.Bool.{and_parts}

-- a word of YAL can be a name
pub name-is : (text : List ℕ) → IsName text → IsNameText text
name-is text named =
    let parts : (nat_le 1 (length text) ≡ true) × (list_all is_name_byte text ≡ true) =
    and_parts (nat_le 1 (length text)) (list_all is_name_byte text) named in
    let test : nat_le 1 (length text) ≡ true = parts.0 in
    let some : 1 ≤ length text = grind (arith, nat_tests) in
    name-shown text some parts.1

-- a column ends within the columns
column-inside : (column columns pitch : ℕ) → column < columns → column * pitch + 1 * pitch ≤ columns * pitch
column-inside column columns pitch inside =
    let next : column + 1 ≤ columns = omega arith in
    let product : (column + 1) * pitch ≤ columns * pitch = mul-le-mul_right pitch next in
    let parted : (column + 1) * pitch ≡ column * pitch + 1 * pitch = add-mul column 1 pitch in
    omega arith

-- a pin in the middle of a column that ends within the columns ends there too
pin-within : (product columns pitch width wide : ℕ) → product + 1 * pitch ≤ columns → columns ≤ wide → width ≤ pitch → (2 * product + pitch) + width ≤ 2 * wide
pin-within product columns pitch width wide inside within narrow = omega arith

-- a pin's lower end is below its upper one, and that within the height
pin-rises : (pin space height : ℕ) (top : Bool) → 1 ≤ pin → 2 * pin + space ≤ height → pin_low pin height top < pin_high pin height top
pin-rises pin space height true some tall = omega arith
pin-rises pin space height false some tall = omega arith

pin-low-enough : (pin space height : ℕ) (top : Bool) → 2 * pin + space ≤ height → pin_high pin height top ≤ 2 * height
pin-low-enough pin space height true tall = omega arith
pin-low-enough pin space height false tall = omega arith

-- a vertical wire is no wider than a column
pub wire-narrow : (r : RuleValues) → ValidRules r → r.vertical.width ≤ r.grid.column
wire-narrow r valid =
    let first : r.vertical.width ≤ pad r = valid.pad_vertical in
    let second : pad r + r.vertical.space ≤ r.grid.column = valid.column_vertical in
    omega arith

module _ (r : RuleValues) (height wide : ℕ) (valid : ValidRules r)
    (across : wide * r.grid.column * r.grid.centi ≤ 1000000000) (up : height * r.grid.centi ≤ 1000000000) where
  -- the outline of a kind of a design within the limits is a shape that can be written
  outline-is : (k : CellKind) → IsKind k → k.columns ≤ wide → least_height r ≤ k.height → k.height ≤ height → IsShape (outline_shape r k)
  unfolding outline_shape
  outline-is k is within tall low =
      let some : 0 < k.columns = is.some in
      let pitch : 2 ≤ r.grid.column = valid.ranges.grid.column.0 in
      let pin : 1 ≤ r.grid.pin = valid.ranges.grid.pin.0 in
      let positive : 1 * 2 ≤ k.columns * r.grid.column = mul-le-mul some pitch in
      let inside : k.columns * r.grid.column ≤ wide * r.grid.column = mul-le-mul_right r.grid.column within in
      record {
        layer = valid.ranges.outline.layer;
        box = box-whole r.grid.centi 0 0 (2 * (k.columns * r.grid.column)) (2 * k.height) valid.whole_centi valid.ranges.grid.centi.0
            (omega arith) (omega arith)
            (halves-near (wide * r.grid.column) r.grid.centi (2 * (k.columns * r.grid.column)) across (omega arith))
            (halves-near height r.grid.centi (2 * k.height) up (omega (arith, low)));
      }

  -- so is a pin
  position-is : (k : CellKind) (p : Position) → IsPosition k p → k.columns ≤ wide → least_height r ≤ k.height → k.height ≤ height
      → IsShape (position_shape r k.height p)
  unfolding position_shape
  position-is k p at within tall low =
      let narrow : r.vertical.width ≤ r.grid.column = wire-narrow r valid in
      let some : 1 ≤ r.vertical.width = valid.ranges.vertical.width.0 in
      let inside : k.columns * r.grid.column ≤ wide * r.grid.column = mul-le-mul_right r.grid.column within in
      let reach : middle_of r.grid.column p.column + r.vertical.width ≤ 2 * (wide * r.grid.column) =
      pin-within (p.column * r.grid.column) (k.columns * r.grid.column) r.grid.column r.vertical.width (wide * r.grid.column)
      (column-inside p.column k.columns r.grid.column at.column) inside narrow in
      record {
        layer = valid.ranges.vertical.layer;
        box = box-whole r.grid.centi
            (middle_of r.grid.column p.column - r.vertical.width) (pin_low r.grid.pin k.height p.top)
            (middle_of r.grid.column p.column + r.vertical.width) (pin_high r.grid.pin k.height p.top) valid.whole_centi valid.ranges.grid.centi.0
            (omega arith) (pin-rises r.grid.pin r.vertical.space k.height p.top valid.ranges.grid.pin.0 tall)
            (halves-near (wide * r.grid.column) r.grid.centi (middle_of r.grid.column p.column + r.vertical.width) across reach)
            (halves-near height r.grid.centi (pin_high r.grid.pin k.height p.top) up
            (let own = pin-low-enough r.grid.pin r.vertical.space k.height p.top tall in omega (arith, low)));
      }

  positions-are : (k : CellKind) → k.columns ≤ wide → least_height r ≤ k.height → k.height ≤ height
      → (ps : List Position) → AllByRecursion (IsPosition k) ps → AllByRecursion IsShape (map (position_shape r k.height) ps)
  positions-are k within tall low [] all = tt
  positions-are k within tall low (p ∷ ps) all = (position-is k p all.0 within tall low, positions-are k within tall low ps all.1)

  -- so are a kind's symbol, and those of all kinds
  symbol-is : (k : CellKind) → IsKind k → k.columns ≤ wide → least_height r ≤ k.height → k.height ≤ height → IsDrawn (symbol_for r k)
  symbol-is k is within tall low = record {
    name = name-is k.name is.name;
    shapes = (outline-is k is within tall low, positions-are k within tall low k.positions (recursion_from_All (IsPosition k) k.positions is.positions));
  }

  pub kinds-are : (ks : List CellKind) → AllByRecursion (λ (k : CellKind). k.columns ≤ wide) ks → AllByRecursion IsKind ks
      → AllByRecursion (λ (k : CellKind). least_height r ≤ k.height) ks → AllByRecursion (λ (k : CellKind). k.height ≤ height) ks
      → AllByRecursion IsDrawn (map (symbol_for r) ks)
  kinds-are [] within all tall low = tt
  kinds-are (k ∷ ks) within all tall low = (symbol-is k all.0 within.0 tall.0 low.0, kinds-are ks within.1 all.1 tall.1 low.1)

module _ (r : RuleValues) (height : ℕ) (valid : ValidRules r) (up : height * r.grid.centi ≤ 1000000000) where
  -- one column is narrow
  column-near : 1 * r.grid.column * r.grid.centi ≤ 1000000000
  column-near =
      let pitch : 1 * r.grid.column ≤ 1000 = let most : r.grid.column ≤ 1000 = valid.ranges.grid.column.1 in omega arith in
      let fine : r.grid.centi ≤ 1000 = valid.ranges.grid.centi.1 in
      let product : 1 * r.grid.column * r.grid.centi ≤ 1000 * 1000 = mul-le-mul pitch fine in
      omega arith

  -- the shapes of a feed can be written where rows have a height
  feed-outline-is : 0 < height → IsShape (feed_outline r height)
  feed-outline-is tall =
      let pitch : 2 ≤ r.grid.column = valid.ranges.grid.column.0 in
      record {
        layer = valid.ranges.outline.layer;
        box = box-whole r.grid.centi 0 0 (2 * r.grid.column) (2 * height) valid.whole_centi valid.ranges.grid.centi.0
            (omega arith) (omega arith)
            (halves-near (1 * r.grid.column) r.grid.centi (2 * r.grid.column) column-near (omega arith))
            (halves-near height r.grid.centi (2 * height) up (omega arith));
      }

  feed-wire-is : 0 < height → IsShape (feed_wire r height)
  feed-wire-is tall =
      let narrow : r.vertical.width ≤ r.grid.column = wire-narrow r valid in
      let some : 1 ≤ r.vertical.width = valid.ranges.vertical.width.0 in
      record {
        layer = valid.ranges.vertical.layer;
        box = box-whole r.grid.centi (middle_of r.grid.column 0 - r.vertical.width) 0 (middle_of r.grid.column 0 + r.vertical.width) (2 * height)
            valid.whole_centi valid.ranges.grid.centi.0
            (omega arith) (omega arith)
            (halves-near (1 * r.grid.column) r.grid.centi (middle_of r.grid.column 0 + r.vertical.width) column-near (omega arith))
            (halves-near height r.grid.centi (2 * height) up (omega arith));
      }

  feed-is : 0 < height → IsDrawn (feed_symbol r height)
  unfolding feed_drawing
  feed-is tall = record { name = tt; shapes = (feed-outline-is tall, (feed-wire-is tall, tt)) }

-- the symbols of feeds of such heights can be written
pub feeds-are : (r : RuleValues) (heights : List ℕ) → ValidRules r → AllByRecursion (λ (h : ℕ). (0 < h) × (h * r.grid.centi ≤ 1000000000)) heights
    → AllByRecursion IsDrawn (map (feed_symbol r) heights)
feeds-are r [] valid fit = tt
feeds-are r (h ∷ heights) valid fit = (feed-is r h valid fit.0.1 fit.0.0, feeds-are r heights valid fit.1)
