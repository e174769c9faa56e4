use Rattle.std.proofs.Common.{ℕ, ◌+◌, ◌*◌, ◌<◌, ◌≤◌, List, [], ◌∷◌, All, arith}
use Rattle.std.proofs.lemmas.Int.{ints}
use Rattle.std.proofs.lemmas.List.Elements.{recursion_from_All}
use Rattle.std.proofs.Math.Nat.{mul-le-mul_right}
use Rattle.std.specs.List.{AllByRecursion, flat_map}
use Rattle.std.specs.Prelude.{◌≡◌, true, pos}
use Rattle.tech_rules.specs.Rules.{RuleValues, ValidRules, pad}
use Rattle.geom_core.specs.LayerText.{is_layer_text}
use Rattle.geom_core.specs.Reach.{IsInReach, IsShapeInReach}
use Rattle.channel_model.specs.Elements.{Element, segment, via, elements}
use Rattle.channel_model.specs.Wired.{IsOnGrid}
use Rattle.channel_model.specs.declared.wiring.Segment.TheVariants.{Across, Along}
use Rattle.channel_model.specs.declared.wiring.Via.{Via}
use Rattle.channel_model.specs.declared.wiring.Wiring.{Wiring}
use Rattle.wire_geom.specs.Boxes.{Box, across_box, along_box, square_box}
use Rattle.wire_geom.specs.Drawing.{Mask, on_horizontal, on_vertical, on_cut, name_of, Piece, pieces_of, drawn_of, drawn_by, drawing}
use Rattle.wire_geom.specs.Grid.{centre, line_at}
use Rattle.wire_geom.specs.declared.drawn.Drawn.{Drawn}
use Rattle.wire_geom.proofs.EndLaws.{LowerFacts, UpperFacts, lower_facts, upper_facts}
use Rattle.wire_geom.proofs.GridLaws.{centre-order, line-step}
use Rattle.cif_text.proofs.WrittenLayout.{IsShape}
use Rattle.cif_writer.proofs.WholeBoxes.{box-whole, halves-near}
use Rattle.std_laws.proofs.Every.{every-append, every-map, every-weaker}

-- a box with sides, whose upper right corner lies within a width and a height in half units
pub record IsWithin (width height : ℕ) (b : Box) : Type 0 where
  pub some_across : b.x0 < b.x1
  pub some_up : b.y0 < b.y1
  pub right : b.x1 ≤ width
  pub top : b.y1 ≤ height

-- the middle of a column keeps half a column from the last one's right edge
pub centre-within : (r : RuleValues) (columns column : ℕ) → column < columns → centre r column + r.grid.column ≤ 2 * (columns * r.grid.column)
centre-within r columns column inside =
    let next : column + 1 ≤ columns = omega arith in
    let product : (column + 1) * r.grid.column ≤ columns * r.grid.column = mul-le-mul_right r.grid.column next in
    omega arith

module _ (r : RuleValues) (valid : ValidRules r) (base columns tracks : ℕ) where
  abbrev Fits : Box → Type 0
  Fits b = IsWithin (2 * (columns * r.grid.column)) (line_at r base (tracks + 1)) b

  across-fits : (net column low high : ℕ) → IsOnGrid columns tracks (segment (Across net column low high)) → Fits (across_box r base tracks column low high)
  across-fits net column low high grid =
      let l : LowerFacts r base low = lower_facts r valid base low in
      let u : UpperFacts r base tracks high = upper_facts r valid base tracks high grid.2 in
      let some : 1 ≤ r.vertical.width = valid.ranges.vertical.width.0 in
      let narrow : r.vertical.width ≤ pad r = valid.pad_vertical in
      let room : pad r + r.vertical.space ≤ r.grid.column = valid.column_vertical in
      let pitch : 2 ≤ r.grid.track = valid.ranges.grid.track.0 in
      let long : line_at r base low + 2 * r.grid.track ≤ line_at r base high = line-step r base low high grid.1 in
      let inside : centre r column + r.grid.column ≤ 2 * (columns * r.grid.column) = centre-within r columns column grid.0 in
      record { some_across = omega arith; some_up = omega (arith, l.holds, u.holds); right = omega arith; top = u.to }

  along-fits : (net track from to : ℕ) → IsOnGrid columns tracks (segment (Along net track from to)) → Fits (along_box r base track from to)
  along-fits net track from to grid =
      let some : 1 ≤ r.horizontal.width = valid.ranges.horizontal.width.0 in
      let narrow : r.horizontal.width ≤ pad r = valid.pad_horizontal in
      let room : pad r + r.horizontal.space ≤ r.grid.column = valid.column_horizontal in
      let pitch : pad r + r.horizontal.space ≤ r.grid.track = valid.track_horizontal in
      let order : centre r from ≤ centre r to = centre-order r from to grid.2 in
      let floor : line_at r base 0 + 2 * r.grid.track ≤ line_at r base track = line-step r base 0 track grid.0 in
      let ceiling : line_at r base track + 2 * r.grid.track ≤ line_at r base (tracks + 1) = line-step r base track (tracks + 1) (omega (arith, grid.1)) in
      let inside : centre r to + r.grid.column ≤ 2 * (columns * r.grid.column) = centre-within r columns to grid.3 in
      record { some_across = omega arith; some_up = omega arith; right = omega arith; top = omega arith }

  square-fits : (v : Via) (size : ℕ) → 1 ≤ size → size ≤ pad r → IsOnGrid columns tracks (via v) → Fits (square_box r base size v.column v.track)
  square-fits v size some small grid =
      let room : pad r + r.vertical.space ≤ r.grid.column = valid.column_vertical in
      let pitch : pad r + r.vertical.space ≤ r.grid.track = valid.track_vertical in
      let floor : line_at r base 0 + 2 * r.grid.track ≤ line_at r base v.track = line-step r base 0 v.track grid.1 in
      let ceiling : line_at r base v.track + 2 * r.grid.track ≤ line_at r base (tracks + 1) = line-step r base v.track (tracks + 1) (omega (arith, grid.2)) in
      let inside : centre r v.column + r.grid.column ≤ 2 * (columns * r.grid.column) = centre-within r columns v.column grid.0 in
      record { some_across = omega arith; some_up = omega arith; right = omega arith; top = omega arith }

  -- each piece of an element on the grid lies in the columns, below the channel's upper edge
  pub pieces-fit : (e : Element) → IsOnGrid columns tracks e → AllByRecursion (λ (p : Piece). Fits p.box) (pieces_of r base tracks e)
  pieces-fit (segment (Across net column low high)) grid = (across-fits net column low high grid, tt)
  pieces-fit (segment (Along net track from to)) grid = (along-fits net track from to grid, tt)
  pieces-fit (via v) grid =
      let cut : 1 ≤ r.cut.size = valid.ranges.cut.size.0 in
      let whole : Fits (square_box r base (pad r) v.column v.track) = square-fits v (pad r) (omega arith) (omega arith) grid in
      (whole, (whole, (square-fits v r.cut.size cut (omega arith) grid, tt)))

-- the layer of a rectangle of a wiring is a layer's text
mask-text : (r : RuleValues) → ValidRules r → (mask : Mask) → is_layer_text (name_of r mask) ≡ true
mask-text r valid on_horizontal = valid.ranges.horizontal.layer
mask-text r valid on_vertical = valid.ranges.vertical.layer
mask-text r valid on_cut = valid.ranges.cut.layer

-- a number of up to 10^12 is in reach
pub reach-of : (n : ℕ) → n ≤ 1000000000000 → IsInReach (pos n)
reach-of n small = record { low = omega (arith, ints); high = omega (arith, ints) }

-- a rectangle that can be written, and whose sides are in reach
pub record IsWire (d : Drawn) : Type 0 where
  pub written : IsShape d.shape
  pub reach : IsShapeInReach d.shape

module _ (r : RuleValues) (valid : ValidRules r) (wide high : ℕ)
    (across : wide * r.grid.column * r.grid.centi ≤ 1000000000) (up : high * r.grid.centi ≤ 1000000000) where
  -- a piece within such a width and height can be written
  pub piece-is : (columns top : ℕ) (p : Piece) → columns ≤ wide → top ≤ high → IsWithin (2 * (columns * r.grid.column)) (2 * top) p.box → IsWire (drawn_of r p)
  piece-is columns top p narrow low fits =
      let inside : columns * r.grid.column ≤ wide * r.grid.column = mul-le-mul_right r.grid.column narrow in
      let right : p.box.x1 * r.grid.centi ≤ 1000000000000 =
      halves-near (wide * r.grid.column) r.grid.centi p.box.x1 across (omega (arith, fits.right)) in
      let above : p.box.y1 * r.grid.centi ≤ 1000000000000 = halves-near high r.grid.centi p.box.y1 up (omega (arith, fits.top)) in
      let left : p.box.x0 * r.grid.centi ≤ p.box.x1 * r.grid.centi = mul-le-mul_right r.grid.centi (omega (arith, fits.some_across)) in
      let below : p.box.y0 * r.grid.centi ≤ p.box.y1 * r.grid.centi = mul-le-mul_right r.grid.centi (omega (arith, fits.some_up)) in
      record {
        written = record {
          layer = mask-text r valid p.mask;
          box = box-whole r.grid.centi p.box.x0 p.box.y0 p.box.x1 p.box.y1 valid.whole_centi valid.ranges.grid.centi.0 fits.some_across fits.some_up right above;
        };
        reach = record {
          x0 = reach-of (p.box.x0 * r.grid.centi) (omega arith);
          y0 = reach-of (p.box.y0 * r.grid.centi) (omega arith);
          x1 = reach-of (p.box.x1 * r.grid.centi) right;
          y1 = reach-of (p.box.y1 * r.grid.centi) above;
        };
      }

  element-is : (base columns tracks : ℕ) → columns ≤ wide → base + (tracks + 1) * r.grid.track ≤ high → (e : Element) → IsOnGrid columns tracks e
      → AllByRecursion IsWire (drawn_by r base tracks e)
  element-is base columns tracks narrow low e grid =
      every-map IsWire (drawn_of r) (pieces_of r base tracks e)
      (every-weaker
      (λ (p : Piece). IsWithin (2 * (columns * r.grid.column)) (line_at r base (tracks + 1)) p.box)
      (λ (p : Piece). IsWire (drawn_of r p))
      (λ (p : Piece). λ fits. piece-is columns (base + (tracks + 1) * r.grid.track) p narrow low fits)
      (pieces_of r base tracks e)
      (pieces-fit r valid base columns tracks e grid))

  elements-are : (base columns tracks : ℕ) → columns ≤ wide → base + (tracks + 1) * r.grid.track ≤ high
      → (es : List Element) → AllByRecursion (IsOnGrid columns tracks) es → AllByRecursion IsWire (flat_map (drawn_by r base tracks) es)
  elements-are base columns tracks narrow low [] grid = tt
  elements-are base columns tracks narrow low (e ∷ es) grid =
      every-append IsWire (drawn_by r base tracks e) (flat_map (drawn_by r base tracks) es)
      (element-is base columns tracks narrow low e grid.0) (elements-are base columns tracks narrow low es grid.1)

  -- the rectangles of a wiring on its grid can be written
  pub drawing-is : (base : ℕ) (w : Wiring) → w.columns ≤ wide → base + (w.tracks + 1) * r.grid.track ≤ high
      → All (IsOnGrid w.columns w.tracks) (elements w) → AllByRecursion IsWire (drawing r base w)
  drawing-is base w narrow low grid =
      elements-are base w.columns w.tracks narrow low (elements w) (recursion_from_All (IsOnGrid w.columns w.tracks) (elements w) grid)
