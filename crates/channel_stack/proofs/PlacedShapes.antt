use Rattle.row_model.specs.declared.rows.Seat as seats
use Rattle.std.proofs.Common.{◌≡◌, refl, ap, sym, ◌∙◌, subst, ℕ, ◌+◌, ◌*◌, ◌-◌, ◌<◌, ◌≤◌, List, [], ◌∷◌, map, Bool, true, false, Some, All, arith}
use Rattle.std.proofs.Math.Nat.{add-mul}
use Rattle.std.proofs.lemmas.List.Elements.{All-head, All-tail}
use Rattle.std.specs.Prelude.{ℤ, if◌then◌else◌}
use Rattle.geom_core.specs.Extent.{Extent}
use Rattle.geom_core.specs.Turning.{moved}
use Rattle.geom_core.specs.declared.layout.Shape.{Shape}
use Rattle.tech_rules.specs.Rules.{RuleValues, ValidRules}
use Rattle.design_model.specs.Drawing.{extent_of, middle_of, pin_low, pin_high, outline_shape, position_shape, drawing_of}
use Rattle.design_model.specs.Netlist.{Netlist}
use Rattle.design_model.specs.declared.design.CellKind.{CellKind}
use Rattle.design_model.specs.declared.design.Position.{Position}
use Rattle.geom_core.specs.Moving.{moved_shape, turn_at}
use Rattle.row_model.specs.Stands.{turned_column, positions_in}
use Rattle.row_model.specs.Widths.{kind_of, columns_of, width_of, cell_height, height_of}
use Rattle.feed_cells.specs.declared.fed.Item.TheVariants.{Cell, Feed}
use Rattle.layout_laws.proofs.Seats.{Upright}
use Rattle.layout_laws.proofs.Uprights.{upright_rect}
use Rattle.wire_geom.specs.declared.drawn.Drawn.{Drawn}
use Rattle.channel_stack.specs.Stack.{corner_column, place_at, item_place}
use Rattle.channel_stack.specs.Layouts.{feed_outline, feed_wire, feed_drawing}
use Rattle.channel_stack.proofs.Planned.{feed_upright, item_drawn, outline_drawn, upright_drawn, upright_of}
use Rattle.std_laws.proofs.Integers.{scaled-sum, scaled-difference}

-- rectangles with the same sides are one
extent-same : (a b c d a' b' c' d' : ℤ) → a ≡ a' → b ≡ b' → c ≡ c' → d ≡ d'
    → ◌≡◌ {A = Extent} (record { x0 = a; y0 = b; x1 = c; y1 = d }) (record { x0 = a'; y0 = b'; x1 = c'; y1 = d' })
extent-same a b c d a' b' c' d' ea eb ec ed = cc

-- a rectangle at an upright place
upright-moved : (r : RuleValues) (base column x0 y0 x1 y1 a0 b0 a1 b1 : ℕ) → x0 + 2 * (column * r.grid.column) ≡ a0 → y0 + 2 * base ≡ b0
    → x1 + 2 * (column * r.grid.column) ≡ a1 → y1 + 2 * base ≡ b1
    → moved (turn_at (place_at r base false column)) (extent_of r.grid.centi x0 y0 x1 y1) ≡ extent_of r.grid.centi a0 b0 a1 b1
upright-moved r base column x0 y0 x1 y1 a0 b0 a1 b1 left low right high =
    extent-same _ _ _ _ _ _ _ _
    (scaled-sum x0 (2 * (column * r.grid.column)) a0 r.grid.centi left) (scaled-sum y0 (2 * base) b0 r.grid.centi low)
    (scaled-sum x1 (2 * (column * r.grid.column)) a1 r.grid.centi right) (scaled-sum y1 (2 * base) b1 r.grid.centi high)

-- a rectangle at a mirrored place
mirrored-moved : (r : RuleValues) (base column x0 y0 x1 y1 a0 b0 a1 b1 : ℕ) → a0 + x1 ≡ 2 * (column * r.grid.column) → y0 + 2 * base ≡ b0
    → a1 + x0 ≡ 2 * (column * r.grid.column) → y1 + 2 * base ≡ b1
    → moved (turn_at (place_at r base true column)) (extent_of r.grid.centi x0 y0 x1 y1) ≡ extent_of r.grid.centi a0 b0 a1 b1
mirrored-moved r base column x0 y0 x1 y1 a0 b0 a1 b1 left low right high =
    extent-same _ _ _ _ _ _ _ _
    (scaled-difference x1 (2 * (column * r.grid.column)) a0 r.grid.centi left) (scaled-sum y0 (2 * base) b0 r.grid.centi low)
    (scaled-difference x0 (2 * (column * r.grid.column)) a1 r.grid.centi right) (scaled-sum y1 (2 * base) b1 r.grid.centi high)

-- the rectangle of a pin in this column of its cell
abbrev pin_rect : RuleValues → ℕ → ℕ → Bool → Extent
pin_rect r height column top = extent_of r.grid.centi
    (middle_of r.grid.column column - r.vertical.width) (pin_low r.grid.pin height top)
    (middle_of r.grid.column column + r.vertical.width) (pin_high r.grid.pin height top)

module _ (r : RuleValues) (valid : ValidRules r) (height : ℕ) (high : r.grid.pin ≤ height) where
  -- the upright of a pin on an edge
  abbrev pin_upright : Bool → Upright
  pin_upright top = record { column = 0; low = if top then height - r.grid.pin else 0; high = if top then height else r.grid.pin; net = 0 }

  -- a vertical wire is not wider than a column
  narrow : r.vertical.width ≤ r.grid.column
  narrow = let a = valid.pad_vertical in let b = valid.column_vertical in omega arith

  -- a pin stands in its column of the row
  pin-moved : (base left columns column : ℕ) (mirror top : Bool) → column < columns
      → moved (turn_at (place_at r base mirror (corner_column mirror left columns))) (pin_rect r height column top)
      ≡ upright_rect r base (pin_upright top) (left + turned_column mirror columns column)
  pin-moved base left columns column false true within =
      let parts : (left + column) * r.grid.column ≡ left * r.grid.column + column * r.grid.column = add-mul left column r.grid.column in
      let room : r.vertical.width ≤ r.grid.column = narrow in
      upright-moved r base left _ _ _ _ _ _ _ _ (omega arith) (omega arith) (omega arith) (omega arith)
  pin-moved base left columns column false false within =
      let parts : (left + column) * r.grid.column ≡ left * r.grid.column + column * r.grid.column = add-mul left column r.grid.column in
      let room : r.vertical.width ≤ r.grid.column = narrow in
      upright-moved r base left _ _ _ _ _ _ _ _ (omega arith) (omega arith) (omega arith) (omega arith)
  pin-moved base left columns column true true within =
      let other : ℕ = columns - 1 - column in
      let all : (left + columns) * r.grid.column ≡ (left + other) * r.grid.column + (1 + column) * r.grid.column =
      ap (λ (n : ℕ). n * r.grid.column) (omega arith) ∙ add-mul (left + other) (1 + column) r.grid.column in
      let last : (1 + column) * r.grid.column ≡ 1 * r.grid.column + column * r.grid.column = add-mul 1 column r.grid.column in
      let room : r.vertical.width ≤ r.grid.column = narrow in
      mirrored-moved r base (left + columns) _ _ _ _ _ _ _ _ (omega arith) (omega arith) (omega arith) (omega arith)
  pin-moved base left columns column true false within =
      let other : ℕ = columns - 1 - column in
      let all : (left + columns) * r.grid.column ≡ (left + other) * r.grid.column + (1 + column) * r.grid.column =
      ap (λ (n : ℕ). n * r.grid.column) (omega arith) ∙ add-mul (left + other) (1 + column) r.grid.column in
      let last : (1 + column) * r.grid.column ≡ 1 * r.grid.column + column * r.grid.column = add-mul 1 column r.grid.column in
      let room : r.vertical.width ≤ r.grid.column = narrow in
      mirrored-moved r base (left + columns) _ _ _ _ _ _ _ _ (omega arith) (omega arith) (omega arith) (omega arith)

  -- a cell's outline lies between the cell's columns of the row
  outline-moved : (base left columns : ℕ) (mirror : Bool)
      → moved (turn_at (place_at r base mirror (corner_column mirror left columns))) (extent_of r.grid.centi 0 0 (2 * (columns * r.grid.column)) (2 * height))
      ≡ (outline_drawn r base height left (left + columns)).shape.rect
  outline-moved base left columns false =
      let parts : (left + columns) * r.grid.column ≡ left * r.grid.column + columns * r.grid.column = add-mul left columns r.grid.column in
      upright-moved r base left _ _ _ _ _ _ _ _ (omega arith) (omega arith) (omega arith) (omega arith)
  outline-moved base left columns true =
      let parts : (left + columns) * r.grid.column ≡ left * r.grid.column + columns * r.grid.column = add-mul left columns r.grid.column in
      mirrored-moved r base (left + columns) _ _ _ _ _ _ _ _ (omega arith) (omega arith) (omega arith) (omega arith)

module _ (r : RuleValues) (valid : ValidRules r) (d : Netlist) (s : seats.Seat) (high : r.grid.pin ≤ cell_height d s.instance) where
  -- the drawings of a cell's positions are its uprights
  pins-drawn : (base left : ℕ) (ps : List Position) → All (λ (p : Position). p.column < columns_of d s.instance) ps
      → map (moved_shape (turn_at (place_at r base s.mirror (corner_column s.mirror left (columns_of d s.instance))))) (map (position_shape r (cell_height d s.instance)) ps)
      ≡ map (λ (a : Drawn). a.shape) (map (upright_drawn r base left) (map (upright_of r d s) ps))
  unfolding position_shape
  pins-drawn base left [] all = refl
  pins-drawn base left (p ∷ ps) all =
      let width : ℕ = columns_of d s.instance in
      let height : ℕ = cell_height d s.instance in
      let here = pin-moved r valid height high base left width p.column s.mirror p.top (All-head (λ (q : Position). q.column < width) p ps all) in
      let more = pins-drawn base left ps (All-tail (λ (q : Position). q.column < width) p ps all) in
      ap (λ (e : Extent). record { layer = r.vertical.layer; rect = e }
      ∷ map (moved_shape (turn_at (place_at r base s.mirror (corner_column s.mirror left width)))) (map (position_shape r height) ps)) here
      ∙ ap (λ (l : List Shape). record { layer = r.vertical.layer; rect = upright_rect r base (pin_upright r valid height high p.top) (left + turned_column s.mirror width p.column) } ∷ l) more

  -- the drawing of a kind, copied to a cell's place, is that of the cell
  pub cell-drawn : (kind : CellKind) (base row left : ℕ) → kind_of d s.instance ≡ Some kind → All (λ (p : Position). p.column < kind.columns) kind.positions
      → map (moved_shape (turn_at (item_place r d base left (Cell s)))) (drawing_of r kind)
      ≡ map (λ (a : Drawn). a.shape) (item_drawn r d base row left (Cell s))
  unfolding outline_shape
  cell-drawn kind base row left is within =
      let width : columns_of d s.instance ≡ kind.columns = ap width_of is in
      let level : cell_height d s.instance ≡ kind.height = ap height_of is in
      let place = turn_at (item_place r d base left (Cell s)) in
      let outline =
      ap (λ (n : ℕ). moved place (extent_of r.grid.centi 0 0 (2 * (n * r.grid.column)) (2 * kind.height))) (sym width)
      ∙ ap (λ (h : ℕ). moved place (extent_of r.grid.centi 0 0 (2 * (columns_of d s.instance * r.grid.column)) (2 * h))) (sym level)
      ∙ outline-moved r valid (cell_height d s.instance) high base left (columns_of d s.instance) s.mirror in
      let pins = pins-drawn base left kind.positions (subst (λ (n : ℕ). All (λ (p : Position). p.column < n) kind.positions) (sym width) within) in
      ap (λ (e : Extent). record { layer = r.outline.layer; rect = e } ∷ map (moved_shape place) (map (position_shape r kind.height) kind.positions)) outline
      ∙ ap (λ (l : List Shape). (outline_drawn r base (cell_height d s.instance) left (left + columns_of d s.instance)).shape ∷ l)
      (ap (λ (h : ℕ). map (moved_shape place) (map (position_shape r h) kind.positions)) (sym level) ∙ pins)
      ∙ ap (λ (ps : List Position). (outline_drawn r base (cell_height d s.instance) left (left + columns_of d s.instance)).shape
      ∷ map (λ (a : Drawn). a.shape) (map (upright_drawn r base left) (map (upright_of r d s) ps))) (sym (ap positions_in is))

-- the drawing of a feed, copied to its place, is that of the feed
pub feed-drawn : (r : RuleValues) → ValidRules r → (d : Netlist) (height net base left : ℕ)
    → map (moved_shape (turn_at (item_place r d base left (Feed net)))) (feed_drawing r height)
    ≡ map (λ (a : Drawn). a.shape) (item_drawn r d base height left (Feed net))
unfolding feed_drawing
feed-drawn r valid d height net base left =
    let next : (left + 1) * r.grid.column ≡ left * r.grid.column + 1 * r.grid.column = add-mul left 1 r.grid.column in
    let same : (left + 0) * r.grid.column ≡ left * r.grid.column = ap (λ (n : ℕ). n * r.grid.column) (omega arith) in
    let room : r.vertical.width ≤ r.grid.column = (let a = valid.pad_vertical in let b = valid.column_vertical in omega arith) in
    let place = turn_at (item_place r d base left (Feed net)) in
    let outline : moved place (feed_outline r height).rect ≡ (outline_drawn r base height left (left + 1)).shape.rect =
    upright-moved r base left _ _ _ _ _ _ _ _ (omega arith) (omega arith) (omega arith) (omega arith) in
    let wire : moved place (feed_wire r height).rect ≡ upright_rect r base (feed_upright height net) (left + 0) =
    upright-moved r base left _ _ _ _ _ _ _ _ (omega arith) (omega arith) (omega arith) (omega arith) in
    ap (λ (e : Extent). record { layer = r.outline.layer; rect = e } ∷ (moved_shape place (feed_wire r height) ∷ [])) outline
    ∙ ap (λ (e : Extent). (outline_drawn r base height left (left + 1)).shape ∷ (record { layer = r.vertical.layer; rect = e } ∷ [])) wire
