use Rattle.std.proofs.Common.{◌≡◌, ◌≢◌, refl, ap, sym, ◌∙◌, subst, inl, inr, ℕ, zero, suc, ◌+◌, ◌*◌, ◌<◌, ◌≤◌, List, [], ◌∷◌, ◌++◌, length, map, Some, Contains, arith}
use Rattle.std.proofs.Math.Nat.{mul-le-mul_right}
use Rattle.std.proofs.lemmas.Bool.{cases_lt}
use Rattle.std.proofs.lemmas.Int.{ints}
use Rattle.std.proofs.lemmas.Option.{none-some, same_Some, slice_get_within}
use Rattle.std.specs.List.{AllByRecursion}
use Rattle.std.specs.Prelude.{pos, slice_get, unwrap_or, ◌⊎◌, ◌≤ℤ◌}
use Rattle.geom_core.specs.Extent.{Extent}
use Rattle.geom_core.specs.declared.layout.Shape.{Shape}
use Rattle.tech_rules.specs.InRows.{InRows, SameRow, IsBelow}
use Rattle.geom_core.specs.Rectangles.{Apart, left_of, right_of, under, above}
use Rattle.tech_rules.specs.Rules.{RuleValues, ValidRules}
use Rattle.design_model.specs.Netlist.{Netlist, IsNetlist}
use Rattle.design_model.specs.Room.{HasRoom}
use Rattle.channel_model.specs.Elements.{elements}
use Rattle.channel_model.specs.declared.wiring.Wiring.{Wiring}
use Rattle.wire_geom.specs.Drawing.{Mask, on_horizontal, on_vertical, on_cut, name_of, drawn_by, drawn_of, drawing, pieces_of}
use Rattle.wire_geom.specs.Grid.{scaled}
use Rattle.wire_geom.specs.declared.drawn.Drawn.{Drawn}
use Rattle.feed_cells.specs.Fed.{Fed, IsFed, item_width}
use Rattle.feed_cells.specs.declared.fed.Item.{Item}
use Rattle.feed_cells.specs.declared.fed.Item.TheVariants.{Cell, Feed}
use Rattle.layout_laws.specs.Heights.{channel_height}
use Rattle.layout_laws.proofs.Plans.{plan_drawn}
use Rattle.layout_laws.proofs.Seats.{Upright}
use Rattle.channel_stack.proofs.Planned.{height_of_row, item_drawn, item_height, item_wires, outline_drawn, plan_of, risers_at, risers_in, row_drawn, upright_drawn}
use Rattle.channel_stack.proofs.RowHeights.{cell-within}
use Rattle.channel_stack.proofs.LayoutShapes.{full_row, levels, plan-levels, risers-each, stack-shapes, stack_layout}
use Rattle.channel_stack.proofs.RowRisers.{riser-of}
use Rattle.std_laws.proofs.Every.{every-from-get}
use Rattle.std_laws.proofs.Members.{get-contains, map-cases, Contains-flat_map_cases}
use Rattle.std_laws.proofs.Places.{map-get, get-either}

-- a rectangle and a later one: they stand side by side in one row, or the later one lies above
data Follows (a b : Extent) : Type 0 where
  beside : SameRow a b → a.x1 ≤ℤ b.x0 → Follows a b
  over : a.y1 ≤ℤ b.y0 → Follows a b

-- an outline, and where it stands: in a row, from a column on, or no lower than a height
abbrev pub IsOutline : RuleValues → Drawn → Type 0
IsOutline r a = a.shape.layer ≡ r.outline.layer

pub record InRow (r : RuleValues) (base height left : ℕ) (a : Drawn) : Type 0 where
  pub low : a.shape.rect.y0 ≡ scaled r (2 * base)
  pub high : a.shape.rect.y1 ≤ℤ scaled r (2 * (base + height))
  pub from : scaled r (2 * (left * r.grid.column)) ≤ℤ a.shape.rect.x0

abbrev pub AreInRow : RuleValues → ℕ → ℕ → ℕ → List Drawn → Type 0
AreInRow r base height left ds = (i : ℕ) (a : Drawn) → slice_get ds i ≡ Some a → IsOutline r a → InRow r base height left a

abbrev AreAbove : RuleValues → ℕ → List Drawn → Type 0
AreAbove r base ds = (i : ℕ) (a : Drawn) → slice_get ds i ≡ Some a → IsOutline r a → scaled r (2 * base) ≤ℤ a.shape.rect.y0

abbrev pub AreWires : RuleValues → List Drawn → Type 0
AreWires r ds = (i : ℕ) (a : Drawn) → slice_get ds i ≡ Some a → IsOutline r a → ⊥

-- of two outlines the later one follows the earlier
abbrev InOrder : RuleValues → List Drawn → Type 0
InOrder r ds = (i j : ℕ) (a b : Drawn) → i < j → slice_get ds i ≡ Some a → slice_get ds j ≡ Some b → IsOutline r a → IsOutline r b → Follows a.shape.rect b.shape.rect

-- lists in order stay so behind one another where the outlines of the second follow those of the first
order-append : (r : RuleValues) (xs ys : List Drawn) → InOrder r xs → InOrder r ys
    → ((i j : ℕ) (a b : Drawn) → slice_get xs i ≡ Some a → slice_get ys j ≡ Some b → IsOutline r a → IsOutline r b → Follows a.shape.rect b.shape.rect)
    → InOrder r (xs ++ ys)
order-append r xs ys first second across i j a b before at_a at_b out other =
    elim (get-either xs ys i a at_a) [
      | inl here ↦ elim (get-either xs ys j b at_b) [
        | inl there ↦ first i j a b before here there out other
        | inr there ↦ across i there.0 a b here there.2 out other
      ]
      | inr here ↦ elim (get-either xs ys j b at_b) [
        | inl there ↦ absurd (let w = slice_get_within xs j b there in let e = here.1 in omega arith)
        | inr there ↦ second here.0 there.0 a b (let e = here.1 in let f = there.1 in omega arith) here.2 there.2 out other
      ]
    ]

-- a greater number of half units is greater in half centimicrons
scaled-up : (r : RuleValues) (a b : ℕ) → a ≤ b → scaled r a ≤ℤ scaled r b
scaled-up r a b le = let product : a * r.grid.centi ≤ b * r.grid.centi = mul-le-mul_right {m = a} {n = b} r.grid.centi le in omega (arith, ints)

module _ (r : RuleValues) (valid : ValidRules r) where
  -- wires and cuts are no outlines
  mask-other : (mask : Mask) → name_of r mask ≡ r.outline.layer → ⊥
  mask-other on_horizontal is = valid.layers.horizontal_outline is
  mask-other on_vertical is = valid.layers.vertical_outline is
  mask-other on_cut is = valid.layers.cut_outline is

  pub drawing-wires : (base : ℕ) (w : Wiring) → AreWires r (drawing r base w)
  drawing-wires base w i a at out =
      let of = Contains-flat_map_cases (drawn_by r base w.tracks) (elements w) a (get-contains (drawing r base w) i a at) in
      let piece = map-cases (drawn_of r) (pieces_of r base w.tracks of.0) a of.2 in
      mask-other piece.0.mask (ap (λ (x : Drawn). x.shape.layer) piece.2 ∙ out)

  -- uprights are no outlines
  uprights-wires : (base left : ℕ) (uprights : List Upright) → AreWires r (map (upright_drawn r base left) uprights)
  uprights-wires base left uprights i a at out =
      let upright = map-get (upright_drawn r base left) uprights i a at in
      valid.layers.vertical_outline (ap (λ (x : Drawn). x.shape.layer) upright.2 ∙ out)

  -- an outline farther to the right is one from here on
  row-nearer : (base height left right : ℕ) (a : Drawn) → left ≤ right → InRow r base height right a → InRow r base height left a
  row-nearer base height left right a le a_in =
      let columns : left * r.grid.column ≤ right * r.grid.column = mul-le-mul_right {m = left} {n = right} r.grid.column le in
      let up = scaled-up r (2 * (left * r.grid.column)) (2 * (right * r.grid.column)) (omega arith) in
      record { low = a_in.low; high = a_in.high; from = (let e = a_in.from in omega (arith, ints)) }

  module _ (d : Netlist) where
    -- nor are risers
    abbrev pub AreUpright : List Drawn → Type 0
    AreUpright ds = (a : Drawn) → Contains ds a → a.shape.layer ≡ r.vertical.layer

    upright-wires : (ds : List Drawn) → AreUpright ds → AreWires r ds
    upright-wires ds all i a at out = valid.layers.vertical_outline (sym (all a (get-contains ds i a at)) ∙ out)

    -- the one outline of an item
    item-outline : (base height left : ℕ) (item : Item) (i : ℕ) (a : Drawn) → slice_get (item_drawn r d base height left item) i ≡ Some a → IsOutline r a
        → a ≡ outline_drawn r base (item_height d height item) left (left + item_width d item)
    item-outline base height left item zero a at out = sym (same_Some _ a at)
    item-outline base height left item (suc i) a at out = absurd (uprights-wires base left (item_wires r d height item) i a at out)

    item-order : (base height left : ℕ) (item : Item) → InOrder r (item_drawn r d base height left item)
    item-order base height left item i zero a b before at_a at_b out other = absurd (omega arith)
    item-order base height left item i (suc j) a b before at_a at_b out other = absurd (uprights-wires base left (item_wires r d height item) j b at_b other)

    -- the outlines of a row stand in it
    row-in : (base height left : ℕ) (items : List Item) → AllByRecursion (λ (item : Item). item_height d height item ≤ height) items
        → AreInRow r base height left (row_drawn r d base height left items)
    row-in base height left [] low i a at out = absurd (none-some a at)
    row-in base height left (item ∷ items) low i a at out =
        elim (get-either (item_drawn r d base height left item) (row_drawn r d base height (left + item_width d item) items) i a at) [
          | inl here ↦ subst (InRow r base height left) (sym (item-outline base height left item i a here out))
              (record {
                low = refl;
                high = scaled-up r (2 * (base + item_height d height item)) (2 * (base + height)) (omega (arith, low.0));
                from = scaled-up r (2 * (left * r.grid.column)) (2 * (left * r.grid.column)) (omega arith);
              })
          | inr there ↦
              row-nearer base height left (left + item_width d item) a (omega arith) (row-in base height (left + item_width d item) items low.1 there.0 a there.2 out)
        ]

    -- and side by side
    row-order : (base height left : ℕ) (items : List Item) → AllByRecursion (λ (item : Item). item_height d height item ≤ height) items
        → InOrder r (row_drawn r d base height left items)
    row-order base height left [] low = λ i j a b before at_a at_b out other. absurd (none-some a at_a)
    row-order base height left (item ∷ items) low =
        order-append r (item_drawn r d base height left item) (row_drawn r d base height (left + item_width d item) items) (item-order base height left item)
        (row-order base height (left + item_width d item) items low.1)
        (λ i j a b at_a at_b out other.
        let is = item-outline base height left item i a at_a out in
        let next = row-in base height (left + item_width d item) items low.1 j b at_b other in
        subst (λ (x : Drawn). Follows x.shape.rect b.shape.rect) (sym is) (beside (sym next.low) next.from))

    -- behind its items a row has risers, which are wires
    pub full-in : (base : ℕ) (items : List Item) (rise : List Drawn) → AllByRecursion (λ (item : Item). item_height d (height_of_row d items) item ≤ height_of_row d items) items
        → AreUpright rise → AreInRow r base (height_of_row d items) 0 (full_row r d base items rise)
    full-in base items rise low wires i a at out =
        elim (get-either (row_drawn r d base (height_of_row d items) 0 items) rise i a at) [
          | inl here ↦ row-in base (height_of_row d items) 0 items low i a here out
          | inr there ↦ absurd (upright-wires rise wires there.0 a there.2 out)
        ]

    full-order : (base : ℕ) (items : List Item) (rise : List Drawn) → AllByRecursion (λ (item : Item). item_height d (height_of_row d items) item ≤ height_of_row d items) items
        → AreUpright rise → InOrder r (full_row r d base items rise)
    full-order base items rise low wires =
        order-append r (row_drawn r d base (height_of_row d items) 0 items) rise (row-order base (height_of_row d items) 0 items low)
        (λ i j a b before at_a at_b out other. absurd (upright-wires rise wires i a at_a out))
        (λ i j a b at_a at_b out other. absurd (upright-wires rise wires j b at_b other))

    -- no item of a row is higher than the row
    pub items-low : (items : List Item) → AllByRecursion (λ (item : Item). item_height d (height_of_row d items) item ≤ height_of_row d items) items
    items-low items =
        every-from-get (λ (item : Item). item_height d (height_of_row d items) item ≤ height_of_row d items) items
        (λ k item at. by item (get-contains items k item at))
      where
        by : (item : Item) → Contains items item → item_height d (height_of_row d items) item ≤ height_of_row d items
        by (Cell s) member = cell-within d items s member
        by (Feed net) member = omega arith

    -- the outlines of channels and rows lie above the lowest channel's edge
    levels-above : (base : ℕ) (ws : List Wiring) (rows : List (List Item)) (risers : List (List Drawn)) → AllByRecursion AreUpright risers
        → AreAbove r base (levels r d base ws rows risers)
    levels-above base [] rows risers wires i a at out = absurd (none-some a at)
    levels-above base (w ∷ ws) [] risers wires i a at out = absurd (drawing-wires base w i a at out)
    levels-above base (w ∷ ws) (items ∷ rows) [] wires i a at out = absurd (drawing-wires base w i a at out)
    levels-above base (w ∷ ws) (items ∷ rows) (rise ∷ risers) wires i a at out =
        let floor : ℕ = base + channel_height r w in
        let next : ℕ = floor + height_of_row d items in
        let row : List Drawn = full_row r d floor items rise in
        elim (get-either (drawing r base w) (row ++ levels r d next ws rows risers) i a at) [
          | inl here ↦ absurd (drawing-wires base w i a here out)
          | inr there ↦ elim (get-either row (levels r d next ws rows risers) there.0 a there.2) [
            | inl low ↦ (let e = (full-in floor items rise (items-low items) wires.0 there.0 a low out).low in
                let up = scaled-up r (2 * base) (2 * floor) (omega arith) in omega (arith, ints))
            | inr high ↦ (let e = levels-above next ws rows risers wires.1 high.0 a high.2 out in
                let up = scaled-up r (2 * base) (2 * next) (omega arith) in omega (arith, ints))
          ]
        ]

    -- and follow one another
    levels-order : (base : ℕ) (ws : List Wiring) (rows : List (List Item)) (risers : List (List Drawn)) → AllByRecursion AreUpright risers
        → InOrder r (levels r d base ws rows risers)
    levels-order base [] rows risers wires = λ i j a b before at_a at_b out other. absurd (none-some a at_a)
    levels-order base (w ∷ ws) [] risers wires = λ i j a b before at_a at_b out other. absurd (drawing-wires base w i a at_a out)
    levels-order base (w ∷ ws) (items ∷ rows) [] wires = λ i j a b before at_a at_b out other. absurd (drawing-wires base w i a at_a out)
    levels-order base (w ∷ ws) (items ∷ rows) (rise ∷ risers) wires =
        let floor : ℕ = base + channel_height r w in
        let next : ℕ = floor + height_of_row d items in
        let row : List Drawn = full_row r d floor items rise in
        order-append r (drawing r base w) (row ++ levels r d next ws rows risers)
        (λ i j a b before at_a at_b out other. absurd (drawing-wires base w i a at_a out))
        (order-append r row (levels r d next ws rows risers) (full-order floor items rise (items-low items) wires.0) (levels-order next ws rows risers wires.1)
        (λ i j a b at_a at_b out other.
        let e = (full-in floor items rise (items-low items) wires.0 i a at_a out).high in
        let f = levels-above next ws rows risers wires.1 j b at_b other in
        over (omega (arith, ints))))
        (λ i j a b at_a at_b out other. absurd (drawing-wires base w i a at_a out))

    -- the risers of all rows are wires
    pub risers-upright : (fed : Fed) (ws : List Wiring) → IsFed d fed → length ws ≡ length fed.rows + 1 → AllByRecursion AreUpright (risers_in r d fed ws)
    risers-upright fed ws from each =
        every-from-get AreUpright (risers_in r d fed ws)
        (λ k rise at a member.
        let within : k < length fed.rows = omega (arith, slice_get_within (risers_in r d fed ws) k rise at, risers-each r d fed ws) in
        let there : risers_at (risers_in r d fed ws) k ≡ rise = ap (λ o. unwrap_or o []) at in
        let riser = riser-of r d fed from ws each k within a (subst (λ (l : List Drawn). Contains l a) (sym there) member) in
        ap (λ (x : Drawn). x.shape.layer) riser.is)

-- the outlines of a plan follow one another
plan-order : (r : RuleValues) → ValidRules r → (d : Netlist) (fed : Fed) → IsFed d fed → (ws : List Wiring) → length ws ≡ length fed.rows + 1
    → InOrder r (plan_drawn r (plan_of r d fed ws))
plan-order r valid d fed from ws each =
    subst (InOrder r) (sym (plan-levels r d fed ws each)) (levels-order r valid d 0 ws fed.rows (risers_in r d fed ws) (risers-upright r valid d fed ws from each))

-- a rectangle and one that follows it are of one row, or the one is below the other
follows-rows : (a b : Extent) → Follows a b → SameRow a b ⊎ IsBelow a b ⊎ IsBelow b a
follows-rows a b (beside same right) = inl same
follows-rows a b (over high) = inr (inl high)

follows-back : (a b : Extent) → Follows b a → SameRow a b ⊎ IsBelow a b ⊎ IsBelow b a
follows-back a b (beside same right) = inl (sym same)
follows-back a b (over high) = inr (inr high)

-- they share no inner point
follows-apart : (a b : Extent) → Follows a b → Apart (pos 0) a b
follows-apart a b (beside same right) = left_of (omega (arith, ints))
follows-apart a b (over high) = under (omega (arith, ints))

follows-parted : (a b : Extent) → Follows b a → Apart (pos 0) a b
follows-parted a b (beside same right) = right_of (omega (arith, ints))
follows-parted a b (over high) = above (omega (arith, ints))

module _ (r : RuleValues) (valid : ValidRules r) (d : Netlist) (is : IsNetlist d) (room : HasRoom r d)
    (fed : Fed) (from : IsFed d fed) (ws : List Wiring) (each : length ws ≡ length fed.rows + 1) where
  -- an outline of the layout follows an earlier one
  shapes-follow : (i j : ℕ) (s t : Shape) → i < j → slice_get (stack_layout r d fed ws).shapes i ≡ Some s → slice_get (stack_layout r d fed ws).shapes j ≡ Some t
      → s.layer ≡ r.outline.layer → t.layer ≡ r.outline.layer → Follows s.rect t.rect
  shapes-follow i j s t before at_s at_t out other =
      let shapes = stack-shapes r valid d is room fed from ws each in
      let plan : List Drawn = plan_drawn r (plan_of r d fed ws) in
      let a = map-get (λ (x : Drawn). x.shape) plan i s (subst (λ (l : List Shape). slice_get l i ≡ Some s) shapes at_s) in
      let b = map-get (λ (x : Drawn). x.shape) plan j t (subst (λ (l : List Shape). slice_get l j ≡ Some t) shapes at_t) in
      subst (λ (x : Shape). Follows x.rect t.rect) a.2
      (subst (λ (x : Shape). Follows a.0.shape.rect x.rect) b.2
      (plan-order r valid d fed from ws each i j a.0 b.0 before a.1 b.1 (ap (λ (x : Shape). x.layer) a.2 ∙ out) (ap (λ (x : Shape). x.layer) b.2 ∙ other)))

  -- two different outlines follow one another in one order or the other
  either-follows : (i j : ℕ) (s t : Shape) → i ≢ j → slice_get (stack_layout r d fed ws).shapes i ≡ Some s → slice_get (stack_layout r d fed ws).shapes j ≡ Some t
      → s.layer ≡ r.outline.layer → t.layer ≡ r.outline.layer → Follows s.rect t.rect ⊎ Follows t.rect s.rect
  either-follows i j s t differ at_s at_t out other =
      elim (cases_lt i j) [
        | inl low ↦ inl (shapes-follow i j s t low at_s at_t out other)
        | inr not_low ↦ elim (cases_lt j i) [
          | inl high ↦ inr (shapes-follow j i t s high at_t at_s other out)
          | inr not_high ↦ absurd (differ (omega arith))
        ]
      ]

  -- the cells and feeds stand in rows
  pub stack-in_rows : InRows r (stack_layout r d fed ws)
  stack-in_rows = record {
    rows = λ i j s t differ at_s at_t out other.
        elim (either-follows i j s t differ at_s at_t out other) [ inl first ↦ follows-rows s.rect t.rect first | inr second ↦ follows-back s.rect t.rect second ];
    apart = λ i j s t differ at_s at_t out other.
        elim (either-follows i j s t differ at_s at_t out other) [ inl first ↦ follows-apart s.rect t.rect first | inr second ↦ follows-parted s.rect t.rect second ];
  }
