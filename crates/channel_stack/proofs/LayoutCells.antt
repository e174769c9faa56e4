use Rattle.geom_core.specs.declared.layout.Cell as layouts
use Rattle.std.proofs.Common.{◌≡◌, refl, ap, append_assoc, sym, ◌∙◌, subst, ℕ, zero, suc, ◌+◌, List, [], ◌∷◌, ◌++◌, length, map, Some, arith}
use Rattle.std.proofs.lemmas.List.{length-map}
use Rattle.std.proofs.lemmas.List.Sums.{sum_by-cons}
use Rattle.std.proofs.lemmas.Option.{none-some, same_Some}
use Rattle.std.specs.List.{AllByRecursion}
use Rattle.std.specs.Prelude.{slice_get}
use Rattle.geom_core.specs.declared.layout.Layout.{Layout}
use Rattle.geom_core.specs.declared.layout.Shape.{Shape}
use Rattle.geom_core.specs.declared.turn.Place.{Place}
use Rattle.tech_rules.specs.Rules.{RuleValues, ValidRules}
use Rattle.design_model.specs.Netlist.{Netlist, IsNetlist}
use Rattle.design_model.specs.declared.design.Inst.{Inst}
use Rattle.design_model.specs.declared.design.CellKind.{CellKind}
use Rattle.design_model.specs.Room.{HasRoom}
use Rattle.channel_model.specs.declared.wiring.Wiring.{Wiring}
use Rattle.wire_geom.specs.Drawing.{drawing}
use Rattle.wire_geom.specs.declared.drawn.Drawn.{Drawn}
use Rattle.row_model.specs.declared.rows.Seat.{Seat}
use Rattle.feed_cells.specs.Fed.{Fed, IsFed, item_width, items_width}
use Rattle.feed_cells.specs.declared.fed.Item.{Item}
use Rattle.feed_cells.specs.declared.fed.Item.TheVariants.{Cell}
use Rattle.layout_laws.specs.Heights.{channel_height}
use Rattle.layout_laws.proofs.Plans.{plan_drawn, row_base}
use Rattle.channel_stack.specs.Layouts.{cell_at, instance_cells, item_cells, item_shapes, kind_cells, row_cells, row_shapes, stacked_cells, wire_shapes}
use Rattle.channel_stack.proofs.Planned.{cell_drawn, height_of_row, item_drawn, plan_of, risers_in, row_drawn, row_heights}
use Rattle.channel_stack.specs.declared.placed.PlacedItem.{PlacedItem}
use Rattle.channel_stack.specs.Stack.{item_place, placed_from}
use Rattle.channel_stack.proofs.KnownItems.{IsKnown, KnownCell, item-drawn, rows-known}
use Rattle.channel_stack.proofs.LayoutShapes.{channels_on, full-shapes, full_row, levels, plan-levels, risers-each, row_floor, rows_on, stack-rows, stack_layout}
use Rattle.std_laws.proofs.Parts.{Part, part-before, part-behind}
use Rattle.std_laws.proofs.Places.{get-before, get-behind}

-- among cells whose first shape has this number: a cell, and its own rectangles among those that are drawn for all of them
pub record Stood (cells : List layouts.Cell) (first : ℕ) (drawn : List Drawn) (cell : ℕ → layouts.Cell) (own : List Drawn) : Type 0 where
  pub number : ℕ
  pub start : ℕ
  pub at : slice_get cells number ≡ Some (cell (first + start))
  pub part : Part drawn start own

-- with more cells and rectangles behind
stood-left : (cells more : List layouts.Cell) (first : ℕ) (drawn further : List Drawn) (cell : ℕ → layouts.Cell) (own : List Drawn)
    → Stood cells first drawn cell own → Stood (cells ++ more) first (drawn ++ further) cell own
stood-left cells more first drawn further cell own s = record {
  number = s.number;
  start = s.start;
  at = get-before cells more s.number (cell (first + s.start)) s.at;
  part = part-before drawn further s.start own s.part;
}

-- with more cells and rectangles before
stood-right : (cells more : List layouts.Cell) (first next : ℕ) (drawn further : List Drawn) (cell : ℕ → layouts.Cell) (own : List Drawn)
    → next ≡ first + length further → Stood cells next drawn cell own → Stood (more ++ cells) first (further ++ drawn) cell own
stood-right cells more first next drawn further cell own behind s =
    let same : next + s.start ≡ first + (length further + s.start) = omega arith in
    record {
      number = length more + s.number;
      start = length further + s.start;
      at = get-behind more cells (length more + s.number) s.number refl ∙ s.at ∙ ap (λ (n : ℕ). Some (cell n)) same;
      part = part-behind drawn further s.start own s.part;
    }

-- the one cell of a known seat
pub one-cell : (r : RuleValues) (d : Netlist) (first : ℕ) (s : Seat) (place : Place) (known : KnownCell d s)
    → item_cells r d first (Cell s) place ≡ cell_at r known.inst known.kind place first ∷ []
one-cell r d first s place known =
    ap (instance_cells r d place first) known.is_instance ∙ ap (kind_cells r known.inst place first) known.is_kind

module _ (r : RuleValues) (valid : ValidRules r) (d : Netlist) (room : HasRoom r d) where
  -- shapes that are those of rectangles are as many
  even-of : (shapes : List Shape) (drawn : List Drawn) → shapes ≡ wire_shapes drawn → length shapes ≡ length drawn
  even-of shapes drawn e = ap length e ∙ length-map drawn (λ (a : Drawn). a.shape)

  -- the cell of a known seat, and the rectangles that are drawn for it
  abbrev cell_in : ℕ → ℕ → (s : Seat) → KnownCell d s → ℕ → layouts.Cell
  cell_in base left s known first = cell_at r known.inst known.kind (item_place r d base left (Cell s)) first

  abbrev own_of : ℕ → ℕ → Seat → List Drawn
  own_of base left s = cell_drawn r d base left s

  -- the cell of a row behind these items
  row-stood : (front : List Item) (s : Seat) (back : List Item) → AllByRecursion (IsKnown d) (front ++ Cell s ∷ back) → (known : KnownCell d s)
      → (first base height left at : ℕ) → left + items_width d front ≡ at
      → Stood (row_cells r d height first (placed_from r d base left (front ++ Cell s ∷ back))) first (row_drawn r d base height left (front ++ Cell s ∷ back))
      (cell_in base at s known) (own_of base at s)
  row-stood [] s back all known first base height left at there =
      subst (λ (n : ℕ). Stood (row_cells r d height first (placed_from r d base left (Cell s ∷ back))) first (row_drawn r d base height left (Cell s ∷ back))
      (cell_in base n s known) (own_of base n s)) (let e : left ≡ at = omega arith in e)
      (record {
        number = 0;
        start = 0;
        at =
            ap (λ (l : List layouts.Cell). slice_get (l ++ row_cells r d height (first + length (item_shapes r d height (record { item = Cell s; place = item_place r d base left (Cell s) })))
            (placed_from r d base (left + item_width d (Cell s)) back)) 0) (one-cell r d first s (item_place r d base left (Cell s)) known)
            ∙ ap (λ (n : ℕ). Some (cell_in base left s known n)) (omega arith);
        part = record { before = []; after = row_drawn r d base height (left + item_width d (Cell s)) back; is = refl; at = refl };
      })
  row-stood (item ∷ front) s back all known first base height left at there =
      let items : List Item = front ++ Cell s ∷ back in
      let next : ℕ = left + item_width d item in
      let wide : items_width d (item ∷ front) ≡ item_width d item + items_width d front =
      sum_by-cons (λ (n : ℕ). n) (item_width d item) (map (item_width d) front) in
      let placed : PlacedItem = record { item = item; place = item_place r d base left item } in
      let own : List Drawn = item_drawn r d base height left item in
      let even : length (item_shapes r d height placed) ≡ length own = even-of (item_shapes r d height placed) own (item-drawn r valid d room item all.0 base height left) in
      let behind : ℕ = first + length (item_shapes r d height placed) in
      stood-right (row_cells r d height behind (placed_from r d base next items)) (item_cells r d first item placed.place) first behind
      (row_drawn r d base height next items) own (cell_in base at s known) (own_of base at s) (omega arith)
      (row-stood front s back all.1 known behind base height next at (omega arith))

  -- the cell of a seat of row k, behind these items of its row
  stack-stood : (first base : ℕ) (ws : List Wiring) (rows : List (List Item)) (risers : List (List Drawn)) → length ws ≡ length rows + 1 → length risers ≡ length rows
      → AllByRecursion (AllByRecursion (IsKnown d)) rows
      → (k : ℕ) (front : List Item) (s : Seat) (back : List Item) → slice_get rows k ≡ Some (front ++ Cell s ∷ back) → (known : KnownCell d s)
      → Stood (stacked_cells r d (row_heights d rows) first (channels_on r d base ws rows) (rows_on r d base ws rows) risers) first
      (levels r d base ws rows risers) (cell_in (row_floor r d base ws rows k) (items_width d front) s known) (own_of (row_floor r d base ws rows k) (items_width d front) s)
  stack-stood first base ws [] risers each rising all k front s back at known = absurd (none-some (front ++ Cell s ∷ back) at)
  stack-stood first base [] (items ∷ rows) risers each rising all k front s back at known = absurd (omega arith)
  stack-stood first base (w ∷ ws) (items ∷ rows) [] each rising all k front s back at known = absurd (omega arith)
  stack-stood first base (w ∷ ws) (items ∷ rows) (rise ∷ risers) each rising all zero front s back at known =
      let floor : ℕ = base + channel_height r w in
      let tall : ℕ = height_of_row d items in
      let next : ℕ = floor + tall in
      let is : items ≡ front ++ Cell s ∷ back = same_Some items (front ++ Cell s ∷ back) at in
      let wires : List Drawn = drawing r base w in
      let placed : List PlacedItem = placed_from r d floor 0 items in
      let behind : ℕ = first + length wires in
      let above : List layouts.Cell = stacked_cells r d (row_heights d rows) (behind + length (row_shapes r d tall placed rise)) (channels_on r d next ws rows) (rows_on r d next ws rows) risers in
      let own_row : List Drawn = row_drawn r d floor tall 0 items in
      let cell : ℕ → layouts.Cell = cell_in floor (items_width d front) s known in
      let own : List Drawn = own_of floor (items_width d front) s in
      let row : Stood (row_cells r d tall behind placed) behind own_row cell own =
      subst (λ (l : List Item). Stood (row_cells r d tall behind (placed_from r d floor 0 l)) behind (row_drawn r d floor tall 0 l) cell own) (sym is)
      (row-stood front s back (subst (AllByRecursion (IsKnown d)) is all.0) known behind floor tall 0 (items_width d front) (omega arith)) in
      stood-right (row_cells r d tall behind placed ++ above) [] first behind ((own_row ++ rise) ++ levels r d next ws rows risers) wires cell own refl
      (subst (λ (l : List Drawn). Stood (row_cells r d tall behind placed ++ above) behind l cell own) (sym (append_assoc own_row rise (levels r d next ws rows risers)))
      (stood-left (row_cells r d tall behind placed) above behind own_row (rise ++ levels r d next ws rows risers) cell own row))
  stack-stood first base (w ∷ ws) (items ∷ rows) (rise ∷ risers) each rising all (suc k) front s back at known =
      let floor : ℕ = base + channel_height r w in
      let tall : ℕ = height_of_row d items in
      let next : ℕ = floor + tall in
      let wires : List Drawn = drawing r base w in
      let placed : List PlacedItem = placed_from r d floor 0 items in
      let row : List Drawn = full_row r d floor items rise in
      let even : length (row_shapes r d tall placed rise) ≡ length row = even-of (row_shapes r d tall placed rise) row (full-shapes r valid d room items all.0 floor rise) in
      let behind : ℕ = first + length wires in
      let last : ℕ = behind + length (row_shapes r d tall placed rise) in
      let above : List layouts.Cell = stacked_cells r d (row_heights d rows) last (channels_on r d next ws rows) (rows_on r d next ws rows) risers in
      let cell : ℕ → layouts.Cell = cell_in (row_floor r d next ws rows k) (items_width d front) s known in
      let own : List Drawn = own_of (row_floor r d next ws rows k) (items_width d front) s in
      stood-right (row_cells r d tall behind placed ++ above) [] first behind (row ++ levels r d next ws rows risers) wires cell own refl
      (stood-right above (row_cells r d tall behind placed) behind last (levels r d next ws rows risers) row cell own (omega arith)
      (stack-stood last next ws rows risers (omega arith) (omega arith) all.1 k front s back at known))

-- the cell of a seat of row k behind these items: its number, the number of its first shape, and the plan's rectangles from there on
pub record CellStands (r : RuleValues) (d : Netlist) (fed : Fed) (ws : List Wiring) (k : ℕ) (front : List Item) (s : Seat) (inst : Inst) (kind : CellKind) : Type 0 where
  pub number : ℕ
  pub first : ℕ
  pub at : slice_get (stack_layout r d fed ws).cells number
      ≡ Some (cell_at r inst kind (item_place r d (row_base r (plan_of r d fed ws) k) (items_width d front) (Cell s)) first)
  pub part : Part (plan_drawn r (plan_of r d fed ws)) first (cell_drawn r d (row_base r (plan_of r d fed ws) k) (items_width d front) s)

-- each seat of a row has a cell
pub cell-stands : (r : RuleValues) → ValidRules r → (d : Netlist) → IsNetlist d → HasRoom r d
    → (fed : Fed) → IsFed d fed → (ws : List Wiring) → length ws ≡ length fed.rows + 1
    → (k : ℕ) (front : List Item) (s : Seat) (back : List Item) → slice_get fed.rows k ≡ Some (front ++ Cell s ∷ back) → (known : KnownCell d s)
    → CellStands r d fed ws k front s known.inst known.kind
cell-stands r valid d is room fed from ws each k front s back at known =
    let stood = stack-stood r valid d room 0 0 ws fed.rows (risers_in r d fed ws) each (risers-each r d fed ws) (rows-known d fed from.placed is) k front s back at known in
    let cell : ℕ → layouts.Cell = cell_at r known.inst known.kind (item_place r d (row_floor r d 0 ws fed.rows k) (items_width d front) (Cell s)) in
    record {
      number = stood.number;
      first = stood.start;
      at = ap (λ (l : Layout). slice_get l.cells stood.number) (stack-rows r d fed ws from) ∙ stood.at ∙ ap (λ (n : ℕ). Some (cell n)) (omega arith);
      part = record { before = stood.part.before; after = stood.part.after; is = plan-levels r d fed ws each ∙ stood.part.is; at = stood.part.at };
    }
