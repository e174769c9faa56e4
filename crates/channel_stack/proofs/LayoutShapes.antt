use Rattle.std.proofs.Common.{◌≡◌, refl, ap, sym, ◌∙◌, append_assoc, ℕ, zero, suc, ◌+◌, List, [], ◌∷◌, ◌++◌, length, map, arith}
use Rattle.std.proofs.lemmas.List.{length-map, map-append}
use Rattle.std.proofs.lemmas.List.FromFn.{length-range_with_len}
use Rattle.std.specs.List.{AllByRecursion, range_with_len}
use Rattle.std.specs.Prelude.{slice_get, slice_index, unwrap_or}
use Rattle.geom_core.specs.declared.layout.Layout.{Layout}
use Rattle.geom_core.specs.declared.layout.Shape.{Shape}
use Rattle.tech_rules.specs.Rules.{RuleValues, ValidRules}
use Rattle.design_model.specs.Netlist.{Netlist, IsNetlist}
use Rattle.design_model.specs.Room.{HasRoom}
use Rattle.channel_model.specs.declared.wiring.Wiring.{Wiring}
use Rattle.wire_geom.specs.Drawing.{drawing}
use Rattle.wire_geom.specs.declared.drawn.Drawn.{Drawn}
use Rattle.feed_cells.specs.Fed.{Fed, IsFed, item_width}
use Rattle.feed_cells.specs.declared.fed.Item.{Item}
use Rattle.layout_laws.specs.Heights.{channel_height}
use Rattle.layout_laws.proofs.Plans.{Plan, drawn_to, plan_drawn}
use Rattle.channel_stack.specs.Layouts.{items_shapes, layout_of, row_shapes, stacked_cells, stacked_shapes, wire_shapes}
use Rattle.channel_stack.specs.Risers.{row_risers}
use Rattle.channel_stack.proofs.Planned.{height_of_row, item_drawn, plan_of, risers_at, risers_in, row_drawn, row_heights, wiring_at}
use Rattle.channel_stack.specs.Stack.{channel_bases, drawings, placed_from, placed_rows, row_bases, stack_of}
use Rattle.channel_stack.specs.declared.placed.PlacedItem.{PlacedItem}
use Rattle.channel_stack.proofs.StackBounds.{heights-of}
use Rattle.channel_stack.proofs.KnownItems.{IsKnown, item-drawn, rows-known}

-- the layout of a routed design
abbrev pub stack_layout : RuleValues → Netlist → Fed → List Wiring → Layout
stack_layout r d fed ws = layout_of r d (stack_of r d fed ws)

-- the rectangles of channels that lie on one another from an edge on, and the items of the rows between them
abbrev pub channels_on : RuleValues → Netlist → ℕ → List Wiring → List (List Item) → List (List Drawn)
channels_on r d base ws rows = drawings r ws (channel_bases r (row_heights d rows) base ws)

abbrev pub rows_on : RuleValues → Netlist → ℕ → List Wiring → List (List Item) → List (List PlacedItem)
rows_on r d base ws rows = placed_rows r d rows (row_bases r (row_heights d rows) base ws)

-- the layout of a stack is that of its rows with the heights of these rows
abbrev layout_with : RuleValues → Netlist → List ℕ → List Wiring → List (List Item) → List (List Drawn) → Layout
layout_with r d heights ws rows risers = record {
  cells = stacked_cells r d heights 0 (drawings r ws (channel_bases r heights 0 ws)) (placed_rows r d rows (row_bases r heights 0 ws)) risers;
  shapes = stacked_shapes r d heights (drawings r ws (channel_bases r heights 0 ws)) (placed_rows r d rows (row_bases r heights 0 ws)) risers;
}

pub stack-rows : (r : RuleValues) (d : Netlist) (fed : Fed) (ws : List Wiring) → IsFed d fed
    → stack_layout r d fed ws ≡ layout_with r d (row_heights d fed.rows) ws fed.rows (risers_in r d fed ws)
unfolding layout_of stack_of
stack-rows r d fed ws from = ap (λ (heights : List ℕ). layout_with r d heights ws fed.rows (risers_in r d fed ws)) (heights-of d fed from)

-- the rectangles of a row: of its items, and then its risers
abbrev pub full_row : RuleValues → Netlist → ℕ → List Item → List Drawn → List Drawn
full_row r d base items rise = row_drawn r d base (height_of_row d items) 0 items ++ rise

-- the rectangles of channels and rows on one another, from the lowest channel up
abbrev pub levels : RuleValues → Netlist → ℕ → List Wiring → List (List Item) → List (List Drawn) → List Drawn
levels r d base [] rows risers = []
levels r d base (w ∷ ws) [] risers = drawing r base w
levels r d base (w ∷ ws) (items ∷ rows) [] = drawing r base w
levels r d base (w ∷ ws) (items ∷ rows) (rise ∷ risers) =
    drawing r base w ++ (full_row r d (base + channel_height r w) items rise ++ levels r d (base + channel_height r w + height_of_row d items) ws rows risers)

module _ (r : RuleValues) (valid : ValidRules r) (d : Netlist) (room : HasRoom r d) where
  -- the shapes of a row's items are those that are drawn for them
  pub items-shapes : (items : List Item) → AllByRecursion (IsKnown d) items → (base height left : ℕ)
      → items_shapes r d height (placed_from r d base left items) ≡ wire_shapes (row_drawn r d base height left items)
  items-shapes [] known base height left = refl
  items-shapes (item ∷ items) known base height left =
      let rest : List Drawn = row_drawn r d base height (left + item_width d item) items in
      ap (λ (l : List Shape). l ++ items_shapes r d height (placed_from r d base (left + item_width d item) items)) (item-drawn r valid d room item known.0 base height left)
      ∙ ap (λ (l : List Shape). wire_shapes (item_drawn r d base height left item) ++ l) (items-shapes items known.1 base height (left + item_width d item))
      ∙ sym (map-append (λ (a : Drawn). a.shape) (item_drawn r d base height left item) rest)

  -- and with the risers of the row
  pub full-shapes : (items : List Item) → AllByRecursion (IsKnown d) items → (base : ℕ) (rise : List Drawn)
      → row_shapes r d (height_of_row d items) (placed_from r d base 0 items) rise ≡ wire_shapes (full_row r d base items rise)
  full-shapes items known base rise =
      ap (λ (l : List Shape). l ++ wire_shapes rise) (items-shapes items known base (height_of_row d items) 0)
      ∙ sym (map-append (λ (a : Drawn). a.shape) (row_drawn r d base (height_of_row d items) 0 items) rise)

  -- the shapes of channels and rows on one another
  levels-shapes : (base : ℕ) (ws : List Wiring) (rows : List (List Item)) (risers : List (List Drawn)) → AllByRecursion (AllByRecursion (IsKnown d)) rows
      → stacked_shapes r d (row_heights d rows) (channels_on r d base ws rows) (rows_on r d base ws rows) risers ≡ wire_shapes (levels r d base ws rows risers)
  levels-shapes base [] rows risers known = refl
  levels-shapes base (w ∷ ws) [] risers known = refl
  levels-shapes base (w ∷ ws) (items ∷ rows) [] known = refl
  levels-shapes base (w ∷ ws) (items ∷ rows) (rise ∷ risers) known =
      let floor : ℕ = base + channel_height r w in
      let next : ℕ = floor + height_of_row d items in
      let row : List Drawn = full_row r d floor items rise in
      let above : List Shape = stacked_shapes r d (row_heights d rows) (channels_on r d next ws rows) (rows_on r d next ws rows) risers in
      ap (λ (l : List Shape). wire_shapes (drawing r base w) ++ l)
      (ap (λ (l : List Shape). l ++ above) (full-shapes items known.0 floor rise)
      ∙ ap (λ (l : List Shape). wire_shapes row ++ l) (levels-shapes next ws rows risers known.1)
      ∙ sym (map-append (λ (a : Drawn). a.shape) row (levels r d next ws rows risers)))
      ∙ sym (map-append (λ (a : Drawn). a.shape) (drawing r base w) (row ++ levels r d next ws rows risers))

-- channels and rows in turn, up to a channel
abbrev up_to : {X : Type 0} → (ℕ → List X) → (ℕ → List X) → ℕ → List X
up_to channel row zero = channel zero
up_to channel row (suc k) = up_to channel row k ++ (row k ++ channel (suc k))

-- the lowest channel and row stand before all others
up-from : {X : Type 0} (channel row : ℕ → List X) (k : ℕ)
    → up_to channel row (suc k) ≡ channel 0 ++ (row 0 ++ up_to (λ (n : ℕ). channel (suc n)) (λ (n : ℕ). row (suc n)) k)
up-from channel row zero = refl
up-from {X = X} channel row (suc k) =
    let low : List X = up_to (λ (n : ℕ). channel (suc n)) (λ (n : ℕ). row (suc n)) k in
    let high : List X = row (suc k) ++ channel (suc (suc k)) in
    ap (λ (l : List X). l ++ high) (up-from channel row k)
    ∙ append_assoc (channel 0) (row 0 ++ low) high
    ∙ ap (λ (l : List X). channel 0 ++ l) (append_assoc (row 0) low high)

-- the rectangles of a plan are its channels and rows in turn
drawn-up : (r : RuleValues) (plan : Plan) (k : ℕ) → drawn_to r plan k ≡ up_to (λ (n : ℕ). drawing r (plan.base n) (plan.wiring n)) plan.row k
drawn-up r plan zero = refl
drawn-up r plan (suc k) = ap (λ (l : List Drawn). l ++ (plan.row k ++ drawing r (plan.base (suc k)) (plan.wiring (suc k)))) (drawn-up r plan k)

module _ (r : RuleValues) (d : Netlist) where
  -- the lower edge of row k
  abbrev pub row_floor : ℕ → List Wiring → List (List Item) → ℕ → ℕ
  row_floor base ws rows k = slice_index (channel_bases r (row_heights d rows) base ws) k + channel_height r (wiring_at ws k)

  abbrev channel_at : ℕ → List Wiring → List (List Item) → ℕ → List Drawn
  channel_at base ws rows k = drawing r (slice_index (channel_bases r (row_heights d rows) base ws) k) (wiring_at ws k)

  abbrev row_at : ℕ → List Wiring → List (List Item) → List (List Drawn) → ℕ → List Drawn
  row_at base ws rows risers k = full_row r d (row_floor base ws rows k) (unwrap_or (slice_get rows k) []) (risers_at risers k)

  -- the levels are the channels and rows in turn
  levels-up : (base : ℕ) (ws : List Wiring) (rows : List (List Item)) (risers : List (List Drawn)) → length ws ≡ length rows + 1 → length risers ≡ length rows
      → levels r d base ws rows risers ≡ up_to (channel_at base ws rows) (row_at base ws rows risers) (length rows)
  levels-up base [] rows risers each rising = absurd (omega arith)
  levels-up base (w ∷ ws) [] risers each rising = refl
  levels-up base (w ∷ ws) (items ∷ rows) [] each rising = absurd (omega arith)
  levels-up base (w ∷ ws) (items ∷ rows) (rise ∷ risers) each rising =
      let floor : ℕ = base + channel_height r w in
      ap (λ (l : List Drawn). drawing r base w ++ (full_row r d floor items rise ++ l)) (levels-up (floor + height_of_row d items) ws rows risers (omega arith) (omega arith))
      ∙ sym (up-from (channel_at base (w ∷ ws) (items ∷ rows)) (row_at base (w ∷ ws) (items ∷ rows) (rise ∷ risers)) (length rows))

  -- each row has risers
  pub risers-each : (fed : Fed) (ws : List Wiring) → length (risers_in r d fed ws) ≡ length fed.rows
  risers-each fed ws =
      length-map (range_with_len 0 (length fed.rows)) (row_risers r d fed (row_bases r fed.heights 0 ws)) ∙ length-range_with_len 0 (length fed.rows)

  -- the rectangles of the plan are the levels
  pub plan-levels : (fed : Fed) (ws : List Wiring) → length ws ≡ length fed.rows + 1
      → plan_drawn r (plan_of r d fed ws) ≡ levels r d 0 ws fed.rows (risers_in r d fed ws)
  plan-levels fed ws each = drawn-up r (plan_of r d fed ws) (length fed.rows) ∙ sym (levels-up 0 ws fed.rows (risers_in r d fed ws) each (risers-each fed ws))

-- the shapes of the layout are the rectangles of its plan
pub stack-shapes : (r : RuleValues) → ValidRules r → (d : Netlist) → IsNetlist d → HasRoom r d
    → (fed : Fed) → IsFed d fed → (ws : List Wiring) → length ws ≡ length fed.rows + 1
    → (stack_layout r d fed ws).shapes ≡ map (λ (a : Drawn). a.shape) (plan_drawn r (plan_of r d fed ws))
stack-shapes r valid d is room fed from ws each =
    ap (λ (l : Layout). l.shapes) (stack-rows r d fed ws from)
    ∙ levels-shapes r valid d room 0 ws fed.rows (risers_in r d fed ws) (rows-known d fed from.placed is) ∙ ap wire_shapes (sym (plan-levels r d fed ws each))
