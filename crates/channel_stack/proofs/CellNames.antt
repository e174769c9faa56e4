use Rattle.geom_core.specs.declared.layout.Cell as layouts
use Rattle.std.proofs.Common.{◌≡◌, refl, ap, sym, ◌∙◌, subst, ℕ, suc, ◌+◌, List, [], ◌∷◌, ◌++◌, length, map, Some, None, Option, arith}
use Rattle.std.proofs.lemmas.List.{map-append}
use Rattle.std.proofs.lemmas.List.Sorted.{IsPermutation-map}
use Rattle.std.proofs.lemmas.Map.Keys.{IsDistinct-IsPermutation}
use Rattle.std.specs.List.{AllByRecursion, range_with_len}
use Rattle.std.specs.List.Sorted.{IsPermutation}
use Rattle.std.specs.Prelude.{slice_get}
use Rattle.std.specs.Str.{bytes_eq}
use Rattle.geom_core.specs.declared.turn.Place.{Place}
use Rattle.tech_rules.specs.Rules.{RuleValues}
use Rattle.design_model.specs.CellsMatch.{cell_names, instance_names}
use Rattle.design_model.specs.Netlist.{Netlist, IsNetlist}
use Rattle.design_model.specs.declared.design.Inst.{Inst}
use Rattle.list_facts.proofs.Different.{place-get}
use Rattle.channel_model.specs.declared.wiring.Wiring.{Wiring}
use Rattle.wire_geom.specs.Drawing.{drawing}
use Rattle.row_model.specs.Rows.{all_instances, instances_in}
use Rattle.feed_cells.specs.Fed.{Fed, IsFed, cells_in, item_width, seats_in}
use Rattle.feed_cells.specs.declared.fed.Item.{Item}
use Rattle.feed_cells.specs.declared.fed.Item.TheVariants.{Cell, Feed}
use Rattle.layout_laws.specs.Heights.{channel_height}
use Rattle.channel_stack.proofs.Planned.{height_of_row, risers_in, row_heights}
use Rattle.wire_geom.specs.declared.drawn.Drawn.{Drawn}
use Rattle.channel_stack.specs.Layouts.{item_shapes, row_cells, row_shapes, stacked_cells}
use Rattle.channel_stack.specs.declared.placed.PlacedItem.{PlacedItem}
use Rattle.channel_stack.specs.Stack.{item_place, placed_from}
use Rattle.channel_stack.proofs.KnownItems.{IsKnown, KnownCell, rows-known}
use Rattle.channel_stack.proofs.LayoutCells.{one-cell}
use Rattle.channel_stack.proofs.LayoutShapes.{channels_on, risers-each, rows_on, stack-rows, stack_layout}
use Rattle.std_laws.proofs.Bytes.{bytes-flips}
use Rattle.std_laws.proofs.Places.{map-at}

abbrev names_of : List layouts.Cell → List (List ℕ)
names_of cells = map (λ (c : layouts.Cell). c.name) cells

-- the name of the instance with this number
abbrev name_in : Option Inst → List ℕ
name_in None = []
name_in (Some inst) = inst.name

abbrev name_at : Netlist → ℕ → List ℕ
name_at d n = name_in (slice_get d.instances n)

module _ (r : RuleValues) (d : Netlist) where
  -- the cells of a row have the names of their seats' instances
  row-names : (first base height left : ℕ) (items : List Item) → AllByRecursion (IsKnown d) items
      → names_of (row_cells r d height first (placed_from r d base left items)) ≡ map (name_at d) (instances_in (seats_in items))
  row-names first base height left [] known = refl
  row-names first base height left (Cell s ∷ items) known =
      let place : Place = item_place r d base left (Cell s) in
      let here : KnownCell d s = known.0 in
      let next : ℕ = first + length (item_shapes r d height (record { item = Cell s; place = place })) in
      let more : List layouts.Cell = row_cells r d height next (placed_from r d base (left + item_width d (Cell s)) items) in
      ap (λ (l : List layouts.Cell). names_of (l ++ more)) (one-cell r d first s place here)
      ∙ ap (λ (l : List (List ℕ)). here.inst.name ∷ l) (row-names next base height (left + item_width d (Cell s)) items known.1)
      ∙ ap (λ (o : Option Inst). name_in o ∷ map (name_at d) (instances_in (seats_in items))) (sym here.is_instance)
  row-names first base height left (Feed net ∷ items) known =
      row-names (first + length (item_shapes r d height (record { item = Feed net; place = item_place r d base left (Feed net) }))) base height (left + item_width d (Feed net)) items known.1

  -- the cells of all rows have the names of all seats' instances
  levels-names : (first base : ℕ) (ws : List Wiring) (rows : List (List Item)) (risers : List (List Drawn)) → length ws ≡ length rows + 1 → length risers ≡ length rows
      → AllByRecursion (AllByRecursion (IsKnown d)) rows
      → names_of (stacked_cells r d (row_heights d rows) first (channels_on r d base ws rows) (rows_on r d base ws rows) risers) ≡ map (name_at d) (all_instances (cells_in rows))
  levels-names first base [] rows risers each rising known = absurd (omega arith)
  levels-names first base (w ∷ ws) [] risers each rising known = refl
  levels-names first base (w ∷ ws) (items ∷ rows) [] each rising known = absurd (omega arith)
  levels-names first base (w ∷ ws) (items ∷ rows) (rise ∷ risers) each rising known =
      let floor : ℕ = base + channel_height r w in
      let tall : ℕ = height_of_row d items in
      let next : ℕ = floor + tall in
      let placed : List PlacedItem = placed_from r d floor 0 items in
      let second : ℕ = first + length (drawing r base w) in
      let third : ℕ = second + length (row_shapes r d tall placed rise) in
      let above : List layouts.Cell = stacked_cells r d (row_heights d rows) third (channels_on r d next ws rows) (rows_on r d next ws rows) risers in
      map-append (λ (c : layouts.Cell). c.name) (row_cells r d tall second placed) above
      ∙ ap (λ (l : List (List ℕ)). l ++ names_of above) (row-names second floor tall 0 items known.0)
      ∙ ap (λ (l : List (List ℕ)). map (name_at d) (instances_in (seats_in items)) ++ l) (levels-names third next ws rows risers (omega arith) (omega arith) known.1)
      ∙ sym (map-append (name_at d) (instances_in (seats_in items)) (all_instances (cells_in rows)))

-- the values at all numbers of a list are those of its elements
names-range : (value : Option Inst → List ℕ) (at : ℕ → Option Inst) (from : ℕ) (xs : List Inst) → ((k n : ℕ) → n ≡ from + k → at n ≡ slice_get xs k)
    → map (λ (n : ℕ). value (at n)) (range_with_len from (length xs)) ≡ map (λ (i : Inst). value (Some i)) xs
names-range value at from [] same = refl
names-range value at from (x ∷ xs) same =
    ap (λ (o : Option Inst). value o ∷ map (λ (n : ℕ). value (at n)) (range_with_len (from + 1) (length xs))) (same 0 from (omega arith))
    ∙ ap (λ (l : List (List ℕ)). value (Some x) ∷ l) (names-range value at (from + 1) xs (λ k n is. same (suc k) n (omega arith)))

-- the names of all instances are those at their numbers
names-are : (d : Netlist) → map (name_at d) (range_with_len 0 (length d.instances)) ≡ instance_names d
names-are d = names-range name_in (slice_get d.instances) 0 d.instances (λ k n is. ap (slice_get d.instances) (omega arith))

module _ (r : RuleValues) (d : Netlist) (is : IsNetlist d) (fed : Fed) (from : IsFed d fed) (ws : List Wiring) (each : length ws ≡ length fed.rows + 1) where
  -- the cells of the layout have the names of the seats' instances
  layout-names : cell_names (stack_layout r d fed ws) ≡ map (name_at d) (all_instances (cells_in fed.rows))
  layout-names = ap cell_names (stack-rows r d fed ws from) ∙ levels-names r d 0 0 ws fed.rows (risers_in r d fed ws) each (risers-each r d fed ws) (rows-known d fed from.placed is)

  -- the cells have the names of the instances, each once
  pub stack-names : IsPermutation (instance_names d) (cell_names (stack_layout r d fed ws))
  stack-names =
      let range : List ℕ = range_with_len 0 (length d.instances) in
      let moved : IsPermutation (map (name_at d) range) (map (name_at d) (all_instances (cells_in fed.rows))) =
      IsPermutation-map (name_at d) range (all_instances (cells_in fed.rows)) from.placed.once in
      subst (λ (l : List (List ℕ)). IsPermutation l (cell_names (stack_layout r d fed ws))) (names-are d)
      (subst (IsPermutation (map (name_at d) range)) (sym layout-names) moved)

  -- cells of one name are one
  pub named-once : (n m : ℕ) (a b : layouts.Cell) → slice_get (stack_layout r d fed ws).cells n ≡ Some a → slice_get (stack_layout r d fed ws).cells m ≡ Some b → a.name ≡ b.name → n ≡ m
  named-once n m a b first second same =
      let names : List (List ℕ) = cell_names (stack_layout r d fed ws) in
      let different = IsDistinct-IsPermutation bytes_eq bytes-flips (instance_names d) names stack-names is.different_instances in
      let one = place-get names n a.name different (map-at (λ (c : layouts.Cell). c.name) (stack_layout r d fed ws).cells n a first) in
      let other = place-get names m b.name different (map-at (λ (c : layouts.Cell). c.name) (stack_layout r d fed ws).cells m b second) in
      cc
