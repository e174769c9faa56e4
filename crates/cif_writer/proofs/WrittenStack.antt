use Rattle.geom_core.specs.declared.layout.Cell as layouts
use Rattle.cif_text.specs.Written as written
use Rattle.cif_text.proofs.WrittenLayout as layout
use Rattle.std.proofs.Common.{◌≡◌, refl, ap, ap₂, subst, sym, ◌∙◌, append_assoc, ℕ, ◌+◌, ◌<◌, List, [], ◌∷◌, ◌++◌, length, map, Bool, Option, Some, Ok, add-zero, arith}
use Rattle.std.proofs.lemmas.List.{append-nil, length-append, length-map}
use Rattle.std.specs.List.{AllByRecursion}
use Rattle.std.specs.Prelude.{slice_get}
use Rattle.geom_core.specs.Moving.{moved_shape, turn_at}
use Rattle.geom_core.specs.declared.layout.Shape.{Shape}
use Rattle.geom_core.specs.declared.turn.Place.{Place}
use Rattle.tech_rules.specs.Rules.{RuleValues, ValidRules}
use Rattle.design_model.specs.Netlist.{Netlist, IsNetlist}
use Rattle.design_model.specs.Room.{HasRoom}
use Rattle.design_model.specs.declared.design.CellKind.{CellKind}
use Rattle.design_model.specs.declared.design.Inst.{Inst}
use Rattle.row_model.specs.declared.rows.Seat.{Seat}
use Rattle.feed_cells.specs.Fed.{Fed, IsFed, item_width}
use Rattle.feed_cells.specs.declared.fed.Item.{Item}
use Rattle.feed_cells.specs.declared.fed.Item.TheVariants.{Cell, Feed}
use Rattle.channel_model.specs.declared.wiring.Wiring.{Wiring}
use Rattle.wire_geom.specs.declared.drawn.Drawn.{Drawn}
use Rattle.cif_text.proofs.WrittenMeaning.{written-means}
use Rattle.cif_text.proofs.WrittenText.{written-reads}
use Rattle.cif_text.specs.ReadsAs.{ReadsAs}
use Rattle.cif_text.specs.Symbols.{Symbol}
use Rattle.channel_stack.proofs.KnownItems.{KnownCell, instance-known}
use Rattle.channel_stack.proofs.Planned.{height_of_row, row_heights}
use Rattle.channel_stack.proofs.StackBounds.{heights-of}
use Rattle.channel_stack.specs.Layouts.{instance_cells, item_cells, item_shapes, items_shapes, kind_cells, kind_drawing, layout_of, row_cells, row_shapes, stacked_cells, stacked_shapes, wire_shapes}
use Rattle.channel_stack.specs.Routed.{IsRouted}
use Rattle.channel_stack.specs.Stack.{Stacked, placed_from, placed_rows, row_bases, stack_of}
use Rattle.channel_stack.specs.declared.placed.PlacedItem.{PlacedItem}
use Rattle.cif_writer.specs.LayoutText.{placed_text}
use Rattle.cif_writer.specs.FeedHeights.{feed_heights}
use Rattle.cif_writer.specs.Labels.{Mark, item_marks, label_of}
use Rattle.cif_writer.specs.Symbols.{copies_of, copy_of, feed_number, items_of, main_items, name_of, number_of, row_items, symbols_of, wires_of}
use Rattle.cif_writer.proofs.FedItems.{AreThere, IsThere, items-there}
use Rattle.cif_writer.proofs.FoundSymbols.{symbols_in, kind-found, feed-found}
use Rattle.cif_writer.proofs.Writable.{stack-writable}
use Rattle.std_laws.proofs.Places.{at-place}

-- the shapes and the cells of the main level in two parts
shapes-append : (symbols : List Symbol) (xs ys : List written.MainItem)
    → layout.items_shapes symbols (xs ++ ys) ≡ layout.items_shapes symbols xs ++ layout.items_shapes symbols ys
shapes-append symbols [] ys = refl
shapes-append symbols (x ∷ xs) ys =
    ap (λ (l : List Shape). layout.item_shapes symbols x ++ l) (shapes-append symbols xs ys)
    ∙ sym (append_assoc (layout.item_shapes symbols x) (layout.items_shapes symbols xs) (layout.items_shapes symbols ys))

cells-append : (symbols : List Symbol) (first : ℕ) (xs ys : List written.MainItem)
    → layout.items_cells symbols first (xs ++ ys) ≡ layout.items_cells symbols first xs ++ layout.items_cells symbols (first + length (layout.items_shapes symbols xs)) ys
cells-append symbols first [] ys = ap (λ (n : ℕ). layout.items_cells symbols n ys) (omega arith)
cells-append symbols first (x ∷ xs) ys =
    let own : List Shape = layout.item_shapes symbols x in
    let others : List Shape = layout.items_shapes symbols xs in
    let many : first + length own + length others ≡ first + length (own ++ others) = omega (arith, length-append own others) in
    ap (λ (l : List layouts.Cell). layout.item_cells symbols first x ++ l)
    (cells-append symbols (first + length own) xs ys
    ∙ ap (λ (n : ℕ). layout.items_cells symbols (first + length own) xs ++ layout.items_cells symbols n ys) many)
    ∙ sym (append_assoc (layout.item_cells symbols first x) (layout.items_cells symbols (first + length own) xs) (layout.items_cells symbols (first + length (own ++ others)) ys))

-- labels are no shapes, and no cells
marks-shapes : (symbols : List Symbol) (ms : List Mark) (ys : List written.MainItem)
    → layout.items_shapes symbols (map label_of ms ++ ys) ≡ layout.items_shapes symbols ys
marks-shapes symbols [] ys = refl
marks-shapes symbols (m ∷ ms) ys = marks-shapes symbols ms ys

marks-cells : (symbols : List Symbol) (first : ℕ) (ms : List Mark) (ys : List written.MainItem)
    → layout.items_cells symbols first (map label_of ms ++ ys) ≡ layout.items_cells symbols first ys
marks-cells symbols first [] ys = refl
marks-cells symbols first (m ∷ ms) ys =
    ap (λ (n : ℕ). layout.items_cells symbols n (map label_of ms ++ ys)) (add-zero first) ∙ marks-cells symbols first ms ys

-- rectangles of wires are written as they are, and are no cells
wires-shapes : (symbols : List Symbol) (drawn : List Drawn) → layout.items_shapes symbols (wires_of drawn) ≡ wire_shapes drawn
wires-shapes symbols [] = refl
wires-shapes symbols (a ∷ drawn) = ap (λ (l : List Shape). a.shape ∷ l) (wires-shapes symbols drawn)

wires-cells : (symbols : List Symbol) (first : ℕ) (drawn : List Drawn) → layout.items_cells symbols first (wires_of drawn) ≡ []
wires-cells symbols first [] = refl
wires-cells symbols first (a ∷ drawn) = wires-cells symbols (first + 1) drawn

module _ (labels : Bool) (r : RuleValues) (d : Netlist) (is : IsNetlist d) (fed : Fed) (from : IsFed d fed) where
  abbrev symbols : List Symbol
  symbols = symbols_in r d fed

  -- the instance and the kind of a cell that is there
  known-of : (s : Seat) → s.instance < length d.instances → KnownCell d s
  known-of s inside = let inst : (i : Inst) × (slice_get d.instances s.instance ≡ Some i) = at-place d.instances s.instance inside in instance-known d is s inst.0 inst.1

  abbrev tall : List ℕ
  tall = feed_heights fed

  -- an item's copy in a row of this height has the item's shapes and its cell
  item-shapes : (height : ℕ) (item : Item) (place : Place) → IsThere d tall height item
      → layout.item_shapes symbols (copy_of d (feed_number d tall height) item place) ≡ item_shapes r d height (record { item = item; place = place })
  item-shapes height (Cell s) place there =
      let known : KnownCell d s = known-of s there in
      ap (λ (o : Option Inst). layout.item_shapes symbols (written.copy (name_of o) (number_of o) place)) known.is_instance
      ∙ ap (layout.copied_shapes place) (kind-found r d fed known.inst.kind known.kind known.is_kind)
      ∙ ap (λ (o : Option CellKind). map (moved_shape (turn_at place)) (kind_drawing r o)) (sym known.is_kind_of)
  item-shapes height (Feed net) place there = ap (layout.copied_shapes place) (feed-found r d fed height there)

  item-cells : (first height : ℕ) (item : Item) (place : Place) → IsThere d tall height item
      → layout.item_cells symbols first (copy_of d (feed_number d tall height) item place) ≡ item_cells r d first item place
  item-cells first height (Cell s) place there =
      let known : KnownCell d s = known-of s there in
      ap (λ (o : Option Inst). layout.item_cells symbols first (written.copy (name_of o) (number_of o) place)) known.is_instance
      ∙ ap (layout.cell_of first known.inst.name place) (kind-found r d fed known.inst.kind known.kind known.is_kind)
      ∙ sym (ap (instance_cells r d place first) known.is_instance ∙ ap (kind_cells r known.inst place first) known.is_kind)
  item-cells first height (Feed net) place there = refl

  -- so has a row
  abbrev ArePlacedThere : ℕ → List PlacedItem → Type 0
  ArePlacedThere height row = AllByRecursion (λ (p : PlacedItem). IsThere d tall height p.item) row

  copies-shapes : (height : ℕ) (row : List PlacedItem) → ArePlacedThere height row
      → layout.items_shapes symbols (copies_of labels r d (feed_number d tall height) row) ≡ items_shapes r d height row
  copies-shapes height [] there = refl
  copies-shapes height (p ∷ row) there =
      ap (λ (l : List Shape). layout.item_shapes symbols (copy_of d (feed_number d tall height) p.item p.place) ++ l)
      (marks-shapes symbols (item_marks labels r d p) (copies_of labels r d (feed_number d tall height) row))
      ∙ ap (λ (l : List Shape). l ++ layout.items_shapes symbols (copies_of labels r d (feed_number d tall height) row)) (item-shapes height p.item p.place there.0)
      ∙ ap (λ (l : List Shape). item_shapes r d height p ++ l) (copies-shapes height row there.1)

  copies-cells : (height first : ℕ) (row : List PlacedItem) → ArePlacedThere height row
      → layout.items_cells symbols first (copies_of labels r d (feed_number d tall height) row) ≡ row_cells r d height first row
  copies-cells height first [] there = refl
  copies-cells height first (p ∷ row) there =
      let number : ℕ = feed_number d tall height in
      ap (λ (l : List layouts.Cell). layout.item_cells symbols first (copy_of d number p.item p.place) ++ l)
      (marks-cells symbols (first + length (layout.item_shapes symbols (copy_of d number p.item p.place))) (item_marks labels r d p) (copies_of labels r d number row))
      ∙ ap (λ (l : List layouts.Cell). l ++ layout.items_cells symbols (first + length (layout.item_shapes symbols (copy_of d number p.item p.place))) (copies_of labels r d number row))
      (item-cells first height p.item p.place there.0)
      ∙ ap (λ (l : List Shape). item_cells r d first p.item p.place ++ layout.items_cells symbols (first + length l) (copies_of labels r d number row)) (item-shapes height p.item p.place there.0)
      ∙ ap (λ (l : List layouts.Cell). item_cells r d first p.item p.place ++ l) (copies-cells height (first + length (item_shapes r d height p)) row there.1)

  -- and with its risers
  row-shapes : (height : ℕ) (row : List PlacedItem) (rise : List Drawn) → ArePlacedThere height row
      → layout.items_shapes symbols (row_items labels r d tall height row rise) ≡ row_shapes r d height row rise
  row-shapes height row rise there =
      shapes-append symbols (copies_of labels r d (feed_number d tall height) row) (wires_of rise)
      ∙ ap₂ (λ (l m : List Shape). l ++ m) (copies-shapes height row there) (wires-shapes symbols rise)

  row-cells : (height first : ℕ) (row : List PlacedItem) (rise : List Drawn) → ArePlacedThere height row
      → layout.items_cells symbols first (row_items labels r d tall height row rise) ≡ row_cells r d height first row
  row-cells height first row rise there =
      let copies : List written.MainItem = copies_of labels r d (feed_number d tall height) row in
      cells-append symbols first copies (wires_of rise)
      ∙ ap₂ (λ (l m : List layouts.Cell). l ++ m) (copies-cells height first row there)
      (wires-cells symbols (first + length (layout.items_shapes symbols copies)) rise)
      ∙ append-nil (row_cells r d height first row)

  -- items that are there are so at their places
  placed-there : (height base left : ℕ) (items : List Item) → AllByRecursion (IsThere d tall height) items → ArePlacedThere height (placed_from r d base left items)
  placed-there height base left [] there = tt
  placed-there height base left (item ∷ items) there = (there.0, placed-there height base (left + item_width d item) items there.1)

  -- and so have channels and rows on one another
  main-shapes : (channels : List (List Drawn)) (rows : List (List Item)) (bases : List ℕ) (risers : List (List Drawn)) → AreThere d tall rows
      → layout.items_shapes symbols (items_of labels r d tall (row_heights d rows) channels (placed_rows r d rows bases) risers)
      ≡ stacked_shapes r d (row_heights d rows) channels (placed_rows r d rows bases) risers
  main-shapes [] rows bases risers there = refl
  main-shapes (drawn ∷ channels) [] bases risers there = wires-shapes symbols drawn
  main-shapes (drawn ∷ channels) (items ∷ rows) [] risers there = wires-shapes symbols drawn
  main-shapes (drawn ∷ channels) (items ∷ rows) (base ∷ bases) [] there = wires-shapes symbols drawn
  main-shapes (drawn ∷ channels) (items ∷ rows) (base ∷ bases) (rise ∷ risers) there =
      let height : ℕ = height_of_row d items in
      let row : List PlacedItem = placed_from r d base 0 items in
      let level : List written.MainItem = row_items labels r d tall height row rise in
      let above : List written.MainItem = items_of labels r d tall (row_heights d rows) channels (placed_rows r d rows bases) risers in
      shapes-append symbols (wires_of drawn) (level ++ above)
      ∙ ap (λ (l : List Shape). l ++ layout.items_shapes symbols (level ++ above)) (wires-shapes symbols drawn)
      ∙ ap (λ (l : List Shape). wire_shapes drawn ++ l)
      (shapes-append symbols level above
      ∙ ap₂ (λ (l m : List Shape). l ++ m) (row-shapes height row rise (placed-there height base 0 items there.0)) (main-shapes channels rows bases risers there.1))

  main-cells : (first : ℕ) (channels : List (List Drawn)) (rows : List (List Item)) (bases : List ℕ) (risers : List (List Drawn)) → AreThere d tall rows
      → layout.items_cells symbols first (items_of labels r d tall (row_heights d rows) channels (placed_rows r d rows bases) risers)
      ≡ stacked_cells r d (row_heights d rows) first channels (placed_rows r d rows bases) risers
  main-cells first [] rows bases risers there = refl
  main-cells first (drawn ∷ channels) [] bases risers there = wires-cells symbols first drawn
  main-cells first (drawn ∷ channels) (items ∷ rows) [] risers there = wires-cells symbols first drawn
  main-cells first (drawn ∷ channels) (items ∷ rows) (base ∷ bases) [] there = wires-cells symbols first drawn
  main-cells first (drawn ∷ channels) (items ∷ rows) (base ∷ bases) (rise ∷ risers) there =
      let height : ℕ = height_of_row d items in
      let row : List PlacedItem = placed_from r d base 0 items in
      let here : ArePlacedThere height row = placed-there height base 0 items there.0 in
      let level : List written.MainItem = row_items labels r d tall height row rise in
      let above : List written.MainItem = items_of labels r d tall (row_heights d rows) channels (placed_rows r d rows bases) risers in
      let behind : ℕ = first + length drawn in
      let wires : length (layout.items_shapes symbols (wires_of drawn)) ≡ length drawn =
      ap length (wires-shapes symbols drawn) ∙ length-map drawn (λ (a : Drawn). a.shape) in
      cells-append symbols first (wires_of drawn) (level ++ above)
      ∙ ap (λ (l : List layouts.Cell). l ++ layout.items_cells symbols (first + length (layout.items_shapes symbols (wires_of drawn))) (level ++ above))
      (wires-cells symbols first drawn)
      ∙ ap (λ (n : ℕ). layout.items_cells symbols (first + n) (level ++ above)) wires
      ∙ cells-append symbols behind level above
      ∙ ap (λ (l : List layouts.Cell). l ++ layout.items_cells symbols (behind + length (layout.items_shapes symbols level)) above) (row-cells height behind row rise here)
      ∙ ap (λ (l : List Shape). row_cells r d height behind row ++ layout.items_cells symbols (behind + length l) above) (row-shapes height row rise here)
      ∙ ap (λ (l : List layouts.Cell). row_cells r d height behind row ++ l) (main-cells (behind + length (row_shapes r d height row rise)) channels rows bases risers there.1)

-- what is written for a stack is the layout that it is
written-stack : (labels : Bool) (r : RuleValues) (d : Netlist) (fed : Fed) → IsNetlist d → IsFed d fed → (ws : List Wiring)
    → layout.written_layout (symbols_of r d fed) (main_items labels r d (feed_heights fed) (stack_of r d fed ws)) ≡ layout_of r d (stack_of r d fed ws)
unfolding layout_of stack_of
written-stack labels r d fed is from ws =
    let there = items-there d fed is from in
    let bases : List ℕ = row_bases r fed.heights 0 ws in
    let placed : Stacked = stack_of r d fed ws in
    let same : row_heights d fed.rows ≡ fed.heights = sym (heights-of d fed from) in
    let symbols : List Symbol = symbols_in r d fed in
    let shapes = subst (λ (hs : List ℕ). layout.items_shapes symbols (items_of labels r d (feed_heights fed) hs placed.shapes placed.cells placed.risers) ≡ stacked_shapes r d hs placed.shapes placed.cells placed.risers) same
    (main-shapes labels r d is fed from placed.shapes fed.rows bases placed.risers there) in
    let cells = subst (λ (hs : List ℕ). layout.items_cells symbols 0 (items_of labels r d (feed_heights fed) hs placed.shapes placed.cells placed.risers) ≡ stacked_cells r d hs 0 placed.shapes placed.cells placed.risers) same
    (main-cells labels r d is fed from 0 placed.shapes fed.rows bases placed.risers there) in
    (λ i. record { cells = cells i; shapes = shapes i })

-- the text of a stack reads as that layout
pub stack-reads : (labels : Bool) (r : RuleValues) → ValidRules r → (d : Netlist) → IsNetlist d → HasRoom r d → (fed : Fed) → IsFed d fed
    → (ws : List Wiring) → IsRouted r d fed ws → ReadsAs (placed_text labels r d fed (stack_of r d fed ws)) (layout_of r d (stack_of r d fed ws))
unfolding placed_text
stack-reads labels r valid d is room fed from ws routed =
    let ds : List written.WrittenSymbol = symbols_of r d fed in
    let items : List written.MainItem = main_items labels r d (feed_heights fed) (stack_of r d fed ws) in
    let writable : layout.IsWritable ds items = stack-writable labels r d fed ws valid is from room routed in
    record {
      commands = written.layout_commands ds items;
      reads = written-reads ds items writable;
      means = written-means ds items writable ∙ ap Ok (written-stack labels r d fed is from ws);
    }
