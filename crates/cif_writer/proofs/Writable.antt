use Rattle.std.proofs.Common.{◌≡◌, ℕ, ◌+◌, ◌*◌, ◌<◌, ◌≤◌, List, [], ◌∷◌, length, map, All, Bool, true, false, Some, arith, length-append, subst, sym}
use Rattle.std.proofs.Math.Nat.{mul-le-mul_right}
use Rattle.std.proofs.lemmas.List.{length-map}
use Rattle.std.proofs.lemmas.List.Elements.{recursion_from_All}
use Rattle.std.specs.List.{AllByRecursion, list_any}
use Rattle.std.specs.Prelude.{slice_get}
use Rattle.tech_rules.specs.Rules.{RuleValues, ValidRules}
use Rattle.geom_core.specs.Reach.{IsShapeInReach}
use Rattle.design_model.specs.Netlist.{Netlist, IsNetlist, IsKind}
use Rattle.design_model.specs.Room.{HasRoom, least_height}
use Rattle.design_model.specs.declared.design.CellKind.{CellKind}
use Rattle.channel_model.specs.Elements.{elements}
use Rattle.channel_model.specs.Wired.{IsOnGrid}
use Rattle.channel_model.specs.declared.wiring.Wiring.{Wiring}
use Rattle.wire_geom.specs.Drawing.{drawing}
use Rattle.wire_geom.specs.declared.drawn.Drawn.{Drawn}
use Rattle.feed_cells.specs.Fed.{Fed, IsFed, cells_in, items_width, seats_in}
use Rattle.feed_cells.specs.declared.fed.Item.{Item}
use Rattle.layout_laws.specs.Heights.{channel_height}
use Rattle.cif_text.proofs.WrittenLayout.{IsDrawn, IsItem, IsWritable, symbols_from}
use Rattle.cif_writer.specs.FeedHeights.{feed_heights, is_feed}
use Rattle.cif_writer.specs.InReach.{IsPlaceInReach}
use Rattle.channel_stack.specs.declared.placed.PlacedItem.{PlacedItem}
use Rattle.cif_writer.specs.Symbols.{feed_symbol, items_of, main_items, symbol_for, symbols_of}
use Rattle.channel_stack.specs.Routed.{IsRouted}
use Rattle.channel_stack.specs.Stack.{channel_bases, drawings, most_columns, placed_rows, row_bases, stack_of, stack_top}
use Rattle.cif_writer.proofs.FedItems.{IsThere, feed-kind, items-there, kinds-low, kinds-narrow}
use Rattle.cif_writer.proofs.HeightLaws.{feeds-few, feeds-hold}
use Rattle.channel_stack.proofs.Planned.{height_of_row, risers_in, row_heights}
use Rattle.channel_stack.proofs.RowHeights.{height-within, row-low, row-room}
use Rattle.channel_stack.proofs.StackBounds.{IsBounded, bases-within, channel-below, columns-most, heights-counted, heights-of}
use Rattle.cif_writer.proofs.WritableItems.{IsLaid, IsRow, items-are, rows-are}
use Rattle.cif_writer.proofs.WritableRisers.{risers-are}
use Rattle.cif_writer.proofs.WritableSymbols.{feeds-are, kinds-are}
use Rattle.cif_writer.proofs.WritableWires.{IsWire, drawing-is}
use Rattle.std_laws.proofs.Members.{get-contains}
use Rattle.std_laws.proofs.Every.{every-append, every-both, every-from-get, every-weaker}

-- the wirings of a routed design, and its rows
wirings-laid : (r : RuleValues) (d : Netlist) (fed : Fed) (ws : List Wiring) → IsRouted r d fed ws → AllByRecursion (IsLaid (most_columns ws)) ws
wirings-laid r d fed ws routed =
    every-weaker (λ (w : Wiring). (w.columns ≤ most_columns ws) × All (IsOnGrid w.columns w.tracks) (elements w)) (IsLaid (most_columns ws))
    (λ (w : Wiring) (h : (w.columns ≤ most_columns ws) × All (IsOnGrid w.columns w.tracks) (elements w)). record { narrow = h.0; on_grid = h.1 }) ws
    (every-both (λ (w : Wiring). w.columns ≤ most_columns ws) (λ (w : Wiring). All (IsOnGrid w.columns w.tracks) (elements w)) ws
    (columns-most 0 ws)
    (every-from-get (λ (w : Wiring). All (IsOnGrid w.columns w.tracks) (elements w)) ws routed.on_grid))

rows-fit : (d : Netlist) (fed : Fed) → IsNetlist d → IsFed d fed → AllByRecursion (λ (row : List Item). items_width d row ≤ fed.width) fed.rows
    → AllByRecursion (IsRow d (feed_heights fed) fed.width) fed.rows
rows-fit d fed good is narrow =
    every-weaker (λ (row : List Item). (items_width d row ≤ fed.width) × AllByRecursion (IsThere d (feed_heights fed) (height_of_row d row)) row) (IsRow d (feed_heights fed) fed.width)
    (λ (row : List Item) (h : (items_width d row ≤ fed.width) × AllByRecursion (IsThere d (feed_heights fed) (height_of_row d row)) row). record { narrow = h.0; there = h.1 }) fed.rows
    (every-both (λ (row : List Item). items_width d row ≤ fed.width) (λ (row : List Item). AllByRecursion (IsThere d (feed_heights fed) (height_of_row d row)) row) fed.rows narrow
    (items-there d fed good is))

-- a row with a feed has some height, and one that is low
row-some : (r : RuleValues) (d : Netlist) (fed : Fed) → ValidRules r → IsNetlist d → IsFed d fed → HasRoom r d → (k : ℕ) (items : List Item) → slice_get fed.rows k ≡ Some items
    → list_any is_feed items ≡ true → 0 < height_of_row d items
row-some r d fed valid good is tall k items at some =
    let pin : 1 ≤ r.grid.pin = valid.ranges.grid.pin.0 in
    let room : least_height r ≤ height_of_row d items =
    row-room r d good tall fed is.placed items (get-contains fed.rows k items at) (feed-kind d fed good is k items at some) in
    omega arith

pub feeds-room : (r : RuleValues) (d : Netlist) (fed : Fed) → ValidRules r → IsNetlist d → IsFed d fed → HasRoom r d
    → AllByRecursion (λ (h : ℕ). (0 < h) × (h ≤ 200000000)) (feed_heights fed)
feeds-room r d fed valid good is tall =
    recursion_from_All (λ (h : ℕ). (0 < h) × (h ≤ 200000000)) (feed_heights fed)
    (feeds-hold d fed is (λ (h : ℕ). (0 < h) × (h ≤ 200000000))
    (λ k items at some. (
      row-some r d fed valid good is tall k items at some,
      omega (arith, row-low d good fed is.placed items (get-contains fed.rows k items at), good.low),
    )))

-- and lies within the stack
feeds-within : (r : RuleValues) (d : Netlist) (fed : Fed) (ws : List Wiring) → ValidRules r → IsNetlist d → IsFed d fed → HasRoom r d → IsRouted r d fed ws
    → AllByRecursion (λ (h : ℕ). (0 < h) × (h * r.grid.centi ≤ 1000000000)) (feed_heights fed)
feeds-within r d fed ws valid good is tall routed =
    let bounds : IsBounded r d fed ws = bases-within r d fed ws is routed in
    recursion_from_All (λ (h : ℕ). (0 < h) × (h * r.grid.centi ≤ 1000000000)) (feed_heights fed)
    (feeds-hold d fed is (λ (h : ℕ). (0 < h) × (h * r.grid.centi ≤ 1000000000))
    (λ k items at some.
    let product : height_of_row d items * r.grid.centi ≤ stack_top r fed.heights 0 ws * r.grid.centi =
    mul-le-mul_right r.grid.centi (height-within r d fed ws is routed.each k items at) in
    (row-some r d fed valid good is tall k items at some, omega (arith, bounds.height))))

-- feeds have few heights
heights-few : (d : Netlist) (fed : Fed) → IsFed d fed → length (feed_heights fed) ≤ 1000000
heights-few d fed is =
    let rows : length (cells_in fed.rows) ≡ length fed.rows = length-map fed.rows seats_in in
    let few : length (cells_in fed.rows) ≤ 514 = is.placed.few in
    omega (arith, feeds-few fed, heights-counted d fed is)

-- the layout of a routed design can be written
pub stack-writable : (labels : Bool) (r : RuleValues) (d : Netlist) (fed : Fed) (ws : List Wiring) → ValidRules r → IsNetlist d → IsFed d fed
    → HasRoom r d → IsRouted r d fed ws
    → IsWritable (symbols_of r d fed) (main_items labels r d (feed_heights fed) (stack_of r d fed ws))
unfolding stack_of
stack-writable labels r d fed ws valid good is tall routed =
    let bounds : IsBounded r d fed ws = bases-within r d fed ws is routed in
    let few : length d.kinds < 4294967296 = good.few_kinds in
    let some : length (feed_heights fed) ≤ 1000000 = heights-few d fed is in
    let kinds : length (map (symbol_for r) d.kinds) ≡ length d.kinds = length-map d.kinds (symbol_for r) in
    let feeds : length (map (feed_symbol r) (feed_heights fed)) ≡ length (feed_heights fed) = length-map (feed_heights fed) (feed_symbol r) in
    let count : length (symbols_of r d fed) ≡ length (map (symbol_for r) d.kinds) + length (map (feed_symbol r) (feed_heights fed)) =
    length-append (map (symbol_for r) d.kinds) (map (feed_symbol r) (feed_heights fed)) in
    let heights : row_heights d fed.rows ≡ fed.heights = sym (heights-of d fed is) in
    record {
      few = omega arith;
      symbols = every-append IsDrawn (map (symbol_for r) d.kinds) (map (feed_symbol r) (feed_heights fed))
          (kinds-are r (stack_top r fed.heights 0 ws) fed.width valid bounds.width bounds.height d.kinds (kinds-narrow d fed good is) (recursion_from_All IsKind d.kinds good.kinds)
          (recursion_from_All (λ (k : CellKind). least_height r ≤ k.height) d.kinds tall) (kinds-low r d fed ws good is routed.each))
          (feeds-are r (feed_heights fed) valid (feeds-within r d fed ws valid good is tall routed));
      items = subst (λ (hs : List ℕ). AllByRecursion (IsItem (symbols_from 1 (symbols_of r d fed)))
          (items_of labels r d (feed_heights fed) hs (drawings r ws (channel_bases r hs 0 ws)) (placed_rows r d fed.rows (row_bases r hs 0 ws)) (risers_in r d fed ws))) heights
          (items-are labels r d (feed_heights fed) some valid good fed.width (stack_top r fed.heights 0 ws) bounds.width bounds.height (most_columns ws) bounds.columns
          0 ws fed.rows (risers_in r d fed ws) (subst (λ (hs : List ℕ). stack_top r hs 0 ws ≤ stack_top r fed.heights 0 ws) (sym heights) (omega arith)) (wirings-laid r d fed ws routed)
          (rows-fit d fed good is bounds.rows) (risers-are r d fed ws valid is routed));
    }

-- rectangles in reach, and those of channels
abbrev pub InReach : List Drawn → Type 0
InReach drawn = AllByRecursion (λ (a : Drawn). IsShapeInReach a.shape) drawn

abbrev pub AreReached : List (List Drawn) → Type 0
AreReached channels = AllByRecursion InReach channels

channel-reach : (r : RuleValues) (columns high base : ℕ) (w : Wiring) → ValidRules r → columns * r.grid.column * r.grid.centi ≤ 1000000000
    → high * r.grid.centi ≤ 1000000000 → base + channel_height r w ≤ high → IsLaid columns w → InReach (drawing r base w)
channel-reach r columns high base w valid across up low laid =
    every-weaker IsWire (λ (a : Drawn). IsShapeInReach a.shape) (λ (a : Drawn) (wire : IsWire a). wire.reach) (drawing r base w)
    (drawing-is r valid columns high across up base w laid.narrow low laid.on_grid)

channels-reach : (r : RuleValues) (heights : List ℕ) (columns high base : ℕ) (ws : List Wiring) → ValidRules r → columns * r.grid.column * r.grid.centi ≤ 1000000000
    → high * r.grid.centi ≤ 1000000000 → stack_top r heights base ws ≤ high → AllByRecursion (IsLaid columns) ws
    → AreReached (drawings r ws (channel_bases r heights base ws))
channels-reach r heights columns high base [] valid across up low laid = tt
channels-reach r [] columns high base (w ∷ []) valid across up low laid = (channel-reach r columns high base w valid across up low laid.0, tt)
channels-reach r [] columns high base (w ∷ (v ∷ ws)) valid across up low laid = (channel-reach r columns high base w valid across up low laid.0, tt)
channels-reach r (h ∷ heights) columns high base (w ∷ ws) valid across up low laid =
    let edge : base + channel_height r w ≤ high = omega (arith, channel-below r (h ∷ heights) base w ws) in (
      channel-reach r columns high base w valid across up edge laid.0,
      channels-reach r heights columns high (base + channel_height r w + h) ws valid across up low laid.1,
    )

-- the rectangles of the channels of a routed design are in reach
pub stack-reach : (r : RuleValues) (d : Netlist) (fed : Fed) (ws : List Wiring) → ValidRules r → IsFed d fed → IsRouted r d fed ws
    → AreReached (stack_of r d fed ws).shapes
unfolding stack_of
stack-reach r d fed ws valid is routed =
    let bounds : IsBounded r d fed ws = bases-within r d fed ws is routed in
    channels-reach r fed.heights (most_columns ws) (stack_top r fed.heights 0 ws) 0 ws valid bounds.columns bounds.height (omega arith) (wirings-laid r d fed ws routed)

-- and so are the risers
pub risers-reach : (r : RuleValues) (d : Netlist) (fed : Fed) (ws : List Wiring) → ValidRules r → IsFed d fed → IsRouted r d fed ws
    → AreReached (stack_of r d fed ws).risers
unfolding stack_of
risers-reach r d fed ws valid is routed =
    every-weaker (AllByRecursion IsWire) InReach
    (λ (rise : List Drawn) (are : AllByRecursion IsWire rise). every-weaker IsWire (λ (a : Drawn). IsShapeInReach a.shape) (λ (a : Drawn) (wire : IsWire a). wire.reach) rise are)
    (risers_in r d fed ws) (risers-are r d fed ws valid is routed)

-- so are the places of its items
pub places-reach : (r : RuleValues) (d : Netlist) (fed : Fed) (ws : List Wiring) → ValidRules r → IsNetlist d → IsFed d fed → IsRouted r d fed ws
    → AllByRecursion (λ (row : List PlacedItem). AllByRecursion (λ (p : PlacedItem). IsPlaceInReach p.place) row) (stack_of r d fed ws).cells
unfolding stack_of
places-reach r d fed ws valid good is routed =
    let bounds : IsBounded r d fed ws = bases-within r d fed ws is routed in
    let heights : row_heights d fed.rows ≡ fed.heights = sym (heights-of d fed is) in
    subst (λ (hs : List ℕ). AllByRecursion (λ (row : List PlacedItem). AllByRecursion (λ (p : PlacedItem). IsPlaceInReach p.place) row) (placed_rows r d fed.rows (row_bases r hs 0 ws))) heights
    (rows-are false r d (feed_heights fed) (heights-few d fed is) valid good fed.width (stack_top r fed.heights 0 ws) bounds.width bounds.height 0 ws fed.rows
    (subst (λ (hs : List ℕ). stack_top r hs 0 ws ≤ stack_top r fed.heights 0 ws) (sym heights) (omega arith)) (rows-fit d fed good is bounds.rows))
