use Rattle.feed_cells.specs.declared.fed.Item as items
use Rattle.cif_text.specs.Written as written
use Rattle.std.proofs.Common.{◌≡◌, ℕ, suc, pos, ◌+◌, ◌*◌, ◌<◌, ◌≤◌, ◌++◌, List, [], ◌∷◌, length, map, All, Bool, true, false, Option, Some, None, Contains, sym, ap, subst, ◌∙◌, refl, add-one, arith}
use Rattle.std.proofs.Math.Nat.{mul-le-mul_right, mul_assoc}
use Rattle.std.proofs.lemmas.List.{length-map}
use Rattle.std.proofs.lemmas.List.Elements.{recursion_from_All}
use Rattle.std.proofs.lemmas.Option.{slice_get-map, slice_get_within}
use Rattle.std.specs.List.{AllByRecursion}
use Rattle.std.specs.Prelude.{slice_get, option_map}
use Rattle.feed_cells.proofs.FedWidths.{width-cons}
use Rattle.tech_rules.specs.Rules.{RuleValues, ValidRules}
use Rattle.geom_core.specs.Names.{IsName}
use Rattle.design_model.specs.Netlist.{Netlist, IsNetlist}
use Rattle.design_model.specs.declared.design.CellKind.{CellKind}
use Rattle.design_model.specs.declared.design.Inst.{Inst}
use Rattle.channel_model.specs.Elements.{elements}
use Rattle.channel_model.specs.Wired.{IsOnGrid}
use Rattle.channel_model.specs.declared.wiring.Wiring.{Wiring}
use Rattle.wire_geom.specs.Drawing.{drawing}
use Rattle.wire_geom.specs.declared.drawn.Drawn.{Drawn}
use Rattle.feed_cells.specs.Fed.{item_width, items_width}
use Rattle.feed_cells.specs.declared.fed.Item.TheVariants.{Cell, Feed}
use Rattle.geom_core.specs.declared.turn.Place.{Place}
use Rattle.layout_laws.specs.Heights.{channel_height}
use Rattle.cif_text.proofs.WrittenLayout.{IsWhole, IsCopy, IsItem, symbol_at, symbols_from}
use Rattle.cif_text.specs.Symbols.{symbol_of}
use Rattle.cif_text.proofs.TextLemmas.{symbol_of-written}
use Rattle.cif_writer.specs.FeedHeights.{height_place}
use Rattle.cif_writer.specs.Symbols.{copies_of, copy_of, feed_number, feed_symbol, items_of, name_of, number_of, symbol_for, wires_of}
use Rattle.cif_writer.specs.InReach.{IsPlaceInReach}
use Rattle.cif_writer.specs.Labels.{item_marks, label_of}
use Rattle.channel_stack.specs.declared.placed.PlacedItem.{PlacedItem}
use Rattle.cif_writer.proofs.HeightLaws.{height-placed}
use Rattle.cif_writer.proofs.WritableLabels.{marks-are, whole-place}
use Rattle.channel_stack.proofs.Planned.{height_of_row, row_heights}
use Rattle.channel_stack.specs.Stack.{channel_bases, row_bases, stack_top, drawings, placed_rows, placed_from, item_place, place_at, corner_column, is_mirrored}
use Rattle.cif_writer.proofs.FedItems.{IsThere}
use Rattle.channel_stack.proofs.StackBounds.{channel-below}
use Rattle.cif_writer.proofs.WholeBoxes.{near-of}
use Rattle.cif_writer.proofs.WritableSymbols.{name-is}
use Rattle.cif_writer.proofs.WritableWires.{IsWire, drawing-is}
use Rattle.std_laws.proofs.Places.{at-place, get-before, get-behind, map-at}
use Rattle.std_laws.proofs.Every.{every-append, every-get, every-map, every-weaker}

-- a wiring on its grid, of at most so many columns
pub record IsLaid (columns : ℕ) (w : Wiring) : Type 0 where
  pub narrow : w.columns ≤ columns
  pub on_grid : All (IsOnGrid w.columns w.tracks) (elements w)

-- a row of at most such a width, of items of the design, with its height among those of feeds
pub record IsRow (d : Netlist) (tall : List ℕ) (wide : ℕ) (row : List items.Item) : Type 0 where
  pub narrow : items_width d row ≤ wide
  pub there : AllByRecursion (IsThere d tall (height_of_row d row)) row

-- the corner of an item lies between its edges
corner-within : (mirror : Bool) (left width : ℕ) → corner_column mirror left width ≤ left + width
corner-within true left width = omega arith
corner-within false left width = omega arith

-- a cell that fits with those behind it fits alone, and those fit behind it
first-fits : (left w ws total wide : ℕ) → total ≡ w + ws → left + total ≤ wide → left + w ≤ wide
first-fits left w ws total wide parted room = omega arith

others-fit : (left w ws total wide : ℕ) → total ≡ w + ws → left + total ≤ wide → (left + w) + ws ≤ wide
others-fit left w ws total wide parted room = omega arith

module _ (labels : Bool) (r : RuleValues) (d : Netlist) (tall : List ℕ) (many : length tall ≤ 1000000) (valid : ValidRules r) (good : IsNetlist d) (wide high : ℕ)
    (across : wide * r.grid.column * r.grid.centi ≤ 1000000000) (up : high * r.grid.centi ≤ 1000000000) where
  abbrev symbols : List written.WrittenSymbol
  symbols = map (symbol_for r) d.kinds ++ map (feed_symbol r) tall

  -- the place of an item is whole in centimicrons
  place-whole : (base : ℕ) (mirror : Bool) (column : ℕ) → base ≤ high → column ≤ wide → IsWhole (place_at r base mirror column)
  place-whole base mirror column low narrow =
      let units : column * r.grid.column ≤ wide * r.grid.column = mul-le-mul_right r.grid.column narrow in
      let long : column * r.grid.column * r.grid.centi ≤ wide * r.grid.column * r.grid.centi = mul-le-mul_right r.grid.centi units in
      let tall : base * r.grid.centi ≤ high * r.grid.centi = mul-le-mul_right r.grid.centi low in
      record {
        across = pos (column * r.grid.column * r.grid.centi);
        up = pos (base * r.grid.centi);
        across_is = ap pos (sym (mul_assoc 2 (column * r.grid.column) r.grid.centi));
        up_is = ap pos (sym (mul_assoc 2 base r.grid.centi));
        across_near = near-of (column * r.grid.column * r.grid.centi) (omega arith);
        up_near = near-of (base * r.grid.centi) (omega arith);
      }

  -- an instance at a whole place is a copy of its kind's symbol
  copy-is : (i : Inst) (place : Place) → i.kind < length d.kinds → IsName i.name → IsWhole place
      → IsCopy (symbols_from 1 symbols) (Some i.name) (i.kind + 1) place
  copy-is i place inside named whole =
      let found : (k : CellKind) × (slice_get d.kinds i.kind ≡ Some k) = at-place d.kinds i.kind inside in
      let drawn : slice_get (map (symbol_for r) d.kinds) i.kind ≡ Some (symbol_for r found.0) =
      slice_get-map (symbol_for r) d.kinds i.kind ∙ ap (option_map (symbol_for r)) found.1 in
      let among : slice_get symbols i.kind ≡ Some (symbol_for r found.0) =
      get-before (map (symbol_for r) d.kinds) (map (feed_symbol r) tall) i.kind (symbol_for r found.0) drawn in
      let few : length d.kinds < 4294967296 = good.few_kinds in
      record {
        number = record { high = omega arith };
        symbol = symbol_at (suc i.kind) (symbol_for r found.0);
        found = ap (λ (m : ℕ). symbol_of m (symbols_from 1 symbols)) (add-one i.kind)
            ∙ symbol_of-written i.kind symbols (symbol_for r found.0) among;
        named = name-is i.name named;
        kind = refl;
        whole = whole;
      }

  cell-is : (instance : ℕ) (place : Place) → instance < length d.instances → IsWhole place
      → IsCopy (symbols_from 1 symbols) (name_of (slice_get d.instances instance)) (number_of (slice_get d.instances instance)) place
  cell-is instance place inside whole =
      let inst : (i : Inst) × (slice_get d.instances instance ≡ Some i) = at-place d.instances instance inside in
      let kind : inst.0.kind < length d.kinds =
      every-get (λ (i : Inst). i.kind < length d.kinds) d.instances instance inst.0
      (recursion_from_All (λ (i : Inst). i.kind < length d.kinds) d.instances good.instances) inst.1 in
      let name : IsName inst.0.name =
      every-get (λ (i : Inst). IsName i.name) d.instances instance inst.0
      (recursion_from_All (λ (i : Inst). IsName i.name) d.instances good.instance_names) inst.1 in
      subst (λ (o : Option Inst). IsCopy (symbols_from 1 symbols) (name_of o) (number_of o) place) (sym inst.1) (copy-is inst.0 place kind name whole)

  -- a feed at a whole place is a copy of the symbol of the feeds of its row, behind those of the kinds
  feed-is : (height : ℕ) (place : Place) → Contains tall height → IsWhole place → IsCopy (symbols_from 1 symbols) None (feed_number d tall height) place
  feed-is height place member whole =
      let kinds : List written.WrittenSymbol = map (symbol_for r) d.kinds in
      let feed : written.WrittenSymbol = feed_symbol r height in
      let own : ℕ = height_place tall height in
      let at : slice_get tall own ≡ Some height = height-placed tall height member in
      let inside : own < length tall = slice_get_within tall own height at in
      let count : length kinds ≡ length d.kinds = length-map d.kinds (symbol_for r) in
      let there : slice_get symbols (length d.kinds + own) ≡ Some feed =
      get-behind kinds (map (feed_symbol r) tall) (length d.kinds + own) own (omega arith) ∙ map-at (feed_symbol r) tall own height at in
      let few : length d.kinds < 4294967296 = good.few_kinds in
      let number : suc (length d.kinds + own) ≡ feed_number d tall height = omega arith in
      record {
        number = record { high = omega arith };
        symbol = symbol_at (suc (length d.kinds + own)) feed;
        found = ap (λ (m : ℕ). symbol_of m (symbols_from 1 symbols)) (sym number) ∙ symbol_of-written (length d.kinds + own) symbols feed there;
        named = tt;
        kind = tt;
        whole = whole;
      }

  item-is : (height : ℕ) (item : items.Item) (place : Place) → IsThere d tall height item → IsWhole place
      → IsItem (symbols_from 1 symbols) (copy_of d (feed_number d tall height) item place)
  item-is height (Cell s) place there whole = cell-is s.instance place there whole
  item-is height (Feed net) place there whole = feed-is height place there whole

  -- the items of a row are copies of symbols
  copies-are : (height base left : ℕ) (row : List items.Item) → base ≤ high → left + items_width d row ≤ wide → AllByRecursion (IsThere d tall height) row
      → AllByRecursion (IsItem (symbols_from 1 symbols)) (copies_of labels r d (feed_number d tall height) (placed_from r d base left row))
  copies-are height base left [] low room there = tt
  copies-are height base left (item ∷ row) low room there =
      let width : ℕ = item_width d item in
      let more : items_width d (item ∷ row) ≡ item_width d item + items_width d row = width-cons d item row in
      let first : left + item_width d item ≤ wide = first-fits left (item_width d item) (items_width d row) (items_width d (item ∷ row)) wide more room in
      let corner : corner_column (is_mirrored item) left (item_width d item) ≤ left + item_width d item = corner-within (is_mirrored item) left (item_width d item) in
      let column : corner_column (is_mirrored item) left (item_width d item) ≤ wide = omega arith in
      let place : Place = item_place r d base left item in
      let whole : IsWhole place = place-whole base (is_mirrored item) (corner_column (is_mirrored item) left (item_width d item)) low column in (
        item-is height item place there.0 whole,
        every-append (IsItem (symbols_from 1 symbols)) (map label_of (item_marks labels r d (record { item = item; place = place })))
            (copies_of labels r d (feed_number d tall height) (placed_from r d base (left + item_width d item) row))
            (marks-are labels (symbols_from 1 symbols) r d valid good (record { item = item; place = place }) (whole-place place whole))
            (copies-are height base (left + item_width d item) row low
            (others-fit left (item_width d item) (items_width d row) (items_width d (item ∷ row)) wide more room) there.1),
      )

  -- and their places lie within reach
  places-are : (base left : ℕ) (row : List items.Item) → base ≤ high → left + items_width d row ≤ wide
      → AllByRecursion (λ (p : PlacedItem). IsPlaceInReach p.place) (placed_from r d base left row)
  places-are base left [] low room = tt
  places-are base left (item ∷ row) low room =
      let more : items_width d (item ∷ row) ≡ item_width d item + items_width d row = width-cons d item row in
      let first : left + item_width d item ≤ wide = first-fits left (item_width d item) (items_width d row) (items_width d (item ∷ row)) wide more room in
      let corner : corner_column (is_mirrored item) left (item_width d item) ≤ left + item_width d item = corner-within (is_mirrored item) left (item_width d item) in
      let column : corner_column (is_mirrored item) left (item_width d item) ≤ wide = omega arith in (
        whole-place (item_place r d base left item)
            (place-whole base (is_mirrored item) (corner_column (is_mirrored item) left (item_width d item)) low column),
        places-are base (left + item_width d item) row low
            (others-fit left (item_width d item) (items_width d row) (items_width d (item ∷ row)) wide more room),
      )

  pub rows-are : (base : ℕ) (ws : List Wiring) (rows : List (List items.Item)) → stack_top r (row_heights d rows) base ws ≤ high
      → AllByRecursion (IsRow d tall wide) rows
      → AllByRecursion (λ (row : List PlacedItem). AllByRecursion (λ (p : PlacedItem). IsPlaceInReach p.place) row) (placed_rows r d rows (row_bases r (row_heights d rows) base ws))
  rows-are base ws [] low fit = tt
  rows-are base [] (row ∷ rows) low fit = tt
  rows-are base (w ∷ ws) (row ∷ rows) low fit =
      let edge : base + channel_height r w ≤ high = omega (arith, channel-below r (row_heights d (row ∷ rows)) base w ws) in (
        places-are (base + channel_height r w) 0 row edge (omega (arith, fit.0.narrow)),
        rows-are (base + channel_height r w + height_of_row d row) ws rows low fit.1,
      )

  -- wires stand alone
  alone-are : (drawn : List Drawn) → AllByRecursion IsWire drawn → AllByRecursion (IsItem (symbols_from 1 symbols)) (wires_of drawn)
  alone-are drawn are =
      every-map (IsItem (symbols_from 1 symbols)) (λ (a : Drawn). written.alone a.shape) drawn
      (every-weaker IsWire (λ (a : Drawn). IsItem (symbols_from 1 symbols) (written.alone a.shape)) (λ (a : Drawn) (wire : IsWire a). wire.written) drawn are)

  module _ (columns : ℕ) (channels : columns * r.grid.column * r.grid.centi ≤ 1000000000) where
    wires-are : (base : ℕ) (w : Wiring) → base + channel_height r w ≤ high → IsLaid columns w
        → AllByRecursion (IsItem (symbols_from 1 symbols)) (wires_of (drawing r base w))
    wires-are base w low laid = alone-are (drawing r base w) (drawing-is r valid columns high channels up base w laid.narrow low laid.on_grid)

    -- rows and channels on one another are items that can be written
    pub items-are : (base : ℕ) (ws : List Wiring) (rows : List (List items.Item)) (risers : List (List Drawn)) → stack_top r (row_heights d rows) base ws ≤ high
        → AllByRecursion (IsLaid columns) ws → AllByRecursion (IsRow d tall wide) rows → AllByRecursion (AllByRecursion IsWire) risers
        → AllByRecursion (IsItem (symbols_from 1 symbols))
        (items_of labels r d tall (row_heights d rows) (drawings r ws (channel_bases r (row_heights d rows) base ws)) (placed_rows r d rows (row_bases r (row_heights d rows) base ws)) risers)
    items-are base [] rows risers low laid fit rising = tt
    items-are base (w ∷ ws) [] risers low laid fit rising = wires-are base w low laid.0
    items-are base (w ∷ ws) (row ∷ rows) [] low laid fit rising = wires-are base w (omega (arith, channel-below r (row_heights d (row ∷ rows)) base w ws)) laid.0
    items-are base (w ∷ ws) (row ∷ rows) (rise ∷ risers) low laid fit rising =
        let edge : base + channel_height r w ≤ high = omega (arith, channel-below r (row_heights d (row ∷ rows)) base w ws) in
        let floor : ℕ = base + channel_height r w in
        let next : ℕ = floor + height_of_row d row in
        let copies : List written.MainItem = copies_of labels r d (feed_number d tall (height_of_row d row)) (placed_from r d floor 0 row) in
        let above : List written.MainItem =
        items_of labels r d tall (row_heights d rows) (drawings r ws (channel_bases r (row_heights d rows) next ws)) (placed_rows r d rows (row_bases r (row_heights d rows) next ws)) risers in
        every-append (IsItem (symbols_from 1 symbols)) (wires_of (drawing r base w)) ((copies ++ wires_of rise) ++ above)
        (wires-are base w edge laid.0)
        (every-append (IsItem (symbols_from 1 symbols)) (copies ++ wires_of rise) above
        (every-append (IsItem (symbols_from 1 symbols)) copies (wires_of rise)
        (copies-are (height_of_row d row) floor 0 row edge (omega (arith, fit.0.narrow)) fit.0.there) (alone-are rise rising.0))
        (items-are next ws rows risers low laid.1 fit.1 rising.1))
