use Rattle.cif_text.specs.declared.command.CifCommand.TheVariants as commands
use Rattle.wire_geom.specs.declared.drawn.Drawn as wires
use Rattle.std.proofs.Common.{◌≡◌, ℕ, suc, ◌+◌, List, [], ◌∷◌, ◌++◌, drop, length, map, Bool, refl, arith, add-one, ap, ap₂, sym, ◌∙◌, Option, Some, None}
use Rattle.std.proofs.lemmas.List.{append-nil, map-append}
use Rattle.std.specs.List.{slice_get}
use Rattle.cif_text.proofs.TextLemmas.{text_of-append, items-append}
use Rattle.cif_text.specs.Printing.{line, text_of}
use Rattle.cif_text.specs.Written.{MainItem, WrittenSymbol, alone, copy, label, label_commands, copy_commands, items_commands, layer_after, layout_commands, shape_commands, symbol_commands, symbols_commands}
use Rattle.cif_writer.specs.LayoutText.{text_behind}
use Rattle.cif_writer.proofs.Lines.{text-last}
use Rattle.cif_writer.specs.Labels.{Mark, item_marks, label_of, terminal_mark, terminal_marks}
use Rattle.cif_writer.specs.Symbols.{copies_of, copy_name, copy_number, feed_number, item_items, items_of, kind_name, row_items, symbols_with, wires_of}
use Rattle.channel_model.specs.declared.wiring.Wiring.{Wiring}
use Rattle.channel_stack.specs.Stack.{drawings}
use Rattle.channel_stack.specs.declared.placed.PlacedItem.{PlacedItem}
use Rattle.design_model.specs.Netlist.{Netlist}
use Rattle.design_model.specs.declared.design.CellKind.{CellKind}
use Rattle.design_model.specs.declared.design.Terminal.{Terminal}
use Rattle.geom_core.specs.declared.turn.Place.{Place}
use Rattle.std.specs.Option.{option_to_list}
use Rattle.geom_core.specs.declared.layout.Shape.{Shape}
use Rattle.tech_rules.specs.Rules.{RuleValues}
use Rattle.wire_geom.specs.Drawing.{drawing}
use Rattle.std_laws.proofs.Slices.{drop-next}

-- the text of items in two parts
items-parts : (last : Option (List ℕ)) (xs ys : List MainItem)
    → text_of (items_commands last (xs ++ ys)) ≡ text_of (items_commands last xs) ++ text_of (items_commands (layer_after last xs) ys)
items-parts last xs ys = ap text_of (items-append last xs ys) ∙ text_of-append (items_commands last xs) (items_commands (layer_after last xs) ys)

-- and the layer behind them
layer-parts : (last : Option (List ℕ)) (xs ys : List MainItem) → layer_after last (xs ++ ys) ≡ layer_after (layer_after last xs) ys
layer-parts last [] ys = refl
layer-parts last (alone s ∷ xs) ys = layer-parts (Some s.layer) xs ys
layer-parts last (copy name n place ∷ xs) ys = layer-parts last xs ys
layer-parts last (label name s ∷ xs) ys = layer-parts (Some s.layer) xs ys

-- the text of a label and of those behind it
pub marks-parts : (last : Option (List ℕ)) (m : Mark) (ms : List Mark) → text_of (items_commands last (map label_of (m ∷ ms)))
    ≡ text_of (label_commands last m.name m.shape) ++ text_of (items_commands (Some m.shape.layer) (map label_of ms))
marks-parts last m ms = text_of-append (label_commands last m.name m.shape) (items_commands (Some m.shape.layer) (map label_of ms))

module _ (r : RuleValues) (d : Netlist) (instance : ℕ) (kind : CellKind) (place : Place) where
  -- the labels at terminals are that at the first, and those at the others
  abbrev pub nets-at : ℕ → List Terminal → List MainItem
  nets-at n ts = map label_of (terminal_marks r d instance kind place n ts)

  abbrev pub net-at : ℕ → List MainItem
  net-at n = map label_of (option_to_list (terminal_mark r d instance kind place n))

  nets-are : (n : ℕ) (t : Terminal) (ts : List Terminal) → nets-at n (t ∷ ts) ≡ net-at n ++ nets-at (n + 1) ts
  nets-are n t ts =
      map-append label_of (option_to_list (terminal_mark r d instance kind place n)) (terminal_marks r d instance kind place (suc n) ts)
      ∙ ap (λ (m : ℕ). net-at n ++ nets-at m ts) (sym (add-one n))

  -- and so are their text, and the layer behind them
  pub nets-parts : (last : Option (List ℕ)) (n : ℕ) {t : Terminal} {ts all : List Terminal} → all ≡ t ∷ ts → text_of (items_commands last (nets-at n all))
      ≡ text_of (items_commands last (net-at n)) ++ text_of (items_commands (layer_after last (net-at n)) (nets-at (n + 1) ts))
  nets-parts last n {t} {ts} is =
      ap (λ (l : List Terminal). text_of (items_commands last (nets-at n l))) is
      ∙ ap (λ (items : List MainItem). text_of (items_commands last items)) (nets-are n t ts)
      ∙ items-parts last (net-at n) (nets-at (n + 1) ts)

  pub nets-layer : (last : Option (List ℕ)) (n : ℕ) {t : Terminal} {ts all : List Terminal} → all ≡ t ∷ ts
      → layer_after last (nets-at n all) ≡ layer_after (layer_after last (net-at n)) (nets-at (n + 1) ts)
  nets-layer last n {t} {ts} is =
      ap (λ (l : List Terminal). layer_after last (nets-at n l)) is
      ∙ ap (layer_after last) (nets-are n t ts)
      ∙ layer-parts last (net-at n) (nets-at (n + 1) ts)

module _ (labels : Bool) (r : RuleValues) (d : Netlist) where
  -- the text of an item: that of its call, and that of its labels
  pub item-parts : (last : Option (List ℕ)) (feeds : ℕ) (p : PlacedItem) → text_of (items_commands last (item_items labels r d feeds p))
      ≡ text_of (copy_commands (copy_name d p.item) (copy_number d feeds p.item) p.place) ++ text_of (items_commands last (map label_of (item_marks labels r d p)))
  item-parts last feeds p =
      text_of-append (copy_commands (copy_name d p.item) (copy_number d feeds p.item) p.place) (items_commands last (map label_of (item_marks labels r d p)))

  -- the text of a row's items: that of the first, and that of the others
  pub row-parts : (last : Option (List ℕ)) (feeds : ℕ) (p : PlacedItem) (after : List PlacedItem) → text_of (items_commands last (copies_of labels r d feeds (p ∷ after)))
      ≡ text_of (items_commands last (item_items labels r d feeds p))
      ++ text_of (items_commands (layer_after last (item_items labels r d feeds p)) (copies_of labels r d feeds after))
  row-parts last feeds p after = items-parts last (item_items labels r d feeds p) (copies_of labels r d feeds after)

  -- and the layer behind them
  pub row-layer : (last : Option (List ℕ)) (feeds : ℕ) (p : PlacedItem) (after : List PlacedItem) → layer_after last (copies_of labels r d feeds (p ∷ after))
      ≡ layer_after (layer_after last (item_items labels r d feeds p)) (copies_of labels r d feeds after)
  row-layer last feeds p after = layer-parts last (item_items labels r d feeds p) (copies_of labels r d feeds after)

  -- the text of a row: that of its items, and that of its risers
  pub level-parts : (tall : List ℕ) (height : ℕ) (last : Option (List ℕ)) (row : List PlacedItem) (risers : List wires.Drawn)
      → text_of (items_commands last (row_items labels r d tall height row risers))
      ≡ text_of (items_commands last (copies_of labels r d (feed_number d tall height) row))
      ++ text_of (items_commands (layer_after last (copies_of labels r d (feed_number d tall height) row)) (wires_of risers))
  level-parts tall height last row risers = items-parts last (copies_of labels r d (feed_number d tall height) row) (wires_of risers)

  -- and the layer behind it
  pub level-layer : (tall : List ℕ) (height : ℕ) (last : Option (List ℕ)) (row : List PlacedItem) (risers : List wires.Drawn)
      → layer_after last (row_items labels r d tall height row risers)
      ≡ layer_after (layer_after last (copies_of labels r d (feed_number d tall height) row)) (wires_of risers)
  level-layer tall height last row risers = layer-parts last (copies_of labels r d (feed_number d tall height) row) (wires_of risers)

-- the text of risers: that of the first, and that of those behind it
pub risers-parts : (last : Option (List ℕ)) (a : wires.Drawn) (after : List wires.Drawn) → text_of (items_commands last (wires_of (a ∷ after)))
    ≡ text_of (shape_commands last a.shape) ++ text_of (items_commands (Some a.shape.layer) (wires_of after))
risers-parts last a after = text_of-append (shape_commands last a.shape) (items_commands (Some a.shape.layer) (wires_of after))

-- the text of a channel from a rectangle on: that of the rectangle, and that of those behind it
pub wires-parts : (last : Option (List ℕ)) (drawn : List wires.Drawn) (k : ℕ) (a : wires.Drawn) → slice_get drawn k ≡ Some a
    → text_of (items_commands last (wires_of (drop k drawn)))
    ≡ text_of (shape_commands last a.shape) ++ text_of (items_commands (Some a.shape.layer) (wires_of (drop (k + 1) drawn)))
wires-parts last drawn k a at =
    ap (λ (l : List wires.Drawn). text_of (items_commands last (wires_of l))) (drop-next drawn k a at)
    ∙ text_of-append (shape_commands last a.shape) (items_commands (Some a.shape.layer) (wires_of (drop (k + 1) drawn)))

-- and the layer behind it
pub wires-layer : (last : Option (List ℕ)) (drawn : List wires.Drawn) (k : ℕ) (a : wires.Drawn) → slice_get drawn k ≡ Some a
    → layer_after last (wires_of (drop k drawn)) ≡ layer_after (Some a.shape.layer) (wires_of (drop (k + 1) drawn))
wires-layer last drawn k a at = ap (λ (l : List wires.Drawn). layer_after last (wires_of l)) (drop-next drawn k a at)

-- the text of symbols: that of the first, and that of the others
pub symbols-parts : (d : Netlist) (n : ℕ) (shapes : List Shape) (rest : List (List Shape))
    → text_of (symbols_commands (n + 1) (symbols_with d n (shapes ∷ rest)))
    ≡ text_of (symbol_commands (n + 1) (record { name = kind_name d n; shapes = shapes })) ++ text_of (symbols_commands (n + 1 + 1) (symbols_with d (n + 1) rest))
symbols-parts d n shapes rest =
    text_of-append (symbol_commands (n + 1) (record { name = kind_name d n; shapes = shapes })) (symbols_commands (suc (n + 1)) (symbols_with d (suc n) rest))
    ∙ ap₂ (λ (m k : ℕ). text_of (symbol_commands (n + 1) (record { name = kind_name d n; shapes = shapes })) ++ text_of (symbols_commands m (symbols_with d k rest)))
    (sym (add-one (n + 1))) (sym (add-one n))

-- the text of channels and of rows of these heights
abbrev pub main_text : Bool → RuleValues → Netlist → List ℕ → Option (List ℕ) → List Wiring → List ℕ → List ℕ → List (List PlacedItem) → List (List wires.Drawn) → List ℕ
main_text labels r d tall last ws edges heights rows risers = text_of (items_commands last (items_of labels r d tall heights (drawings r ws edges) rows risers))

module _ (labels : Bool) (r : RuleValues) (d : Netlist) (tall : List ℕ) where
  -- above a first channel with no row, no height or no risers is nothing
  abbrev pub IsTop : List ℕ → List (List PlacedItem) → List (List wires.Drawn) → Type 0
  IsTop heights rows risers =
      (drawn : List wires.Drawn) (above : List (List wires.Drawn)) → items_of labels r d tall heights (drawn ∷ above) rows risers ≡ wires_of drawn

  pub no-row : (heights : List ℕ) (rows : List (List PlacedItem)) (risers : List (List wires.Drawn)) → length rows ≡ 0 → IsTop heights rows risers
  no-row heights [] risers none drawn above = refl
  no-row heights (row ∷ rows) risers none drawn above = absurd (omega (arith, none))

  pub no-height : (heights : List ℕ) (rows : List (List PlacedItem)) (risers : List (List wires.Drawn)) → length heights ≡ 0 → IsTop heights rows risers
  no-height [] [] risers none drawn above = refl
  no-height [] (row ∷ rows) risers none drawn above = refl
  no-height (h ∷ heights) rows risers none drawn above = absurd (omega (arith, none))

  pub no-risers : (heights : List ℕ) (rows : List (List PlacedItem)) (risers : List (List wires.Drawn)) → length risers ≡ 0 → IsTop heights rows risers
  no-risers heights [] [] none drawn above = refl
  no-risers [] (row ∷ rows) [] none drawn above = refl
  no-risers (h ∷ heights) (row ∷ rows) [] none drawn above = refl
  no-risers heights rows (rise ∷ risers) none drawn above = absurd (omega (arith, none))

  -- the text of a channel and of what stands above it
  main-first : (last : Option (List ℕ)) (drawn : List wires.Drawn) (above : List (List wires.Drawn)) (heights : List ℕ) (rows : List (List PlacedItem))
      (risers : List (List wires.Drawn))
      → (rest : List ℕ) × (text_of (items_commands last (items_of labels r d tall heights (drawn ∷ above) rows risers)) ≡ text_of (items_commands last (wires_of drawn)) ++ rest)
  main-first last drawn above heights [] risers = ([], sym (append-nil (text_of (items_commands last (wires_of drawn)))))
  main-first last drawn above [] (row ∷ rows) risers = ([], sym (append-nil (text_of (items_commands last (wires_of drawn)))))
  main-first last drawn above (h ∷ heights) (row ∷ rows) [] = ([], sym (append-nil (text_of (items_commands last (wires_of drawn)))))
  main-first last drawn above (h ∷ heights) (row ∷ rows) (rise ∷ risers) =
      let behind : List MainItem = row_items labels r d tall h row rise ++ items_of labels r d tall heights above rows risers in
      (text_of (items_commands (layer_after last (wires_of drawn)) behind), items-parts last (wires_of drawn) behind)

  module _ (last : Option (List ℕ)) {ws : List Wiring} {w : Wiring} {above : List Wiring} {edges : List ℕ} {b : ℕ} {others : List ℕ}
      (channels : ws ≡ w ∷ above) (bases : edges ≡ b ∷ others) where
    -- what is left where a first channel and its base are found: that of the channel, and what follows
    pub main-channel : (heights : List ℕ) (rows : List (List PlacedItem)) (risers : List (List wires.Drawn))
        → (rest : List ℕ) × (main_text labels r d tall last ws edges heights rows risers ≡ text_of (items_commands last (wires_of (drawing r b w))) ++ rest)
    main-channel heights rows risers =
        let first = main-first last (drawing r b w) (drawings r above others) heights rows risers in
        (first.0, ap₂ (λ (l : List Wiring) (k : List ℕ). main_text labels r d tall last l k heights rows risers) channels bases ∙ first.1)

    -- that of the channel alone, above the last row
    pub main-top : (heights : List ℕ) (rows : List (List PlacedItem)) (risers : List (List wires.Drawn)) → IsTop heights rows risers
        → main_text labels r d tall last ws edges heights rows risers ≡ text_of (items_commands last (wires_of (drawing r b w))) ++ []
    main-top heights rows risers top =
        ap₂ (λ (l : List Wiring) (k : List ℕ). main_text labels r d tall last l k heights rows risers) channels bases
        ∙ ap (λ (items : List MainItem). text_of (items_commands last items)) (top (drawing r b w) (drawings r above others))
        ∙ sym (append-nil (text_of (items_commands last (wires_of (drawing r b w)))))

    -- that of the channel, of the row above it, and of what stands above the row
    pub main-level : {heights : List ℕ} {h : ℕ} {taller : List ℕ} {rows : List (List PlacedItem)} {row : List PlacedItem} {higher : List (List PlacedItem)}
        {risers : List (List wires.Drawn)} {rise : List wires.Drawn} {rising : List (List wires.Drawn)}
        → rows ≡ row ∷ higher → heights ≡ h ∷ taller → risers ≡ rise ∷ rising
        → main_text labels r d tall last ws edges heights rows risers ≡ text_of (items_commands last (wires_of (drawing r b w)))
        ++ (text_of (items_commands (layer_after last (wires_of (drawing r b w))) (row_items labels r d tall h row rise))
        ++ main_text labels r d tall (layer_after (layer_after last (wires_of (drawing r b w))) (row_items labels r d tall h row rise)) above others taller higher rising)
    main-level {h = h} {taller = taller} {row = row} {higher = higher} {rise = rise} {rising = rising} items_are height_is risers_are =
        let drawn : List wires.Drawn = drawing r b w in
        let level : List MainItem = row_items labels r d tall h row rise in
        let behind : List MainItem = items_of labels r d tall taller (drawings r above others) higher rising in
        rw (channels, bases, items_are, height_is, risers_are) (items-parts last (wires_of drawn) (level ++ behind)
        ∙ ap (λ (l : List ℕ). text_of (items_commands last (wires_of drawn)) ++ l) (items-parts (layer_after last (wires_of drawn)) level behind))

-- the whole text: its first line, and what stands behind it
pub layout-text : (symbols : List WrittenSymbol) (items : List MainItem)
    → text_of (layout_commands symbols items) ≡ line commands.Comment ++ text_behind symbols items
layout-text symbols items =
    ap (λ (l : List ℕ). line commands.Comment ++ l)
    (text_of-append (symbols_commands 1 symbols) (items_commands None items ++ (commands.End ∷ []))
    ∙ ap (λ (l : List ℕ). text_of (symbols_commands 1 symbols) ++ l) (text-last (items_commands None items) commands.End))
