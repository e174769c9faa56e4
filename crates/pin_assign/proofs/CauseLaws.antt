use Rattle.std.proofs.Common.{◌≡◌, ◌<◌, ◌≤◌, ◌⊎◌, ℕ, ◌+◌, List, [], ◌∷◌, Bool, Some, refl, ap, sym, ◌∙◌, subst, inl, inr, arith}
use Rattle.design_model.proofs.DesignPins.{same-pin}
use Rattle.design_model.specs.Netlist.{Netlist, IsNetlist}
use Rattle.design_model.specs.declared.design.Pin.{Pin}
use Rattle.row_model.specs.Widths.{columns_of}
use Rattle.row_model.specs.declared.rows.Seat.{Seat}
use Rattle.feed_cells.specs.Fed.{item_width, items_width}
use Rattle.feed_cells.specs.declared.fed.Item.{Item}
use Rattle.feed_cells.specs.declared.fed.Item.TheVariants.{Cell, Feed}
use Rattle.pin_assign.proofs.Sources.{Source, of_pin, of_feed, source_net, SourceEnters, IsOver, IsPinOver, StandsOver, first_over, later_over}
use Rattle.pin_assign.proofs.EntryForms.{EntryOf}
use Rattle.pin_assign.proofs.EdgeLaws.{own-within, same-terminal, turned-once, turned-within}
use Rattle.feed_cells.proofs.FedWidths.{width-cons}

-- a cause along items stands over the first of them, or over a later one
abbrev OverOne : Netlist → Bool → Source → List Item → ℕ → ℕ → Type 0
OverOne d top cause [] left column = ⊥
OverOne d top cause (item ∷ items) left column = IsOver d top cause item left column ⊎ StandsOver d top cause items (left + item_width d item) column

over-one : (d : Netlist) (top : Bool) (cause : Source) (items : List Item) (left column : ℕ) → StandsOver d top cause items left column → OverOne d top cause items left column
over-one d top cause items left column (first_over h) = inl h
over-one d top cause items left column (later_over h) = inr h

module _ (d : Netlist) (good : IsNetlist d) (top : Bool) where
  -- the column of a pin over a seated cell, from the cell's left
  pub own-turned : (p : Pin) (s : Seat) (left column : ℕ) (h : IsPinOver d top p s left column) → h.own < columns_of d s.instance
  own-turned p s left column h = subst (λ (n : ℕ). h.own < columns_of d n) h.instance (own-within d good top p h.own h.edge)

  -- a cause over an item stands in one of the item's columns
  pub over-within : (cause : Source) (item : Item) (left column : ℕ) → IsOver d top cause item left column → (left ≤ column) × (column < left + item_width d item)
  over-within (of_pin p) (Cell s) left column h =
      let within = turned-within s.mirror (columns_of d s.instance) h.own (own-turned p s left column h) in
      (omega (arith, h.place), omega (arith, h.place))
  over-within (of_pin p) (Feed own) left column h = absurd h
  over-within (of_feed net) (Cell s) left column h = absurd h
  over-within (of_feed net) (Feed own) left column h = (omega (arith, h.1), omega (arith, h.1))

  -- a cause along items stands in one of their columns
  pub stands-within : (cause : Source) (items : List Item) (left column : ℕ) → StandsOver d top cause items left column → (left ≤ column) × (column < left + items_width d items)
  stands-within cause items left column (first_over {item = item} {items = rest} h) =
      let e = over-within cause item left column h in
      (e.0, omega (arith, e.1, width-cons d item rest))
  stands-within cause items left column (later_over {item = item} {items = rest} h) =
      let e = stands-within cause rest (left + item_width d item) column h in
      (omega (arith, e.0), omega (arith, e.1, width-cons d item rest))

  -- over one item, different causes stand in different columns
  pub over-once : (a b : Source) (item : Item) (left column : ℕ) → IsOver d top a item left column → IsOver d top b item left column → a ≡ b
  over-once (of_pin p) (of_pin q) (Cell s) left column first second =
      let own : second.own ≡ first.own =
      turned-once s.mirror (columns_of d s.instance) second.own first.own (own-turned q s left column second) (own-turned p s left column first)
      (omega (arith, first.place, second.place)) in
      let instance : p.instance ≡ q.instance = first.instance ∙ sym second.instance in
      let terminal : p.terminal ≡ q.terminal = same-terminal d good top p q first.own instance first.edge (second.edge ∙ ap (λ (n : ℕ). Some n) own) in
      ap (λ (x : Pin). of_pin x) (same-pin d good p q first.listed second.listed instance terminal)
  over-once (of_pin p) b (Feed own) left column first second = absurd first
  over-once (of_pin p) (of_feed m) (Cell s) left column first second = absurd second
  over-once (of_feed n) b (Cell s) left column first second = absurd first
  over-once (of_feed n) (of_pin q) (Feed own) left column first second = absurd second
  over-once (of_feed n) (of_feed m) (Feed own) left column first second = ap (λ (x : ℕ). of_feed x) (sym first.0 ∙ second.0)

  -- along items side by side, two causes in one column are one
  pub cause-once : (a b : Source) (items : List Item) (left column : ℕ) → StandsOver d top a items left column → StandsOver d top b items left column → a ≡ b
  cause-once a b [] left column first second = absurd (over-one d top a [] left column first)
  cause-once a b (item ∷ items) left column first second =
      elim (over-one d top a (item ∷ items) left column first) [
        | inl here ↦ elim (over-one d top b (item ∷ items) left column second) [
          | inl there ↦ over-once a b item left column here there
          | inr further ↦ absurd (omega (arith, (over-within a item left column here).1, (stands-within b items (left + item_width d item) column further).0))
        ]
        | inr here ↦ elim (over-one d top b (item ∷ items) left column second) [
          | inl there ↦ absurd (omega (arith, (over-within b item left column there).1, (stands-within a items (left + item_width d item) column here).0))
          | inr further ↦ cause-once a b items (left + item_width d item) column here further
        ]
      ]

module _ (d : Netlist) (rows : List (List Seat)) (top : Bool) (channel : ℕ) where
  -- a cause that stands in a column of a row and enters a channel makes the entry there
  pub entry-from : (cause : Source) (items : List Item) (left column : ℕ) → StandsOver d top cause items left column → SourceEnters d rows channel cause
      → EntryOf d rows top channel items left column (source_net cause)
  entry-from cause items left column stands entering = record { cause = cause; stands = stands; entering = entering; of_net = refl }
