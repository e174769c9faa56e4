use Rattle.std.specs.Prelude.{◌≡◌, ℕ, ◌+◌, List, ◌∷◌, Bool, true, Some, Contains}
use Rattle.design_model.specs.Netlist.{Netlist}
use Rattle.design_model.specs.declared.design.Pin.{Pin}
use Rattle.row_model.specs.Stands.{turned_column, edge_column}
use Rattle.row_model.specs.Widths.{columns_of}
use Rattle.row_model.specs.declared.rows.Seat.{Seat}
use Rattle.feed_cells.specs.Fed.{item_width}
use Rattle.feed_cells.specs.declared.fed.Item.{Item}
use Rattle.feed_cells.specs.declared.fed.Item.TheVariants.{Cell, Feed}
use Rattle.pin_assign.specs.Entering.{enters}

-- a pin of a design has its first position on an edge in this column of its row, where its instance's cell begins in column `left`
pub record IsPinOver (d : Netlist) (top : Bool) (p : Pin) (s : Seat) (left column : ℕ) : Type 0 where
  pub listed : Contains d.pins p
  pub instance : p.instance ≡ s.instance
  pub own : ℕ
  pub edge : edge_column d top p ≡ Some own
  pub place : left + turned_column s.mirror (columns_of d s.instance) own ≡ column

-- what an entry of a table comes from: a pin, or a feed for the net with this number
pub data Source : Type 0 where
  of_pin : Pin → Source
  of_feed : ℕ → Source

-- the net of a cause
abbrev pub source_net : Source → ℕ
source_net (of_pin p) = p.net
source_net (of_feed net) = net

-- an item that begins in column `left` has this cause on its edge in this column
abbrev pub IsOver : Netlist → Bool → Source → Item → ℕ → ℕ → Type 0
IsOver d top (of_pin p) (Cell s) left column = IsPinOver d top p s left column
IsOver d top (of_pin p) (Feed net) left column = ⊥
IsOver d top (of_feed net) (Cell s) left column = ⊥
IsOver d top (of_feed net) (Feed own) left column = (own ≡ net) × (left ≡ column)

-- one of the items side by side, the first of which begins in column `left`, has this cause on its edge in this column
pub data StandsOver (d : Netlist) (top : Bool) (cause : Source) : List Item → ℕ → ℕ → Type 0 where
  first_over : {item : Item} {items : List Item} {left column : ℕ} → IsOver d top cause item left column → StandsOver d top cause (item ∷ items) left column
  later_over : {item : Item} {items : List Item} {left column : ℕ} → StandsOver d top cause items (left + item_width d item) column
      → StandsOver d top cause (item ∷ items) left column

-- a cause enters a channel: a pin as it does, a feed always
abbrev pub SourceEnters : Netlist → List (List Seat) → ℕ → Source → Type 0
SourceEnters d rows channel (of_pin p) = enters d rows p channel ≡ true
SourceEnters d rows channel (of_feed net) = Unit {0}
