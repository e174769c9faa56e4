use Rattle.std.specs.Prelude.{◌≡◌, ℕ, List, Bool, Option, None, Some}
use Rattle.design_model.specs.Netlist.{Netlist}
use Rattle.row_model.specs.declared.rows.Seat.{Seat}
use Rattle.feed_cells.specs.declared.fed.Item.{Item}
use Rattle.pin_assign.proofs.Sources.{Source, SourceEnters, StandsOver, source_net}

-- items side by side, the first of which begins in column `left`, have this net as their entry into a channel in this column: by a cause that stands there and
-- enters the channel
pub record EntryOf (d : Netlist) (rows : List (List Seat)) (top : Bool) (channel : ℕ) (items : List Item) (left column net : ℕ) : Type 0 where
  pub cause : Source
  pub stands : StandsOver d top cause items left column
  pub entering : SourceEnters d rows channel cause
  pub of_net : source_net cause ≡ net

-- a row, if there is one, has this net as its entry into a channel in this column
abbrev pub EntryIn : Netlist → List (List Seat) → Bool → ℕ → Option (List Item) → ℕ → ℕ → Type 0
EntryIn d rows top channel None column net = ⊥
EntryIn d rows top channel (Some items) column net = EntryOf d rows top channel items 0 column net
