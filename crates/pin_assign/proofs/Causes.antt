use Rattle.std.specs.Prelude.{◌≡◌, ◌⊎◌, ◌<◌, ◌+◌, ℕ, List, length, Bool, true, false, Contains}
use Rattle.design_model.specs.Netlist.{Netlist}
use Rattle.design_model.specs.declared.design.Pin.{Pin}
use Rattle.row_model.specs.declared.rows.Seat.{Seat}
use Rattle.row_model.specs.Stands.{row_of}
use Rattle.feed_cells.specs.Crossings.{crossing_of, has_edge, is_across, is_in}
use Rattle.feed_cells.specs.Feeds.{is_fed}
use Rattle.feed_cells.proofs.Touching.{Touches, channel_beside}
use Rattle.pin_assign.specs.Entering.{enters}

-- a pin of a net enters a channel over an edge of its cell, the upper where `top` holds
pub record EntersBy (d : Netlist) (rows : List (List Seat)) (net channel : ℕ) (top : Bool) (p : Pin) : Type 0 where
  pub listed : Contains d.pins p
  pub of_net : p.net ≡ net
  pub touches : Touches d rows top p channel
  pub entry : enters d rows p channel ≡ true

-- a net's feed in a row enters the channel over the row where `top` holds, else the one under it
pub record FeedsBy (d : Netlist) (rows : List (List Seat)) (net channel : ℕ) (top : Bool) (row : ℕ) : Type 0 where
  pub within : row < length rows
  pub beside : channel ≡ channel_beside top row
  pub fed : is_fed d rows row net ≡ true

-- why a net has an entry in a channel over an upper or over a lower edge: a pin, or a feed
pub data Cause (d : Netlist) (rows : List (List Seat)) (net channel : ℕ) (top : Bool) : Type 0 where
  by_pin : (p : Pin) → EntersBy d rows net channel top p → Cause d rows net channel top
  by_feed : (row : ℕ) → FeedsBy d rows net channel top row → Cause d rows net channel top

-- two pins at different terminals, or of different instances
abbrev pub AreDifferent : Pin → Pin → Type 0
AreDifferent p q = p.instance ≡ q.instance → p.terminal ≡ q.terminal → ⊥

-- two different causes: over both edges, or over one by two pins or by a pin and a feed
pub data EntersTwice (d : Netlist) (rows : List (List Seat)) (net channel : ℕ) : Type 0 where
  over_both : Cause d rows net channel true → Cause d rows net channel false → EntersTwice d rows net channel
  by_pins : (top : Bool) (p q : Pin) → EntersBy d rows net channel top p → EntersBy d rows net channel top q → AreDifferent p q → EntersTwice d rows net channel
  by_both : (top : Bool) (p : Pin) (row : ℕ) → EntersBy d rows net channel top p → FeedsBy d rows net channel top row → EntersTwice d rows net channel

-- a pin by which a net crosses a row: it enters the channels on both sides
pub record CrossesBy (d : Netlist) (rows : List (List Seat)) (net row : ℕ) (p : Pin) : Type 0 where
  pub under : EntersBy d rows net row false p
  pub over : EntersBy d rows net (row + 1) true p

-- a pin of a net that stands in a row that the net crosses, and has positions on both edges of its cell
pub record Passes (d : Netlist) (rows : List (List Seat)) (net row : ℕ) (p : Pin) : Type 0 where
  pub across : is_across (crossing_of d rows net) row ≡ true
  pub listed : Contains d.pins p
  pub of_net : p.net ≡ net
  pub row_is : row_of d rows p.instance ≡ row
  pub edges : (top : Bool) → has_edge d top p ≡ true

-- a pin enters a channel, which is one of its net, and touches it
pub record IsEntered (d : Netlist) (rows : List (List Seat)) (p : Pin) (channel : ℕ) : Type 0 where
  pub entry : enters d rows p channel ≡ true
  pub inside : is_in (crossing_of d rows p.net) channel ≡ true
  pub touched : Touches d rows false p channel ⊎ Touches d rows true p channel
