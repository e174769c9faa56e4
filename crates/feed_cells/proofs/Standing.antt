use Rattle.std.specs.Prelude.{◌≡◌, ◌≤◌, ℕ, List, true, length, Contains}
use Rattle.design_model.specs.Netlist.{Netlist}
use Rattle.row_model.specs.declared.rows.Seat.{Seat}
use Rattle.feed_cells.specs.Feeds.{is_fed}
use Rattle.feed_cells.specs.declared.fed.Item.{Item}
use Rattle.feed_cells.specs.declared.fed.Item.TheVariants.{Cell, Feed}

-- a feed of a row is one of a net that crosses the row by it
pub record IsFeed (d : Netlist) (rows : List (List Seat)) (row net : ℕ) : Type 0 where
  pub fed : is_fed d rows row net ≡ true
  pub some : 1 ≤ net
  pub few : net ≤ length d.nets

-- what stands in a row with its feeds: a cell of a seat of the row, or a feed of a net that crosses it
pub data Stands (d : Netlist) (rows : List (List Seat)) (row : ℕ) (seats : List Seat) (item : Item) : Type 0 where
  seated : (s : Seat) → Contains seats s → item ≡ Cell s → Stands d rows row seats item
  feeding : (net : ℕ) → IsFeed d rows row net → item ≡ Feed net → Stands d rows row seats item
