-- how many channels there are, how wide they are, and how many nets they have
use Rattle.std.specs.Prelude.{◌≡◌, ℕ, ◌+◌, List, length, Some, slice_get}
use Rattle.channel_model.specs.Nets.{nets_of}
use Rattle.channel_model.specs.Pins.{Pins}
use Rattle.feed_cells.specs.Fed.{Fed}

-- there is one channel more than there are rows; each is as wide as the widest row, and has as many nets as are counted for it
pub record AreTablesFor (fed : Fed) (channels : List Pins) : Type 0 where
  pub many : length channels ≡ length fed.rows + 1
  pub wide : (k : ℕ) (pins : Pins) → slice_get channels k ≡ Some pins → length pins.top ≡ fed.width
  pub nets : (k : ℕ) (pins : Pins) → slice_get channels k ≡ Some pins → slice_get fed.nets k ≡ Some (length (nets_of pins))
