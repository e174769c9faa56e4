-- the tracks of a sweep after its last column as contracts see them, and that the table has their lines
use Rattle.std.specs.Prelude.{◌<◌, ◌+◌, ◌^◌, ℕ, List, Contains, length}
use Rattle.greedy_column.specs.Tracks.{ids, line_of}
use Rattle.greedy_router.specs.Tables.{Tells}
use Rattle.greedy_router.specs.declared.final_order.FinalOrder.TheInside.{Inside}

abbrev pub order_in : Inside → List ℕ
order_in a = ids a.tracks.now

pub record IsOrder (a : Inside) : Type 0 where
  pub few : length a.tracks.now + 1 < 2 ^ 32
  pub told : Tells a.lines.items (line_of (ids a.tracks.now))
  pub below : (id : ℕ) → Contains (ids a.tracks.now) id → id < length a.lines.items
