-- the feeds of a row by tables
use Rattle.std.specs.Prelude.{◌≡◌, ◌==◌, ℕ, ◌+◌, ◌<◌, List, [], ◌∷◌, ◌++◌, map, filter, length, Bool, ◌&&◌, not, if◌then◌else◌, is_some, nat_lt, count_by, Option, None, Some, slice_get}
use Rattle.list_facts.specs.Lists.{list_there}
use Rattle.design_model.specs.Netlist.{Netlist}
use Rattle.row_model.specs.declared.rows.Seat.{Seat}
use Rattle.feed_cells.specs.Crossings.{all_nets, is_across}
use Rattle.feed_cells.specs.Feeds.{is_fed}
use Rattle.feed_cells.specs.NetTables.{at_net}
use Rattle.feed_cells.specs.Placement.{net_place, through_at}
use Rattle.feed_cells.specs.declared.fed.Item.{Item}
use Rattle.feed_cells.specs.declared.fed.Item.TheVariants.{Cell, Feed}
use Rattle.feed_cells.specs.declared.net_places.NetPlace.{NetPlace}

-- whether a net crosses a row by a feed
abbrev pub is_fed_by : NetPlace → ℕ → Bool
is_fed_by n row = is_across n.crossing row && not (is_some (through_at n row))

-- the nets that cross a row by a feed, among nets of which the first has this number
abbrev pub nets_fed : ℕ → ℕ → List NetPlace → List ℕ
nets_fed row net [] = []
nets_fed row net (n ∷ nets) = if is_fed_by n row then net ∷ nets_fed row (net + 1) nets else nets_fed row (net + 1) nets

-- the middle of a net, if there is one
abbrev pub middle_at : Option NetPlace → ℕ
middle_at None = 0
middle_at (Some n) = n.middle

-- how many cells of a row begin left of a column
abbrev pub place_among : List ℕ → ℕ → ℕ
place_among lefts middle = count_by (λ (left : ℕ). nat_lt left middle) lefts

-- whether a net's feed stands at a place of a row
abbrev pub is_at_place : List NetPlace → List ℕ → ℕ → ℕ → Bool
is_at_place nets lefts place net = place_among lefts (middle_at (at_net nets net)) == place

-- seats from a place on, each behind the feeds of its place, and the feeds behind the last
abbrev pub laid : List (List ℕ) → ℕ → List Seat → List Item
laid feeds place [] = map Feed (list_there (slice_get feeds place))
laid feeds place (s ∷ seats) = map Feed (list_there (slice_get feeds place)) ++ (Cell s ∷ laid feeds (place + 1) seats)

-- nets stand where they do in these rows, and each row has in a table the nets that cross it by a feed
pub record AreFeeds (d : Netlist) (rows : List (List Seat)) (places : List NetPlace) (feeds : List (List ℕ)) : Type 0 where
  pub nets : places ≡ map (net_place d rows) (all_nets d)
  pub each : (row : ℕ) → row < length rows → list_there (slice_get feeds row) ≡ filter (is_fed d rows row) (all_nets d)
