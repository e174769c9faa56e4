-- the different heights of the rows in which feeds stand
use Rattle.std.specs.Prelude.{ℕ, suc, List, [], ◌∷◌, fold, Bool, true, false, ◌==◌, if◌then◌else◌}
use Rattle.std.specs.BTreeSet.{insert_key}
use Rattle.std.specs.List.{list_any}
use Rattle.std.specs.Ordering.{nat_cmp}
use Rattle.feed_cells.specs.Fed.{Fed}
use Rattle.feed_cells.specs.declared.fed.Item.{Item}
use Rattle.feed_cells.specs.declared.fed.Item.TheVariants.{Cell, Feed}

-- whether an item is a feed
abbrev pub is_feed : Item → Bool
is_feed (Cell s) = false
is_feed (Feed net) = true

-- the heights of the rows in which a feed stands, among rows of these heights
abbrev pub fed_heights : List ℕ → List (List Item) → List ℕ
fed_heights [] rows = []
fed_heights (h ∷ heights) [] = []
fed_heights (h ∷ heights) (items ∷ rows) = if list_any is_feed items then h ∷ fed_heights heights rows else fed_heights heights rows

-- these in ascending order, each once
abbrev pub feed_heights : Fed → List ℕ
feed_heights fed = fold (insert_key nat_cmp) [] (fed_heights fed.heights fed.rows)

-- the first place of a height among others
abbrev pub height_place : List ℕ → ℕ → ℕ
height_place [] height = 0
height_place (h ∷ heights) height = if h == height then 0 else suc (height_place heights height)
