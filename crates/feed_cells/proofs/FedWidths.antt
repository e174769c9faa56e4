use Rattle.std.proofs.Common.{◌≡◌, ℕ, ◌+◌, ◌*◌, ◌≤◌, ◌==◌, ◌&&◌, List, [], ◌∷◌, ◌++◌, map, filter, length, arith, refl}
use Rattle.std.proofs.lemmas.List.FromFn.{length-range_with_len}
use Rattle.std.proofs.lemmas.List.Sums.{sum_by-cons}
use Rattle.design_model.proofs.DesignPins.{nets-few}
use Rattle.design_model.specs.Netlist.{Netlist, IsNetlist}
use Rattle.row_model.specs.declared.rows.Seat.{Seat}
use Rattle.row_model.proofs.WidthLaws.{columns-few}
use Rattle.feed_cells.specs.Crossings.{all_nets}
use Rattle.feed_cells.specs.Fed.{feeds_at, fed_from, item_width, items_from, items_width}
use Rattle.feed_cells.specs.Feeds.{feed_place, is_fed}
use Rattle.row_model.specs.NearStands.{AreShort}
use Rattle.feed_cells.specs.Sizes.{AreNarrow}
use Rattle.feed_cells.specs.declared.fed.Item.{Item}
use Rattle.feed_cells.specs.declared.fed.Item.TheVariants.{Cell, Feed}
use Rattle.std_laws.proofs.Counts.{filter-short}

-- the width of items one behind the other
pub width-cons : (d : Netlist) (item : Item) (items : List Item) → items_width d (item ∷ items) ≡ item_width d item + items_width d items
width-cons d item items = sum_by-cons (λ (n : ℕ). n) (item_width d item) (map (item_width d) items)

width-append : (d : Netlist) (xs ys : List Item) → items_width d (xs ++ ys) ≡ items_width d xs + items_width d ys
width-append d [] ys = omega arith
width-append d (x ∷ xs) ys = omega (arith, width-cons d x (xs ++ ys), width-cons d x xs, width-append d xs ys)

-- feeds are one column wide
feeds-width : (d : Netlist) (nets : List ℕ) → items_width d (map Feed nets) ≡ length nets
feeds-width d [] = refl
feeds-width d (net ∷ nets) = omega (arith, width-cons d (Feed net) (map Feed nets), feeds-width d nets)

feeds-few : (d : Netlist) (rows : List (List Seat)) (row : ℕ) (seats : List Seat) (place : ℕ) → IsNetlist d → items_width d (feeds_at d rows row seats place) ≤ 200000
feeds-few d rows row seats place is =
    omega (
      arith,
      feeds-width d (filter (λ (net : ℕ). is_fed d rows row net && feed_place d rows seats net == place) (all_nets d)),
      filter-short (λ (net : ℕ). is_fed d rows row net && feed_place d rows seats net == place) (all_nets d),
      length-range_with_len 1 (length d.nets),
      nets-few d is,
    )

-- the width of seats and their feeds
from-width : (d : Netlist) (rows : List (List Seat)) (row : ℕ) (seats : List Seat) → IsNetlist d
    → (place : ℕ) (rest : List Seat) → items_width d (items_from d rows row seats place rest) ≤ 200000 + 100200000 * length rest
from-width d rows row seats is place [] = omega (arith, feeds-few d rows row seats place is)
from-width d rows row seats is place (s ∷ rest) =
    omega (
      arith,
      feeds-few d rows row seats place is,
      width-append d (feeds_at d rows row seats place) (Cell s ∷ items_from d rows row seats (place + 1) rest),
      width-cons d (Cell s) (items_from d rows row seats (place + 1) rest),
      columns-few d is s.instance,
      from-width d rows row seats is (place + 1) rest,
    )

-- a row of at most 20,000 cells is at most 3,000,000,000,000 columns wide with its feeds
pub row-narrow : (d : Netlist) (rows : List (List Seat)) → IsNetlist d → (row : ℕ) (seats : List Seat) → length seats ≤ 20000
    → items_width d (items_from d rows row seats 0 seats) ≤ 3000000000000
row-narrow d rows is row seats short = omega (arith, from-width d rows row seats is 0 seats)

-- rows with feeds are narrow
rows-narrow : (d : Netlist) (rows : List (List Seat)) → IsNetlist d → (row : ℕ) (rest : List (List Seat)) → AreShort rest → AreNarrow d (fed_from d rows row rest)
rows-narrow d rows is row [] short = tt
rows-narrow d rows is row (seats ∷ rest) short = (omega (arith, row-narrow d rows is row seats short.0), rows-narrow d rows is (row + 1) rest short.1)

pub fed-narrow : (d : Netlist) (rows : List (List Seat)) → IsNetlist d → AreShort rows → AreNarrow d (fed_from d rows 0 rows)
fed-narrow d rows is short = rows-narrow d rows is 0 rows short
