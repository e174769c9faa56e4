use Rattle.std.proofs.Common.{◌≡◌, ◌≤◌, ℕ, zero, suc, ◌-◌, List, [], ◌∷◌, length, replicate, Bool, true, false, Option, Some, None, refl, arith, length-append}
use Rattle.std.proofs.lemmas.List.{length-replicate}
use Rattle.std.proofs.lemmas.List.FromFn.{length-map-range_with_len}
use Rattle.std.proofs.lemmas.Option.{none-some}
use Rattle.std.specs.List.{find, slice_get}
use Rattle.design_model.specs.Netlist.{Netlist}
use Rattle.row_model.specs.Widths.{columns_of}
use Rattle.row_model.specs.declared.rows.Seat.{Seat}
use Rattle.feed_cells.specs.Fed.{cells_in, fed_rows, item_width, items_width}
use Rattle.feed_cells.specs.declared.fed.Item.{Item}
use Rattle.feed_cells.specs.declared.fed.Item.TheVariants.{Cell, Feed}
use Rattle.feed_cells.proofs.FedLaws.{fed-width}
use Rattle.feed_cells.proofs.FedWidths.{width-cons}
use Rattle.pin_assign.specs.Tables.{enters_in, item_entries, net_in, padded, row_below, row_entries, table_of}

-- an item has as many entries as columns
pub item-length : (d : Netlist) (rows : List (List Seat)) (top : Bool) (channel : ℕ) (item : Item) → length (item_entries d rows top channel item) ≡ item_width d item
item-length d rows top channel (Cell s) =
    length-map-range_with_len (λ (column : ℕ). net_in (find (enters_in d rows top channel s column) d.pins)) 0 (columns_of d s.instance)
item-length d rows top channel (Feed net) = refl

-- a row has as many entries as columns
pub row-length : (d : Netlist) (rows : List (List Seat)) (top : Bool) (channel : ℕ) (items : List Item)
    → length (row_entries d rows top channel (Some items)) ≡ items_width d items
row-length d rows top channel [] = refl
row-length d rows top channel (item ∷ items) =
    omega (
      arith,
      length-append (item_entries d rows top channel item) (row_entries d rows top channel (Some items)),
      item-length d rows top channel item,
      row-length d rows top channel items,
      width-cons d item items,
    )

-- padded entries are as many as is wanted, unless they are more
pub padded-length : (width : ℕ) (entries : List ℕ) → length entries ≤ width → length (padded width entries) ≡ width
padded-length width entries few =
    omega (arith, length-append entries (replicate (width - length entries) 0), length-replicate {A = ℕ} (width - length entries) 0)

-- the entries of a row, if there is one, fit the widest
entries-within : (d : Netlist) (rows : List (List Seat)) (top : Bool) (channel : ℕ) (row : Option (List Item))
    → ((items : List Item) → row ≡ Some items → items_width d items ≤ (fed_rows d rows).width)
    → length (row_entries d (cells_in (fed_rows d rows).rows) top channel row) ≤ (fed_rows d rows).width
entries-within d rows top channel None fits = omega arith
entries-within d rows top channel (Some items) fits = omega (arith, fits items refl, row-length d (cells_in (fed_rows d rows).rows) top channel items)

-- both lists of a channel's table are as long as the widest row
pub table-top_length : (d : Netlist) (rows : List (List Seat)) (channel : ℕ) → length (table_of d (fed_rows d rows) channel).top ≡ (fed_rows d rows).width
unfolding table_of
table-top_length d rows channel =
    padded-length (fed_rows d rows).width (row_entries d (cells_in (fed_rows d rows).rows) false channel (slice_get (fed_rows d rows).rows channel))
    (entries-within d rows false channel (slice_get (fed_rows d rows).rows channel) (fed-width d rows channel))

pub table-bottom_length : (d : Netlist) (rows : List (List Seat)) (channel : ℕ) → length (table_of d (fed_rows d rows) channel).bottom ≡ (fed_rows d rows).width
unfolding table_of
table-bottom_length d rows channel =
    padded-length (fed_rows d rows).width (row_entries d (cells_in (fed_rows d rows).rows) true channel (row_below (fed_rows d rows).rows channel))
    (entries-within d rows true channel (row_below (fed_rows d rows).rows channel) (below channel))
  where
    below : (channel : ℕ) (items : List Item) → row_below (fed_rows d rows).rows channel ≡ Some items → items_width d items ≤ (fed_rows d rows).width
    below zero items is = absurd (none-some items is)
    below (suc row) items is = fed-width d rows row items is
