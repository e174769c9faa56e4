-- risers: wires that lead from the upper pins of cells lower than their row to the row's upper edge
use Rattle.std.specs.Prelude.{◌≡◌, ◌<◌, ◌≤◌, ℕ, zero, suc, ◌+◌, ◌-◌, List, [], ◌∷◌, ◌++◌, map, length, take, drop, if◌then◌else◌, nat_lt, unwrap_or, Some, Contains, slice_get, slice_index}
use Rattle.std.specs.List.{range_with_len}
use Rattle.tech_rules.specs.Rules.{RuleValues}
use Rattle.design_model.specs.Netlist.{Netlist}
use Rattle.row_model.specs.Widths.{cell_height, columns_of}
use Rattle.row_model.specs.declared.rows.Seat.{Seat}
use Rattle.feed_cells.specs.Fed.{Fed, item_width, items_width}
use Rattle.feed_cells.specs.declared.fed.Item.{Item}
use Rattle.feed_cells.specs.declared.fed.Item.TheVariants.{Cell, Feed}
use Rattle.pin_assign.specs.Tables.{table_of}
use Rattle.wire_geom.specs.Drawing.{upright}
use Rattle.wire_geom.specs.Edges.{bottom_entry}
use Rattle.wire_geom.specs.declared.drawn.Drawn.{Drawn}

-- a cell of row k, which has this height and stands on this lower edge, is lower than the row and gives a net to the channel above in one of its columns; this is its riser there: from
-- where the cell's pins at its upper edge begin to the upper edge of the row
pub record IsRiser (r : RuleValues) (d : Netlist) (fed : Fed) (k base height : ℕ) (a : Drawn) : Type 0 where
  pub front : List Item
  pub seat : Seat
  pub back : List Item
  pub at : slice_get fed.rows k ≡ Some (front ++ Cell seat ∷ back)
  pub lower : cell_height d seat.instance < height
  pub column : ℕ
  pub from : items_width d front ≤ column
  pub to : column < items_width d front + columns_of d seat.instance
  pub entry : bottom_entry (table_of d fed (suc k)) column a.net
  pub is : a ≡ upright r (base + (cell_height d seat.instance - r.grid.pin)) (base + height) column a.net

-- the risers over columns from this one on, by the nets that enter the channel above there: none where no net does
abbrev pub risers_over : RuleValues → ℕ → ℕ → ℕ → List ℕ → List Drawn
risers_over r low high column [] = []
risers_over r low high column (zero ∷ nets) = risers_over r low high (column + 1) nets
risers_over r low high column (suc net ∷ nets) = upright r low high column (suc net) ∷ risers_over r low high (column + 1) nets

-- those of an item of a row of this height, which stands on this lower edge
abbrev pub item_risers : RuleValues → Netlist → ℕ → ℕ → ℕ → List ℕ → Item → List Drawn
item_risers r d base height left nets (Cell s) =
    if nat_lt (cell_height d s.instance) height then risers_over r (base + (cell_height d s.instance - r.grid.pin)) (base + height) left nets else []
item_risers r d base height left nets (Feed net) = []

-- those of items side by side, the first of which begins in column `left`
abbrev pub risers_along : RuleValues → Netlist → ℕ → ℕ → ℕ → List ℕ → List Item → List Drawn
risers_along r d base height left nets [] = []
risers_along r d base height left nets (item ∷ items) =
    item_risers r d base height left (take (item_width d item) nets) item ++ risers_along r d base height (left + item_width d item) (drop (item_width d item) nets) items

-- those of row k, where rows stand on these lower edges
abbrev pub row_risers : RuleValues → Netlist → Fed → List ℕ → ℕ → List Drawn
row_risers r d fed bases k =
    risers_along r d (slice_index bases k) (slice_index fed.heights k) 0 (table_of d fed (suc k)).bottom (unwrap_or (slice_get fed.rows k) [])

-- those of all rows, from the lowest up
abbrev pub all_risers : RuleValues → Netlist → Fed → List ℕ → List (List Drawn)
all_risers r d fed bases = map (row_risers r d fed bases) (range_with_len 0 (length fed.rows))

-- for each row there are risers, and these are just the risers of its cells, where rows stand on these lower edges
pub record AreRisers (r : RuleValues) (d : Netlist) (fed : Fed) (bases : List ℕ) (risers : List (List Drawn)) : Type 0 where
  pub each : length risers ≡ length fed.rows
  pub are : (k : ℕ) (rise : List Drawn) (a : Drawn) → slice_get risers k ≡ Some rise → Contains rise a → IsRiser r d fed k (slice_index bases k) (slice_index fed.heights k) a
  pub all : (k : ℕ) (rise : List Drawn) (a : Drawn) → slice_get risers k ≡ Some rise → IsRiser r d fed k (slice_index bases k) (slice_index fed.heights k) a → Contains rise a
