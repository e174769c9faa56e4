use Rattle.std.specs.Prelude.{◌==◌, ℕ, ◌+◌, ◌-◌, ◌*◌, List, [], ◌∷◌, ◌++◌, map, length, ◌&&◌, if◌then◌else◌, Option, None, Some, slice_get, slice_index, unwrap_or}
use Rattle.std.specs.List.{find}
use Rattle.tech_rules.specs.Rules.{RuleValues}
use Rattle.design_model.specs.Drawing.{extent_of}
use Rattle.design_model.specs.Netlist.{Netlist}
use Rattle.design_model.specs.declared.design.Pin.{Pin}
use Rattle.design_model.specs.declared.design.Position.{Position}
use Rattle.channel_model.specs.declared.wiring.Wiring.{Wiring}
use Rattle.row_model.specs.Stands.{turned_column, positions_of}
use Rattle.row_model.specs.Widths.{cell_height, columns_of}
use Rattle.row_model.specs.declared.rows.Seat as seats
use Rattle.feed_cells.specs.Fed.{Fed, cells_in, heights_of, item_width, row_height, seats_in}
use Rattle.feed_cells.specs.declared.fed.Item.{Item}
use Rattle.feed_cells.specs.declared.fed.Item.TheVariants.{Cell, Feed}
use Rattle.pin_assign.specs.Tables.{table_of}
use Rattle.layout_laws.specs.Heights.{channel_height}
use Rattle.layout_laws.proofs.Plans.{Plan}
use Rattle.layout_laws.proofs.Seats.{Upright, Seat}
use Rattle.layout_laws.proofs.Uprights.{upright_rect}
use Rattle.wire_geom.specs.declared.drawn.Drawn.{Drawn}
use Rattle.channel_stack.specs.Risers.{all_risers}
use Rattle.channel_stack.specs.Stack.{channel_bases, row_bases}

-- the net of a terminal of an instance, 0 where it has no pin
abbrev pub net_found : Option Pin → ℕ
net_found None = 0
net_found (Some p) = p.net

unfoldable pub net_at : Netlist → ℕ → ℕ → ℕ
net_at d instance terminal = net_found (find (λ (p : Pin). p.instance == instance && p.terminal == terminal) d.pins)

-- the height of a row of items
abbrev pub height_of_row : Netlist → List Item → ℕ
height_of_row d items = row_height d (seats_in items)

-- a pin of a cell of this height: as long as a pin, from its edge inward
abbrev pub low_of : RuleValues → ℕ → Position → ℕ
low_of r height p = if p.top then height - r.grid.pin else 0

abbrev pub high_of : RuleValues → ℕ → Position → ℕ
high_of r height p = if p.top then height else r.grid.pin

abbrev pub upright_of : RuleValues → Netlist → seats.Seat → Position → Upright
upright_of r d s p = record {
  column = turned_column s.mirror (columns_of d s.instance) p.column;
  low = low_of r (cell_height d s.instance) p;
  high = high_of r (cell_height d s.instance) p;
  net = net_at d s.instance p.terminal;
}

-- what a position of a seated cell takes of a row of this height: its pin, and at the upper edge what lies between the pin and the row's edge
abbrev pub reach_of : RuleValues → Netlist → ℕ → seats.Seat → Position → Upright
reach_of r d height s p = record {
  column = turned_column s.mirror (columns_of d s.instance) p.column;
  low = low_of r (cell_height d s.instance) p;
  high = high_of r height p;
  net = net_at d s.instance p.terminal;
}

-- a feed stands from edge to edge
abbrev pub feed_upright : ℕ → ℕ → Upright
feed_upright height net = record { column = 0; low = 0; high = height; net = net }

-- an item as a seat of its row, which has this height
abbrev pub seat_of : RuleValues → Netlist → ℕ → Item → Seat
seat_of r d height (Cell s) = record { width = columns_of d s.instance; uprights = map (reach_of r d height s) (positions_of d s.instance) }
seat_of r d height (Feed net) = record { width = 1; uprights = feed_upright height net ∷ [] }

-- the height of an item of a row of this height, and the wires that it draws
abbrev pub item_height : Netlist → ℕ → Item → ℕ
item_height d height (Cell s) = cell_height d s.instance
item_height d height (Feed net) = height

abbrev pub item_wires : RuleValues → Netlist → ℕ → Item → List Upright
item_wires r d height (Cell s) = map (upright_of r d s) (positions_of d s.instance)
item_wires r d height (Feed net) = feed_upright height net ∷ []

-- the outline of an item in a row
abbrev pub outline_drawn : RuleValues → ℕ → ℕ → ℕ → ℕ → Drawn
outline_drawn r base height left right = record {
  shape = record {
    layer = r.outline.layer;
    rect = extent_of r.grid.centi (2 * (left * r.grid.column)) (2 * base) (2 * (right * r.grid.column)) (2 * (base + height));
  };
  net = 0;
}

-- an upright of an item that begins in column `left` of a row
abbrev pub upright_drawn : RuleValues → ℕ → ℕ → Upright → Drawn
upright_drawn r base left u = record {
  shape = record { layer = r.vertical.layer; rect = upright_rect r base u (left + u.column) };
  net = u.net;
}

-- the rectangles of an item of a row of this height: its outline, and then its wires in order
abbrev pub item_drawn : RuleValues → Netlist → ℕ → ℕ → ℕ → Item → List Drawn
item_drawn r d base height left item =
    outline_drawn r base (item_height d height item) left (left + item_width d item) ∷ map (upright_drawn r base left) (item_wires r d height item)

-- those of a cell, whatever the height of its row
abbrev pub cell_drawn : RuleValues → Netlist → ℕ → ℕ → seats.Seat → List Drawn
cell_drawn r d base left s = item_drawn r d base 0 left (Cell s)

-- the rectangles of items side by side, the first of which begins in column `left`
abbrev pub row_drawn : RuleValues → Netlist → ℕ → ℕ → ℕ → List Item → List Drawn
row_drawn r d base height left [] = []
row_drawn r d base height left (item ∷ rest) = item_drawn r d base height left item ++ row_drawn r d base height (left + item_width d item) rest

abbrev pub no_wiring : Wiring
no_wiring = record { tracks = 0; columns = 0; segments = []; vias = [] }

-- the items of row k, none where there is no such row, its height, and its items as seats
abbrev pub row_at : Fed → ℕ → List Item
row_at fed k = unwrap_or (slice_get fed.rows k) []

abbrev pub height_at : Netlist → Fed → ℕ → ℕ
height_at d fed k = height_of_row d (row_at fed k)

abbrev pub row_seats : RuleValues → Netlist → Fed → ℕ → List Seat
row_seats r d fed k = map (seat_of r d (height_at d fed k)) (row_at fed k)

abbrev pub wiring_at : List Wiring → ℕ → Wiring
wiring_at ws k = unwrap_or (slice_get ws k) no_wiring

-- the heights of rows with feeds
abbrev pub row_heights : Netlist → List (List Item) → List ℕ
row_heights d rows = heights_of d (cells_in rows)

abbrev pub base_at : RuleValues → Netlist → Fed → List Wiring → ℕ → ℕ
base_at r d fed ws k = slice_index (channel_bases r (row_heights d fed.rows) 0 ws) k

-- the risers of a routed design, and those of row k among risers of rows
abbrev pub risers_in : RuleValues → Netlist → Fed → List Wiring → List (List Drawn)
risers_in r d fed ws = all_risers r d fed (row_bases r fed.heights 0 ws)

abbrev pub risers_at : List (List Drawn) → ℕ → List Drawn
risers_at risers k = unwrap_or (slice_get risers k) []

-- the rows and channels of a routed design as a plan
abbrev pub plan_of : RuleValues → Netlist → Fed → List Wiring → Plan
plan_of r d fed ws = record {
  rows = length fed.rows;
  height = height_at d fed;
  pins = table_of d fed;
  wiring = wiring_at ws;
  base = base_at r d fed ws;
  seats = row_seats r d fed;
  row = λ (k : ℕ). row_drawn r d (base_at r d fed ws k + channel_height r (wiring_at ws k)) (height_at d fed k) 0 (row_at fed k) ++ risers_at (risers_in r d fed ws) k;
}
