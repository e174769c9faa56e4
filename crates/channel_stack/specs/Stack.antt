-- rows and channels on one another
use Rattle.std.specs.Prelude.{ℕ, pos, ◌+◌, ◌*◌, List, [], ◌∷◌, map, fold, max, sum, Bool, false, if◌then◌else◌}
use Rattle.geom_core.specs.declared.turn.Place.{Place}
use Rattle.tech_rules.specs.Rules.{RuleValues}
use Rattle.design_model.specs.Netlist.{Netlist}
use Rattle.channel_model.specs.declared.wiring.Wiring.{Wiring}
use Rattle.feed_cells.specs.Fed.{Fed, item_width}
use Rattle.feed_cells.specs.declared.fed.Item.{Item}
use Rattle.feed_cells.specs.declared.fed.Item.TheVariants.{Cell, Feed}
use Rattle.layout_laws.specs.Heights.{channel_height}
use Rattle.wire_geom.specs.Drawing.{drawing}
use Rattle.wire_geom.specs.declared.drawn.Drawn.{Drawn}
use Rattle.channel_stack.specs.Risers.{all_risers}
use Rattle.channel_stack.specs.declared.placed.PlacedItem.{PlacedItem}

-- the lower edges of channels in units, the first of which lies at `base`, with rows of these heights between them
abbrev pub channel_bases : RuleValues → List ℕ → ℕ → List Wiring → List ℕ
channel_bases r heights base [] = []
channel_bases r [] base (w ∷ ws) = base ∷ []
channel_bases r (h ∷ heights) base (w ∷ ws) = base ∷ channel_bases r heights (base + channel_height r w + h) ws

-- the lower edges of the rows, each of which lies on one of these channels
abbrev pub row_bases : RuleValues → List ℕ → ℕ → List Wiring → List ℕ
row_bases r [] base ws = []
row_bases r (h ∷ heights) base [] = []
row_bases r (h ∷ heights) base (w ∷ ws) = (base + channel_height r w) ∷ row_bases r heights (base + channel_height r w + h) ws

-- the upper edge of the last of these channels
abbrev pub stack_top : RuleValues → List ℕ → ℕ → List Wiring → ℕ
stack_top r heights base [] = base
stack_top r [] base (w ∷ ws) = base + channel_height r w
stack_top r (h ∷ heights) base (w ∷ ws) = stack_top r heights (base + channel_height r w + h) ws

-- a number of units in half centimicrons
abbrev pub in_halves : RuleValues → ℕ → ℕ
in_halves r units = 2 * units * r.grid.centi

-- the place of an item of so many columns that begins in column `left` of a row: of a mirrored cell that of its right edge
abbrev pub is_mirrored : Item → Bool
is_mirrored (Cell s) = s.mirror
is_mirrored (Feed net) = false

abbrev pub corner_column : Bool → ℕ → ℕ → ℕ
corner_column mirror left width = if mirror then left + width else left

abbrev pub place_at : RuleValues → ℕ → Bool → ℕ → Place
place_at r base mirror column = record {
  dx = pos (in_halves r (column * r.grid.column));
  dy = pos (in_halves r base);
  mirror = mirror;
}

abbrev pub item_place : RuleValues → Netlist → ℕ → ℕ → Item → Place
item_place r d base left item = place_at r base (is_mirrored item) (corner_column (is_mirrored item) left (item_width d item))

-- the items of a row side by side, the first of which begins in column `left`
abbrev pub placed_from : RuleValues → Netlist → ℕ → ℕ → List Item → List PlacedItem
placed_from r d base left [] = []
placed_from r d base left (item ∷ items) =
    record { item = item; place = item_place r d base left item } ∷ placed_from r d base (left + item_width d item) items

abbrev pub placed_rows : RuleValues → Netlist → List (List Item) → List ℕ → List (List PlacedItem)
placed_rows r d [] bases = []
placed_rows r d (items ∷ rows) [] = []
placed_rows r d (items ∷ rows) (base ∷ bases) = placed_from r d base 0 items ∷ placed_rows r d rows bases

-- the rectangles of channels
abbrev pub drawings : RuleValues → List Wiring → List ℕ → List (List Drawn)
drawings r [] bases = []
drawings r (w ∷ ws) [] = []
drawings r (w ∷ ws) (base ∷ bases) = drawing r base w ∷ drawings r ws bases

-- the columns of the widest wiring
abbrev pub most_columns : List Wiring → ℕ
most_columns ws = fold max 0 (map (λ (w : Wiring). w.columns) ws)

-- the columns of all wirings together
abbrev pub total_columns : List Wiring → ℕ
total_columns ws = sum (map (λ (w : Wiring). w.columns) ws)

-- rows and channels on one another, from y 0 up
pub record Stacked : Type 0 where
  pub channel_base : List ℕ
  pub row_base : List ℕ
  pub row_height : List ℕ
  pub cells : List (List PlacedItem)
  pub risers : List (List Drawn)
  pub shapes : List (List Drawn)
  pub width : ℕ
  pub height : ℕ

unfoldable pub stack_of : RuleValues → Netlist → Fed → List Wiring → Stacked
stack_of r d fed ws = record {
  channel_base = channel_bases r fed.heights 0 ws;
  row_base = row_bases r fed.heights 0 ws;
  row_height = fed.heights;
  cells = placed_rows r d fed.rows (row_bases r fed.heights 0 ws);
  risers = all_risers r d fed (row_bases r fed.heights 0 ws);
  shapes = drawings r ws (channel_bases r fed.heights 0 ws);
  width = most_columns ws * r.grid.column * r.grid.centi;
  height = stack_top r fed.heights 0 ws * r.grid.centi;
}

-- the same without the rectangles of channels
pub record LaidOut : Type 0 where
  pub channel_base : List ℕ
  pub row_base : List ℕ
  pub row_height : List ℕ
  pub cells : List (List PlacedItem)
  pub risers : List (List Drawn)
  pub width : ℕ
  pub height : ℕ

abbrev pub laid_of : Stacked → LaidOut
laid_of s = record {
  channel_base = s.channel_base;
  row_base = s.row_base;
  row_height = s.row_height;
  cells = s.cells;
  risers = s.risers;
  width = s.width;
  height = s.height;
}
