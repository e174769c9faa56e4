use Rattle.std.specs.List.{slice_get}
use Rattle.std.specs.Option.{option_map}
use Rattle.std.proofs.Common.{◌≡◌, ℕ, ◌+◌, List, [], ◌∷◌, Bool, Some, refl, ap, sym, ◌∙◌, inl, inr, arith, Contains, suc, true, false, not, Option, subst}
use Rattle.std.proofs.lemmas.Option.{slice_get-map}
use Rattle.design_model.specs.Netlist.{Netlist}
use Rattle.design_model.specs.declared.design.Pin.{Pin}
use Rattle.row_model.specs.Stands.{edge_column, turned_column}
use Rattle.row_model.specs.Widths.{columns_of}
use Rattle.row_model.specs.declared.rows.Seat.{Seat}
use Rattle.feed_cells.specs.Fed.{item_width, seats_in, Fed, cells_in}
use Rattle.feed_cells.specs.declared.fed.Item.{Item}
use Rattle.feed_cells.specs.declared.fed.Item.TheVariants.{Cell, Feed}
use Rattle.feed_cells.specs.Crossings.{has_edge}
use Rattle.pin_assign.proofs.Sources.{Source, StandsOver, first_over, later_over, of_feed, of_pin, SourceEnters}
use Rattle.pin_assign.specs.Entering.{enters}
use Rattle.pin_assign.proofs.TablePlaces.{HasOver, TablePlace, StandsAt, channel_facing, row_beside}
use Rattle.pin_assign.specs.Tables.{row_below}
use Rattle.std_laws.proofs.Members.{member-cases, member-head, member-tail}

-- a cause along items stands in a column
pub record Standing (d : Netlist) (top : Bool) (cause : Source) (items : List Item) (left : ℕ) : Type 0 where
  pub column : ℕ
  pub stands : StandsOver d top cause items left column

-- a pin of a cell of a row that has a position on an edge stands on that edge of the row
pub pin-stands : (d : Netlist) (top : Bool) (p : Pin) (s : Seat) (items : List Item) (left own : ℕ) → Contains d.pins p → Contains (seats_in items) s → p.instance ≡ s.instance
    → edge_column d top p ≡ Some own → Standing d top (of_pin p) items left
pin-stands d top p s [] left own listed seated instance edge = absurd (omega (arith, seated.1))
pin-stands d top p s (Feed net ∷ items) left own listed seated instance edge =
    let more = pin-stands d top p s items (left + item_width d (Feed net)) own listed seated instance edge in
    record { column = more.column; stands = later_over more.stands }
pin-stands d top p s (Cell other ∷ items) left own listed seated instance edge =
    elim (member-cases other (seats_in items) s seated) [
      | inl here ↦
          record {
            column = left + turned_column other.mirror (columns_of d other.instance) own;
            stands = first_over (record { listed = listed; instance = instance ∙ ap (λ (x : Seat). x.instance) (sym here); own = own; edge = edge; place = refl });
          }
      | inr there ↦
          let more = pin-stands d top p s items (left + item_width d (Cell other)) own listed there instance edge in
          record { column = more.column; stands = later_over more.stands }
    ]

-- a feed of a row stands on both of its edges, in one column
pub record FeedStanding (d : Netlist) (net : ℕ) (items : List Item) (left : ℕ) : Type 0 where
  pub column : ℕ
  pub stands : (top : Bool) → StandsOver d top (of_feed net) items left column

pub feed-stands : (d : Netlist) (net : ℕ) (items : List Item) (left : ℕ) → Contains items (Feed net) → FeedStanding d net items left
feed-stands d net [] left listed = absurd (omega (arith, listed.1))
feed-stands d net (item ∷ items) left listed =
    elim (member-cases item items (Feed net) listed) [
      | inl here ↦ record { column = left; stands = λ (top : Bool). first_over (rw here (refl, refl)) }
      | inr there ↦
          let more = feed-stands d net items (left + item_width d item) there in
          record { column = more.column; stands = λ (top : Bool). later_over (more.stands top) }
    ]

-- where a feed stands on an edge, it is one of the row's
pub feed-listed : (d : Netlist) (top : Bool) (net : ℕ) (items : List Item) (left column : ℕ) → StandsOver d top (of_feed net) items left column → Contains items (Feed net)
feed-listed d top net items left column (first_over {item = item} {items = rest} h) = rw (let same : Feed net ≡ item = grind (arith, h) in same) (member-head item rest)
feed-listed d top net items left column (later_over {item = item} {items = rest} h) =
    member-tail item rest (Feed net) (feed-listed d top net rest (left + item_width d item) column h)

-- the row beside a channel is the one that the channel is beside
pub beside-is : (rows : List (List Item)) (channel row : ℕ) (upper : Bool) → channel ≡ channel_facing row upper → row_beside rows channel upper ≡ slice_get rows row
beside-is rows channel row true e = ap (slice_get rows) e
beside-is rows channel row false e = let next : channel ≡ suc row = omega arith in ap (row_below rows) next

-- the cells of a row with feeds are a row of cells, and each is one of such a row
pub row-cells : (rows : List (List Item)) (row : ℕ) (items : List Item) → slice_get rows row ≡ Some items → slice_get (cells_in rows) row ≡ Some (seats_in items)
row-cells rows row items is = slice_get-map seats_in rows row ∙ ap (option_map seats_in) is

pub record FedRow (rows : List (List Item)) (row : ℕ) (seats : List Seat) : Type 0 where
  pub items : List Item
  pub is_row : slice_get rows row ≡ Some items
  pub cells : seats_in items ≡ seats

pub cells-row : (rows : List (List Item)) (row : ℕ) (seats : List Seat) → slice_get (cells_in rows) row ≡ Some seats → FedRow rows row seats
cells-row rows row seats is =
    let found : (items : List Item) × (slice_get rows row ≡ Some items) × (seats_in items ≡ seats) = grind (arith, slice_get-map seats_in rows row) in
    record { items = found.0; is_row = found.1; cells = found.2 }

-- a pin with an edge has a first position there
pub edge-own : (d : Netlist) (top : Bool) (p : Pin) → has_edge d top p ≡ true → (own : ℕ) × (edge_column d top p ≡ Some own)
edge-own d top p has = grind arith

-- a cause that stands on one side of a channel
pub record StandsBeside (d : Netlist) (fed : Fed) (channel : ℕ) (upper : Bool) (cause : Source) : Type 0 where
  pub place : TablePlace
  pub side : place.upper ≡ upper
  pub stands : StandsAt d fed channel cause place

module _ (d : Netlist) (fed : Fed) (channel row : ℕ) (upper : Bool) (items : List Item) (beside : channel ≡ channel_facing row upper) (is_row : slice_get fed.rows row ≡ Some items) where
  stands-beside : (cause : Source) (column : ℕ) → StandsOver d (not upper) cause items 0 column → SourceEnters d (cells_in fed.rows) channel cause → StandsBeside d fed channel upper cause
  stands-beside cause column over entering =
      record {
        place = record { upper = upper; column = column };
        side = refl;
        stands = record {
          over = subst (λ (o : Option (List Item)). HasOver d (not upper) cause o column) (sym (beside-is fed.rows channel row upper beside ∙ is_row)) over;
          entering = entering;
        };
      }

  -- a pin of a cell of a row that enters a channel beside the row by the edge between them stands at a place of the channel's table
  pub pin-beside : (p : Pin) (s : Seat) → Contains d.pins p → Contains (seats_in items) s → p.instance ≡ s.instance → has_edge d (not upper) p ≡ true
      → enters d (cells_in fed.rows) p channel ≡ true → StandsBeside d fed channel upper (of_pin p)
  pin-beside p s listed seated instance has entering =
      let own = edge-own d (not upper) p has in
      let h = pin-stands d (not upper) p s items 0 own.0 listed seated instance own.1 in
      stands-beside (of_pin p) h.column h.stands entering

  -- a feed of a row stands at a place of the table of each channel beside the row
  pub feed-beside : (net : ℕ) → Contains items (Feed net) → StandsBeside d fed channel upper (of_feed net)
  feed-beside net listed =
      let h = feed-stands d net items 0 listed in
      stands-beside (of_feed net) h.column (h.stands (not upper)) tt

-- the row whose edge a cause at a place of a table stands on
pub record RowOf (d : Netlist) (fed : Fed) (channel : ℕ) (cause : Source) (place : TablePlace) : Type 0 where
  pub row : ℕ
  pub items : List Item
  pub beside : channel ≡ channel_facing row place.upper
  pub is_row : slice_get fed.rows row ≡ Some items
  pub over : StandsOver d (not place.upper) cause items 0 place.column

pub row-of_stand : (d : Netlist) (fed : Fed) (channel : ℕ) (cause : Source) (place : TablePlace) → StandsAt d fed channel cause place → RowOf d fed channel cause place
row-of_stand d fed channel cause place h =
    let found : (row : ℕ) × (items : List Item) × (channel ≡ channel_facing row place.upper) × (slice_get fed.rows row ≡ Some items) × StandsOver d (not place.upper) cause items 0 place.column =
    grind (arith, h.over) in
    record { row = found.0; items = found.1; beside = found.2; is_row = found.3; over = found.4 }

-- a feed at a place of a table is one of the row there
pub feed-item : (d : Netlist) (fed : Fed) (channel net : ℕ) (place : TablePlace) (r : RowOf d fed channel (of_feed net) place) → Contains r.items (Feed net)
feed-item d fed channel net place r = feed-listed d (not place.upper) net r.items 0 place.column r.over
