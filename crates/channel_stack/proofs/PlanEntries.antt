use Rattle.row_model.specs.declared.rows.Seat as seats
use Rattle.std.proofs.Common.{◌≡◌, refl, sym, ap, ◌∙◌, subst, ℕ, ◌-◌, suc, ◌+◌, ◌<◌, List, [], ◌∷◌, ◌++◌, length, map, Bool, true, false, cond, Option, Some, Contains, arith}
use Rattle.std.proofs.lemmas.Bool.{not-true}
use Rattle.std.specs.Prelude.{slice_get, slice_index}
use Rattle.design_model.proofs.DesignPins.{pin-found}
use Rattle.feed_cells.proofs.FedWidths.{width-cons}
use Rattle.tech_rules.specs.Rules.{RuleValues}
use Rattle.design_model.specs.Netlist.{Netlist, IsNetlist}
use Rattle.design_model.specs.declared.design.Pin.{Pin}
use Rattle.design_model.specs.declared.design.Position.{Position}
use Rattle.row_model.specs.Stands.{is_on, positions_of, turned_column}
use Rattle.row_model.specs.Widths.{cell_height, columns_of}
use Rattle.feed_cells.specs.Fed.{Fed, cells_in, item_width, items_width}
use Rattle.feed_cells.specs.declared.fed.Item.{Item}
use Rattle.feed_cells.specs.declared.fed.Item.TheVariants.{Cell, Feed}
use Rattle.pin_assign.proofs.EntryForms.{EntryIn}
use Rattle.pin_assign.proofs.Sources.{Source, of_pin, of_feed, source_net, SourceEnters, IsOver, IsPinOver, StandsOver, first_over, later_over}
use Rattle.pin_assign.specs.Tables.{table_of}
use Rattle.pin_assign.proofs.CauseLaws.{entry-from}
use Rattle.pin_assign.proofs.EdgeLaws.{edge-position, position-listed}
use Rattle.pin_assign.proofs.TableLaws.{bottom-cause, bottom-effect, top-cause, top-effect}
use Rattle.layout_laws.proofs.Seats.{ComesToLower, ComesToUpper, LowerNet, UpperNet, Upright, UprightAt}
use Rattle.wire_geom.specs.Edges.{bottom_entry, top_entry}
use Rattle.channel_stack.proofs.Planned.{feed_upright, height_at, net_at, net_found, reach_of, row_at, row_seats, seat_of, upright_of}
use Rattle.channel_stack.proofs.RowItems.{row-there, upright-stands}
use Rattle.std_laws.proofs.Members.{map-member, member-head}

-- a wire comes to the upper edge where `top` holds, else to the lower one
abbrev pub Comes : ℕ → Bool → Upright → Type 0
Comes height true u = ComesToUpper height u
Comes height false u = ComesToLower u

pub position-comes : (r : RuleValues) (d : Netlist) (height : ℕ) (s : seats.Seat) (top : Bool) (p : Position) → is_on top p ≡ true → Comes height top (reach_of r d height s p)
position-comes r d height s true p on = ap (λ (b : Bool). cond b height r.grid.pin) on
position-comes r d height s false p on = ap (λ (b : Bool). cond b (cell_height d s.instance - r.grid.pin) 0) (not-true p.top on)

-- a pin comes to the edges of its own cell
pub pin-comes : (r : RuleValues) (d : Netlist) (s : seats.Seat) (top : Bool) (p : Position) → is_on top p ≡ true → Comes (cell_height d s.instance) top (upright_of r d s p)
pin-comes r d s true p on = ap (λ (b : Bool). cond b (cell_height d s.instance) r.grid.pin) on
pin-comes r d s false p on = ap (λ (b : Bool). cond b (cell_height d s.instance - r.grid.pin) 0) (not-true p.top on)

pub feed-comes : (height : ℕ) (top : Bool) (net : ℕ) → Comes height top (feed_upright height net)
feed-comes height true net = refl
feed-comes height false net = refl

-- the net of a pin's terminal is the pin's
pub net-is : (d : Netlist) → IsNetlist d → (p : Pin) → Contains d.pins p → net_at d p.instance p.terminal ≡ p.net
unfolding net_at
net-is d good p listed = ap net_found (pin-found d good p listed)

-- the position of a pin that stands on an edge
pub record PinWire (d : Netlist) (top : Bool) (p : Pin) (s : seats.Seat) (left column : ℕ) : Type 0 where
  pub position : Position
  pub listed : Contains (positions_of d s.instance) position
  pub terminal : position.terminal ≡ p.terminal
  pub side : is_on top position ≡ true
  pub at : column ≡ left + turned_column s.mirror (columns_of d s.instance) position.column
  pub of_net : net_at d s.instance position.terminal ≡ p.net

pub pin-wire : (d : Netlist) → IsNetlist d → (top : Bool) (p : Pin) (s : seats.Seat) (left column : ℕ) → IsPinOver d top p s left column → PinWire d top p s left column
pin-wire d good top p s left column over =
    let a = edge-position d top p over.own over.edge in
    record {
      position = a.position;
      listed = subst (λ (i : ℕ). Contains (positions_of d i) a.position) over.instance (position-listed d top p over.own a);
      terminal = a.terminal;
      side = a.side;
      at = sym over.place ∙ ap (λ (n : ℕ). left + turned_column s.mirror (columns_of d s.instance) n) (sym a.column);
      of_net = ap (λ (i : ℕ). net_at d i a.position.terminal) (sym over.instance) ∙ ap (λ (t : ℕ). net_at d p.instance t) a.terminal ∙ net-is d good p over.listed;
    }

-- the upright of a cause that stands over an item of a row of this height
pub record WireOf (r : RuleValues) (d : Netlist) (height : ℕ) (top : Bool) (cause : Source) (item : Item) (left column : ℕ) : Type 0 where
  pub upright : Upright
  pub member : Contains (seat_of r d height item).uprights upright
  pub comes : Comes height top upright
  pub at : column ≡ left + upright.column
  pub of_net : upright.net ≡ source_net cause

wire-over : (r : RuleValues) (d : Netlist) → IsNetlist d → (height : ℕ) (top : Bool) (cause : Source) (item : Item) (left column : ℕ) → IsOver d top cause item left column
    → WireOf r d height top cause item left column
wire-over r d good height top (of_pin p) (Cell s) left column over =
    let w = pin-wire d good top p s left column over in
    record {
      upright = reach_of r d height s w.position;
      member = map-member (reach_of r d height s) (positions_of d s.instance) w.position w.listed;
      comes = position-comes r d height s top w.position w.side;
      at = w.at;
      of_net = w.of_net;
    }
wire-over r d good height top (of_pin p) (Feed own) left column over = absurd over
wire-over r d good height top (of_feed net) (Cell s) left column over = absurd over
wire-over r d good height top (of_feed net) (Feed own) left column over =
    record {
      upright = feed_upright height own;
      member = member-head (feed_upright height own) [];
      comes = feed-comes height top own;
      at = (let place = over.1 in omega arith);
      of_net = over.0;
    }

-- a cause along items stands over one of them
pub record OverOf (d : Netlist) (top : Bool) (cause : Source) (items : List Item) (left column : ℕ) : Type 0 where
  pub front : List Item
  pub item : Item
  pub back : List Item
  pub is : items ≡ front ++ item ∷ back
  pub over : IsOver d top cause item (left + items_width d front) column

module _ (d : Netlist) (top : Bool) (cause : Source) where
  pub over-of : (items : List Item) (left column : ℕ) → StandsOver d top cause items left column → OverOf d top cause items left column
  over-of items left column (first_over {item = item} {items = rest} over) =
      let begins : left ≡ left + items_width d [] = omega arith in
      record { front = []; item = item; back = rest; is = refl; over = subst (λ (n : ℕ). IsOver d top cause item n column) begins over }
  over-of items left column (later_over {item = item} {items = rest} stands) =
      let found = over-of rest (left + item_width d item) column stands in
      let begins : left + item_width d item + items_width d found.front ≡ left + items_width d (item ∷ found.front) = omega (arith, width-cons d item found.front) in
      record {
        front = item ∷ found.front;
        item = found.item;
        back = found.back;
        is = ap (λ (xs : List Item). item ∷ xs) found.is;
        over = subst (λ (n : ℕ). IsOver d top cause found.item n column) begins found.over;
      }

  -- and what is over an item of a row stands along the row
  pub over-along : (front : List Item) (item : Item) (back : List Item) (left from column : ℕ) → from ≡ left + items_width d front
      → IsOver d top cause item from column → StandsOver d top cause (front ++ item ∷ back) left column
  over-along [] item back left from column begins over =
      let same : from ≡ left = omega (arith, begins) in
      first_over (subst (λ (n : ℕ). IsOver d top cause item n column) same over)
  over-along (first ∷ front) item back left from column begins over =
      later_over (over-along front item back (left + item_width d first) from column (omega (arith, begins, width-cons d first front)) over)

-- an upright of a row of this height that comes to an edge in a column
pub record EdgeWire (r : RuleValues) (d : Netlist) (height : ℕ) (top : Bool) (items : List Item) (column net : ℕ) : Type 0 where
  pub upright : Upright
  pub at : UprightAt upright column 0 (map (seat_of r d height) items)
  pub comes : Comes height top upright
  pub of_net : upright.net ≡ net

edge-wire : (r : RuleValues) (d : Netlist) → IsNetlist d → (height : ℕ) (rows : List (List seats.Seat)) (top : Bool) (channel : ℕ) (items : List Item) (column net : ℕ)
    → EntryIn d rows top channel (Some items) column net → EdgeWire r d height top items column net
edge-wire r d good height rows top channel items column net entry =
    let e = entry in
    let o = over-of d top e.cause items 0 column e.stands in
    let w = wire-over r d good height top e.cause o.item (0 + items_width d o.front) column o.over in
    record {
      upright = w.upright;
      at = subst (λ (xs : List Item). UprightAt w.upright column 0 (map (seat_of r d height) xs)) (sym o.is)
          (upright-stands r d height o.front o.item o.back 0 column w.upright w.member w.at);
      comes = w.comes;
      of_net = w.of_net ∙ e.of_net;
    }

-- an entry of a channel at a row's edge is a net that comes to the edge there
pub lower-net : (r : RuleValues) (d : Netlist) → IsNetlist d → (fed : Fed) (k : ℕ) → k < length fed.rows → (column net : ℕ) → top_entry (table_of d fed k) column net
    → LowerNet (row_seats r d fed k) column net
lower-net r d good fed k within column net entry =
    let at = top-cause d fed k column net entry.0 entry.1 in
    let w = edge-wire r d good (height_at d fed k) (cells_in fed.rows) false k (row_at fed k) column net
    (subst (λ (o : Option (List Item)). EntryIn d (cells_in fed.rows) false k o column net) (row-there fed k within) at) in
    record { upright = w.upright; at = w.at; comes = w.comes; of_net = w.of_net }

pub upper-net : (r : RuleValues) (d : Netlist) → IsNetlist d → (fed : Fed) (k : ℕ) → k < length fed.rows → (column net : ℕ) → bottom_entry (table_of d fed (suc k)) column net
    → UpperNet (height_at d fed k) (row_seats r d fed k) column net
upper-net r d good fed k within column net entry =
    let at = bottom-cause d fed (suc k) column net entry.0 entry.1 in
    let w = edge-wire r d good (height_at d fed k) (cells_in fed.rows) true (suc k) (row_at fed k) column net
    (subst (λ (o : Option (List Item)). EntryIn d (cells_in fed.rows) true (suc k) o column net) (row-there fed k within) at) in
    record { upright = w.upright; at = w.at; comes = w.comes; of_net = w.of_net }

-- a cause over an item of a row makes an entry of the channel that it enters
pub lower-entry : (d : Netlist) → IsNetlist d → (fed : Fed) (k : ℕ) (front : List Item) (item : Item) (back : List Item) → slice_get fed.rows k ≡ Some (front ++ item ∷ back)
    → (cause : Source) (column : ℕ) → IsOver d false cause item (items_width d front) column → SourceEnters d (cells_in fed.rows) k cause
    → slice_index (table_of d fed k).top column ≡ source_net cause
lower-entry d good fed k front item back is_row cause column over entering =
    top-effect d good fed k column (source_net cause)
    (subst (λ (o : Option (List Item)). EntryIn d (cells_in fed.rows) false k o column (source_net cause)) (sym is_row)
    (entry-from d (cells_in fed.rows) false k cause (front ++ item ∷ back) 0 column
    (over-along d false cause front item back 0 (items_width d front) column (omega arith) over) entering))

pub upper-entry : (d : Netlist) → IsNetlist d → (fed : Fed) (k : ℕ) (front : List Item) (item : Item) (back : List Item) → slice_get fed.rows k ≡ Some (front ++ item ∷ back)
    → (cause : Source) (column : ℕ) → IsOver d true cause item (items_width d front) column → SourceEnters d (cells_in fed.rows) (suc k) cause
    → slice_index (table_of d fed (suc k)).bottom column ≡ source_net cause
upper-entry d good fed k front item back is_row cause column over entering =
    bottom-effect d good fed (suc k) column (source_net cause)
    (subst (λ (o : Option (List Item)). EntryIn d (cells_in fed.rows) true (suc k) o column (source_net cause)) (sym is_row)
    (entry-from d (cells_in fed.rows) true (suc k) cause (front ++ item ∷ back) 0 column
    (over-along d true cause front item back 0 (items_width d front) column (omega arith) over) entering))
