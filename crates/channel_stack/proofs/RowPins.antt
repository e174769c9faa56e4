use Rattle.std.proofs.Common.{◌≡◌, ◌⊎◌, inl, inr, sym, ap, subst, ℕ, ◌+◌, ◌<◌, List, ◌∷◌, ◌++◌, Bool, true, false, not, Some, Contains}
use Rattle.std.proofs.lemmas.List.Elements.{Contains-append_right}
use Rattle.std.specs.Prelude.{slice_get}
use Rattle.design_model.proofs.DesignPins.{pin-within}
use Rattle.design_model.specs.Netlist.{Netlist, IsNetlist}
use Rattle.design_model.specs.declared.design.Pin.{Pin}
use Rattle.row_model.specs.Rows.{ArePlaced}
use Rattle.row_model.specs.Stands.{row_in, row_of}
use Rattle.row_model.specs.declared.rows.Seat.{Seat}
use Rattle.row_model.proofs.StandLaws.{stand-is, stand-there}
use Rattle.feed_cells.specs.Crossings.{crossing_of, is_across, is_in}
use Rattle.feed_cells.specs.Fed.{Fed, cells_in, fed_rows, items_width, seats_in}
use Rattle.feed_cells.proofs.Standing.{IsFeed, Stands, seated, feeding}
use Rattle.feed_cells.specs.declared.fed.Item.{Item}
use Rattle.feed_cells.specs.declared.fed.Item.TheVariants.{Cell, Feed}
use Rattle.feed_cells.proofs.CrossingLaws.{fed-across}
use Rattle.feed_cells.proofs.FedLaws.{cells-fed, fed-row-some, item-stands}
use Rattle.feed_cells.proofs.NetLaws.{across-beside}
use Rattle.pin_assign.specs.Entering.{enters}
use Rattle.pin_assign.proofs.TablePlaces.{TablePlace, StandsAt, channel_facing, entry_at}
use Rattle.pin_assign.proofs.Sources.{Source, of_feed, of_pin, source_net, IsOver}
use Rattle.pin_assign.specs.Tables.{table_of}
use Rattle.pin_assign.proofs.BesideLaws.{cells-row, feed-item, row-of_stand}
use Rattle.pin_assign.proofs.EnteringLaws.{entered-is}
use Rattle.pin_assign.proofs.StandLaws.{place-cause}
use Rattle.wire_geom.specs.Edges.{bottom_entry, top_entry}
use Rattle.channel_stack.proofs.PlanEntries.{over-of}
use Rattle.channel_stack.proofs.RowItems.{among-split, at-split, seat-item, split-at}
use Rattle.std_laws.proofs.Members.{contains-get, member-head}

-- a pin that stands over an item is one of the design's
over-pin : (d : Netlist) (top : Bool) (p : Pin) (item : Item) (left column : ℕ) → IsOver d top (of_pin p) item left column → Contains d.pins p
over-pin d top p (Cell s) left column over = over.listed
over-pin d top p (Feed net) left column over = absurd over

module _ (d : Netlist) (good : IsNetlist d) (rows : List (List Seat)) where
  abbrev fed : Fed
  fed = fed_rows d rows

  -- the seat of a pin's instance, among the items of its row
  pub record PinSeat (k : ℕ) (p : Pin) : Type 0 where
    pub front : List Item
    pub seat : Seat
    pub back : List Item
    pub at : slice_get (fed_rows d rows).rows k ≡ Some (front ++ Cell seat ∷ back)
    pub instance : p.instance ≡ seat.instance

  pub pin-seat : ArePlaced d rows → (p : Pin) → Contains d.pins p → PinSeat (row_of d rows p.instance) p
  pin-seat placed p listed =
      let stand = stand-there d rows p.instance placed (pin-within d good listed.0 p (contains-get d.pins p listed)) in
      let is = stand-is d rows p.instance stand.0 stand.1 in
      let cells : slice_get (cells_in fed.rows) stand.0.row ≡ Some (is.front ++ is.seat ∷ is.back) =
      subst (λ (rs : List (List Seat)). slice_get rs stand.0.row ≡ Some (is.front ++ is.seat ∷ is.back)) (sym (cells-fed d rows)) is.at in
      let row = cells-row fed.rows stand.0.row (is.front ++ is.seat ∷ is.back) cells in
      let member : Contains (seats_in row.items) is.seat =
      subst (λ (seats : List Seat). Contains seats is.seat) (sym row.cells)
      (Contains-append_right is.front (is.seat ∷ is.back) is.seat (member-head is.seat is.back)) in
      let split = split-at row.items (Cell is.seat) (seat-item row.items is.seat member) in
      let number : stand.0.row ≡ row_of d rows p.instance = ap row_in (sym stand.1) in
      record {
        front = split.front;
        seat = is.seat;
        back = split.back;
        at = subst (λ (n : ℕ). slice_get fed.rows n ≡ Some (split.front ++ Cell is.seat ∷ split.back)) number
            (at-split fed stand.0.row row.items (Cell is.seat) row.is_row split);
        instance = sym is.own;
      }

  -- a feed of a row is one of a net that crosses the row
  pub gap-feed : (k net : ℕ) (front back : List Item) → slice_get (fed_rows d rows).rows k ≡ Some (front ++ Feed net ∷ back) → IsFeed d rows k net
  gap-feed k net front back at =
      let row = fed-row-some d rows k (front ++ Feed net ∷ back) at in
      by (item-stands d rows k row.0 (Feed net) (subst (λ (items : List Item). Contains items (Feed net)) row.2 (among-split front back (Feed net))))
    where
      no-cell : (s : Seat) → Feed net ≡ Cell s → ⊥
      no-cell s e = cc

      same-feed : (n : ℕ) → Feed net ≡ Feed n → n ≡ net
      same-feed n e = cc

      by : {row : List Seat} → Stands d rows k row (Feed net) → IsFeed d rows k net
      by (seated s member is) = absurd (no-cell s is)
      by (feeding n feed is) = subst (λ (m : ℕ). IsFeed d rows k m) (same-feed n is) feed

  -- a net stands in each channel in which it has an entry
  beside-inside : (net row channel : ℕ) (upper : Bool) → channel ≡ channel_facing row upper → is_across (crossing_of d rows net) row ≡ true
      → is_in (crossing_of d rows net) channel ≡ true
  beside-inside net row channel upper at across = rw at (across-beside (crossing_of d rows net) (not upper) row across)

  source-inside : (channel : ℕ) (place : TablePlace) (cause : Source) → StandsAt d (fed_rows d rows) channel cause place → is_in (crossing_of d rows (source_net cause)) channel ≡ true
  source-inside channel place (of_pin p) h =
      let row = row-of_stand d fed channel (of_pin p) place h in
      let over = over-of d (not place.upper) (of_pin p) row.items 0 place.column row.over in
      (entered-is d rows good p (over-pin d (not place.upper) p over.item (0 + items_width d over.front) place.column over.over) channel
      (subst (λ (rs : List (List Seat)). enters d rs p channel ≡ true) (cells-fed d rows) h.entering)).inside
  source-inside channel place (of_feed net) h =
      let row = row-of_stand d fed channel (of_feed net) place h in
      let split = split-at row.items (Feed net) (feed-item d fed channel net place row) in
      let feed = gap-feed row.row net split.front split.back (at-split fed row.row row.items (Feed net) row.is_row split) in
      beside-inside net row.row channel place.upper row.beside (fed-across d rows row.row net feed.fed)

  place-inside : (channel net : ℕ) (place : TablePlace) → 0 < net → entry_at (table_of d (fed_rows d rows) channel) place ≡ net → is_in (crossing_of d rows net) channel ≡ true
  place-inside channel net place some is =
      let c = place-cause d fed channel place net some is in
      subst (λ (n : ℕ). is_in (crossing_of d rows n) channel ≡ true) c.of_net (source-inside channel place c.cause c.stands)

  pub entry-inside : (channel column net : ℕ) → top_entry (table_of d (fed_rows d rows) channel) column net ⊎ bottom_entry (table_of d (fed_rows d rows) channel) column net
      → is_in (crossing_of d rows net) channel ≡ true
  entry-inside channel column net (inl top) = place-inside channel net (record { upper = true; column = column }) top.0 top.1
  entry-inside channel column net (inr bottom) = place-inside channel net (record { upper = false; column = column }) bottom.0 bottom.1
