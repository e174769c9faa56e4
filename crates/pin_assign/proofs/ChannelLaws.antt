use Rattle.std.specs.List.Sorted.{IsStrictlyIncreasing}
use Rattle.std.specs.Option.{option_map}
use Rattle.std.proofs.Common.{◌≡◌, ◌<◌, ◌≤◌, ℕ, List, length, true, arith, Contains, ◌≢◌, ◌+◌, ◌∷◌, ◌++◌, Bool, Option, false, not, refl, ap, sym, ◌∙◌, subst, inl, inr}
use Rattle.std.proofs.lemmas.List.Kept.{IsStrictlyIncreasing-filter}
use Rattle.std.proofs.lemmas.Option.{slice_get_within}
use Rattle.std.proofs.lemmas.List.Elements.{Contains-append_right}
use Rattle.channel_model.specs.Nets.{AreNets, StandsIn}
use Rattle.channel_model.specs.Pins.{IsChannel, Pins}
use Rattle.design_model.specs.Netlist.{Netlist, IsNetlist}
use Rattle.design_model.specs.declared.design.Pin.{Pin}
use Rattle.design_model.proofs.DesignPins.{pin-within}
use Rattle.row_model.specs.declared.rows.Seat.{Seat}
use Rattle.row_model.specs.Rows.{ArePlaced}
use Rattle.row_model.specs.Stands.{row_in}
use Rattle.row_model.specs.declared.stands.Stand.{Stand}
use Rattle.row_model.proofs.StandLaws.{stand-is, stand-there}
use Rattle.feed_cells.specs.Crossings.{all_nets, crossing_of, is_in}
use Rattle.feed_cells.specs.Fed.{nets_in, Fed, fed_row, fed_rows, item_width}
use Rattle.feed_cells.specs.Feeds.{is_fed}
use Rattle.feed_cells.proofs.Standing.{Stands, feeding, seated}
use Rattle.feed_cells.proofs.Touching.{channel_beside}
use Rattle.feed_cells.specs.declared.fed.Item.{Item}
use Rattle.feed_cells.specs.declared.fed.Item.TheVariants.{Feed}
use Rattle.feed_cells.proofs.FedLaws.{cells-fed, fed-long, fed-row, fed-row-some, item-stands}
use Rattle.feed_cells.proofs.NetLaws.{fed-stands, inside-stands, net-range}
use Rattle.pin_assign.proofs.Causes.{AreDifferent, Cause, EntersBy, EntersTwice, FeedsBy, by_both, by_feed, by_pin, by_pins, over_both}
use Rattle.pin_assign.proofs.TablePlaces.{TablePlace, StandsAt, entry_at}
use Rattle.pin_assign.proofs.Sources.{Source, StandsOver, first_over, later_over, of_feed, of_pin, source_net}
use Rattle.pin_assign.specs.Tables.{table_of}
use Rattle.pin_assign.proofs.BesideLaws.{StandsBeside, cells-row, feed-beside, feed-item, pin-beside, row-of_stand}
use Rattle.pin_assign.proofs.EnteringLaws.{entered-is}
use Rattle.pin_assign.proofs.PlaceLaws.{TwoPlaces, paired-from-places}
use Rattle.pin_assign.proofs.StandLaws.{place-cause, place-effect, place-once}
use Rattle.pin_assign.proofs.TwiceLaws.{cause-inside, enters-twice}
use Rattle.pin_assign.proofs.WidthLaws.{table-bottom_length, table-top_length}
use Rattle.std_laws.proofs.Ranges.{range-increasing}
use Rattle.std_laws.proofs.Members.{filter-from, filter-member, range-contains, contains-get, member-head}
use Rattle.std_laws.proofs.Places.{at-place}

-- the nets of a channel stand in the order of their numbers
pub nets-increasing : (d : Netlist) (rows : List (List Seat)) (channel : ℕ) → IsStrictlyIncreasing (nets_in d rows channel)
nets-increasing d rows channel =
    IsStrictlyIncreasing-filter (λ (net : ℕ). is_in (crossing_of d rows net) channel) (all_nets d) (range-increasing 1 (length d.nets))

-- a net of a channel is one of the design's, and stands in the channel
pub record IsNetIn (d : Netlist) (rows : List (List Seat)) (channel net : ℕ) : Type 0 where
  pub some : 0 < net
  pub few : net ≤ length d.nets
  pub stands : is_in (crossing_of d rows net) channel ≡ true

-- a pin that stands along items is one of the design's
listed-along : (d : Netlist) (top : Bool) (p : Pin) (items : List Item) (left column : ℕ) → StandsOver d top (of_pin p) items left column → Contains d.pins p
listed-along d top p items left column (first_over {item = item} h) = grind (arith, h)
listed-along d top p items left column (later_over {item = item} {items = rest} h) = listed-along d top p rest (left + item_width d item) column h

-- an item that is a feed is one of a net that crosses the row by it
feed-of : (d : Netlist) (rows : List (List Seat)) (row net : ℕ) (seats : List Seat) → Stands d rows row seats (Feed net) → is_fed d rows row net ≡ true
feed-of d rows row net seats (seated s member is) = absurd (cc)
feed-of d rows row net seats (feeding own feed is) = rw (let same : net ≡ own = cc in same) feed.fed

module _ (d : Netlist) (good : IsNetlist d) (rows : List (List Seat)) (placed : ArePlaced d rows) (channel : ℕ) where
  abbrev fed : Fed
  fed = fed_rows d rows

  abbrev table : Pins
  table = table_of d (fed_rows d rows) channel

  -- a net in the channel is one of the design's
  net-in : (net : ℕ) → is_in (crossing_of d rows net) channel ≡ true → IsNetIn d rows channel net
  net-in net inside =
      let range = net-range d rows good net (inside-stands (crossing_of d rows net) channel inside) in
      record { some = range.0; few = range.1; stands = inside }

  -- a cause at a place of the channel's table is of a net that stands in the channel
  cause-net : (place : TablePlace) (cause : Source) → StandsAt d fed channel cause place → IsNetIn d rows channel (source_net cause)
  cause-net place (of_pin p) h =
      let r = row-of_stand d fed channel (of_pin p) place h in
      let listed = listed-along d (not place.upper) p r.items 0 place.column r.over in
      net-in p.net (entered-is d rows good p listed channel (rw (sym (cells-fed d rows)) h.entering)).inside
  cause-net place (of_feed net) h =
      let r = row-of_stand d fed channel (of_feed net) place h in
      let found = fed-row-some d rows r.row r.items r.is_row in
      let stands = item-stands d rows r.row found.0 (Feed net) (subst (λ (items : List Item). Contains items (Feed net)) found.2 (feed-item d fed channel net place r)) in
      let within : r.row < length rows = omega (arith, fed-long d rows, slice_get_within fed.rows r.row r.items r.is_row) in
      net-in net
      (cause-inside d rows good net channel (not place.upper) (by_feed r.row (record { within = within; beside = r.beside; fed = feed-of d rows r.row net found.0 stands })))

  -- a net of the table stands in the channel
  place-net : (net : ℕ) (place : TablePlace) → 0 < net → entry_at table place ≡ net → IsNetIn d rows channel net
  place-net net place some is =
      let c = place-cause d fed channel place net some is in
      rw (sym c.of_net) (cause-net place c.cause c.stands)

  -- a pin that enters the channel over an edge of its cell stands beside the channel
  pin-at : (net : ℕ) (upper : Bool) (p : Pin) → EntersBy d rows net channel (not upper) p → StandsBeside d fed channel upper (of_pin p)
  pin-at net upper p h =
      let there = stand-there d rows p.instance placed (pin-within d good h.listed.0 p (contains-get d.pins p h.listed)) in
      let is = stand-is d rows p.instance there.0 there.1 in
      let row = cells-row fed.rows there.0.row (is.front ++ is.seat ∷ is.back) (rw (cells-fed d rows) is.at) in
      pin-beside d fed channel there.0.row upper row.items (h.touches.beside ∙ ap (λ (o : Option Stand). channel_beside (not upper) (row_in o)) there.1) row.is_row p is.seat h.listed
      (rw row.cells (Contains-append_right is.front (is.seat ∷ is.back) is.seat (member-head is.seat is.back))) (sym is.own) h.touches.edge (rw (cells-fed d rows) h.entry)

  -- and so does a feed
  feed-at : (net row : ℕ) (upper : Bool) → FeedsBy d rows net channel (not upper) row → StandsBeside d fed channel upper (of_feed net)
  feed-at net row upper h =
      let seats = at-place rows row h.within in
      feed-beside d fed channel row upper (fed_row d rows row seats.0) h.beside (fed-row d rows row ∙ ap (option_map (fed_row d rows row)) seats.1) net
      (fed-stands d rows good row net seats.0 h.fed)

  -- what a cause leaves beside the channel
  record Beside (net : ℕ) (upper : Bool) : Type 0 where
    pub source : Source
    pub stands : StandsBeside d (fed_rows d rows) channel upper source
    pub of_net : source_net source ≡ net

  beside-of : (net : ℕ) (upper : Bool) → Cause d rows net channel (not upper) → Beside net upper
  beside-of net upper (by_pin p h) = record { source = of_pin p; stands = pin-at net upper p h; of_net = h.of_net }
  beside-of net upper (by_feed row h) = record { source = of_feed net; stands = feed-at net row upper h; of_net = refl }

  -- a net with two causes on different sides of the channel, or different ones on one side, stands at two places of the table
  two-places : (net : ℕ) (u v : Bool) (a : Beside net u) (b : Beside net v) → (u ≡ v → a.source ≢ b.source) → TwoPlaces table net
  two-places net u v a b differ =
      record {
        first = a.stands.place;
        second = b.stands.place;
        at_first = place-effect d good fed channel a.stands.place a.source a.stands.stands ∙ a.of_net;
        at_second = place-effect d good fed channel b.stands.place b.source b.stands.stands ∙ b.of_net;
        differ = λ same. differ (sym a.stands.side ∙ ap (λ (p : TablePlace). p.upper) same ∙ b.stands.side)
            (place-once d good fed channel a.stands.place a.source b.source a.stands.stands
            (rw same b.stands.stands));
      }

  pins-differ : (p q : Pin) → AreDifferent p q → of_pin p ≢ of_pin q
  pins-differ p q differ same = let e : p ≡ q = cc in differ (ap (λ (x : Pin). x.instance) e) (ap (λ (x : Pin). x.terminal) e)

  entered-twice : (net : ℕ) → EntersTwice d rows net channel → TwoPlaces table net
  unfolding beside-of
  entered-twice net (over_both above below) = two-places net false true (beside-of net false above) (beside-of net true below) (λ (e : false ≡ true). absurd (cc))
  entered-twice net (by_pins true p q first second differ) =
      two-places net false false (beside-of net false (by_pin p first)) (beside-of net false (by_pin q second)) (λ e. pins-differ p q differ)
  entered-twice net (by_pins false p q first second differ) =
      two-places net true true (beside-of net true (by_pin p first)) (beside-of net true (by_pin q second)) (λ e. pins-differ p q differ)
  entered-twice net (by_both true p row first second) =
      two-places net false false (beside-of net false (by_pin p first)) (beside-of net false (by_feed row second)) (λ e. λ (same : of_pin p ≡ of_feed net). cc)
  entered-twice net (by_both false p row first second) =
      two-places net true true (beside-of net true (by_pin p first)) (beside-of net true (by_feed row second)) (λ e. λ (same : of_pin p ≡ of_feed net). cc)

  two-of : (net : ℕ) → IsNetIn d rows channel net → TwoPlaces table net
  two-of net h = entered-twice net (enters-twice d rows good placed net channel h.stands)

  -- the table of a channel of rows with feeds makes a channel: no net has one pin
  pub table-channel : (fed_rows d rows).width ≤ 4000000 → IsChannel (table_of d (fed_rows d rows) channel)
  table-channel few =
      record {
        matched = table-top_length d rows channel ∙ sym (table-bottom_length d rows channel);
        within = omega (arith, table-top_length d rows channel);
        paired = paired-from-places table (λ net place some is. two-of net (place-net net place some is));
      }

  -- a net at a place of the table has a pin in the channel
  stands-in : (net : ℕ) (place : TablePlace) → 0 < net → entry_at table place ≡ net → StandsIn table net
  stands-in net place some is = (some, (place.column, grind arith))

  listed-at : (net : ℕ) (place : TablePlace) → 0 < net → entry_at table place ≡ net → Contains (nets_in d rows channel) net
  listed-at net place some is =
      let h = place-net net place some is in
      filter-member _ (all_nets d) net (range-contains 1 (length d.nets) net h.some (omega (arith, h.few))) h.stands

  -- its nets are those that stand in the channel, in the order of their numbers
  pub table-nets : AreNets (table_of d (fed_rows d rows) channel) (nets_in d rows channel)
  table-nets =
      record {
        ascending = nets-increasing d rows channel;
        standing = λ net h. (let n = net-in net (filter-from _ (all_nets d) net h).1 in let t = two-of net n in stands-in net t.first n.some t.at_first);
        listed = λ net h. elim h.1.1 [
          | inl is ↦ listed-at net (record { upper = true; column = h.1.0 }) h.0 is
          | inr is ↦ listed-at net (record { upper = false; column = h.1.0 }) h.0 is
        ];
      }
