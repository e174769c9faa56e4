-- where the pins and nets of a design in rows stand, and how far the pins of a net reach
use Rattle.std.specs.Prelude.{ℕ, ◌-◌, ◌==◌, ◌&&◌, List, false, map, filter, if◌then◌else◌, Option, None, Some, slice_get}
use Rattle.std.specs.List.{find, range_with_len}
use Rattle.std.specs.Option.{option_and_then, option_map}
use Rattle.design_model.specs.Netlist.{Netlist}
use Rattle.design_model.specs.declared.design.Pin.{Pin}
use Rattle.row_model.specs.PinPlaces.{passes_row, pin_place}
use Rattle.row_model.specs.declared.places.PinPlace.{PinPlace}
use Rattle.row_model.specs.declared.rows.Seat.{Seat}
use Rattle.feed_cells.specs.Channels.{first_channel}
use Rattle.feed_cells.specs.Crossings.{all_nets, crossed_rows, crossing_of, is_across}
use Rattle.feed_cells.specs.Feeds.{is_pin, is_through_pin, middle_of, through_pin}
use Rattle.feed_cells.specs.NetTables.{at_net}
use Rattle.feed_cells.specs.Spans.{crossing_in, middle_in, span_of}
use Rattle.feed_cells.specs.declared.crossing.Crossing.TheVariants.{Alone}
use Rattle.feed_cells.specs.declared.net_places.NetPlace.{NetPlace}
use Rattle.feed_cells.specs.declared.placement.PlacedPin.{PlacedPin}
use Rattle.feed_cells.specs.declared.placement.Placement.{Placement}

-- a pin with where it stands, which channels its net stands in, and whether its net crosses its row by it
unfoldable pub placed_pin : Netlist → List (List Seat) → Pin → PlacedPin
placed_pin d rows p = record { place = pin_place d rows p; crossing = crossing_of d rows p.net; through = is_through_pin d rows p }

-- which channels a net stands in, the middle of its pins, and its through pins in the rows that it crosses
abbrev pub net_place : Netlist → List (List Seat) → ℕ → NetPlace
net_place d rows net = record {
  crossing = crossing_of d rows net;
  middle = middle_of d rows net;
  through = map (through_pin d rows net) (crossed_rows (crossing_of d rows net));
}

-- where the pins and the nets of a design in rows stand
unfoldable pub placement_of : Netlist → List (List Seat) → Placement
placement_of d rows = record { pins = map (placed_pin d rows) d.pins; nets = map (net_place d rows) (all_nets d) }

-- the first of pins that passes a row
abbrev pub first_through : List PinPlace → ℕ → Option Pin
first_through pins row = option_map (λ (e : PinPlace). e.pin) (find (λ (e : PinPlace). e.row == row && passes_row e) pins)

-- a net by where its pins stand
abbrev pub net_place_in : List PinPlace → NetPlace
net_place_in pins = record {
  crossing = crossing_in (span_of pins);
  middle = middle_in (span_of pins);
  through = map (first_through pins) (crossed_rows (crossing_in (span_of pins)));
}

-- the pins of a net among all
abbrev pub of_net : ℕ → List PinPlace → List PinPlace
of_net net pins = filter (λ (e : PinPlace). e.pin.net == net) pins

-- the nets of so many numbers from 1 on, by where all pins stand
abbrev pub nets_among : List PinPlace → ℕ → List NetPlace
nets_among pins count = map (λ (net : ℕ). net_place_in (of_net net pins)) (range_with_len 1 count)

-- the through pin of a net in a row
abbrev pub through_at : NetPlace → ℕ → Option Pin
through_at n row = if is_across n.crossing row then option_and_then (λ (o : Option Pin). o) (slice_get n.through (row - first_channel n.crossing)) else None

-- a pin with what a net, if there is one, says of it
abbrev pub placed_with : Option NetPlace → PinPlace → PlacedPin
placed_with None e = record { place = e; crossing = Alone; through = false }
placed_with (Some n) e = record { place = e; crossing = n.crossing; through = is_pin e.pin (through_at n e.row) }

abbrev pub placed_by : List NetPlace → PinPlace → PlacedPin
placed_by nets e = placed_with (at_net nets e.pin.net) e
