use Rattle.std.proofs.Common.{◌≡◌, ◌≢◌, ◌<◌, ◌≤◌, ℕ, refl, arith, List, [], ◌∷◌, Bool, true, Contains, length}
use Rattle.std.proofs.lemmas.Bool.Decides.{nat_tests}
use Rattle.std.proofs.lemmas.List.Elements.{All-contains}
use Rattle.design_model.specs.Netlist.{IsNetlist, Netlist}
use Rattle.design_model.specs.declared.design.Pin.{Pin}
use Rattle.row_model.specs.Rows.{ArePlaced}
use Rattle.row_model.specs.declared.rows.Seat.{Seat}
use Rattle.feed_cells.specs.Crossings.{crossing_of, crossing_of_pins, is_across, is_in, pins_of}
use Rattle.feed_cells.specs.Fed.{fed_row}
use Rattle.feed_cells.specs.Feeds.{is_fed}
use Rattle.feed_cells.proofs.Standing.{IsFeed}
use Rattle.feed_cells.specs.declared.crossing.Crossing.{Crossing}
use Rattle.feed_cells.specs.declared.crossing.Crossing.TheVariants.{Alone}
use Rattle.feed_cells.specs.declared.fed.Item.TheVariants.{Feed}
use Rattle.feed_cells.proofs.Touching.{channel_beside}
use Rattle.feed_cells.proofs.CrossingLaws.{across-range, channels-within, fed-across, in-net, of-net}
use Rattle.feed_cells.proofs.FedLaws.{feed-there}
use Rattle.std_laws.proofs.Members.{member-head}

-- a net that stands in a channel, or crosses a row, is not alone
pub inside-stands : (c : Crossing) (channel : ℕ) → is_in c channel ≡ true → c ≢ Alone
inside-stands c channel inside is = grind arith

pub across-stands : (c : Crossing) (row : ℕ) → is_across c row ≡ true → c ≢ Alone
across-stands c row across is = grind arith

-- and stands in the channels on both sides of the row
pub across-beside : (c : Crossing) (top : Bool) (row : ℕ) → is_across c row ≡ true → is_in c (channel_beside top row) ≡ true
across-beside c top row across = grind (arith, nat_tests)

-- the row that a net crosses is one of the rows
pub across-within : (d : Netlist) (rows : List (List Seat)) → IsNetlist d → ArePlaced d rows → (net row : ℕ) → is_across (crossing_of d rows net) row ≡ true
    → row < length rows
across-within d rows good placed net row across =
    let range = across-range (crossing_of d rows net) row across in
    let last = channels-within d rows good placed net in
    omega (arith, range.1, last)

-- a net that is not alone has a pin, so its number is one of the design's nets
pub net-range : (d : Netlist) (rows : List (List Seat)) → IsNetlist d → (net : ℕ) → crossing_of d rows net ≢ Alone → (1 ≤ net) × (net ≤ length d.nets)
unfolding crossing_of
net-range d rows good net stands = by (pins_of d net) (λ p member. of-net d net p member) stands
  where
    by : (pins : List Pin) → ((p : Pin) → Contains pins p → Contains d.pins p × (p.net ≡ net)) → crossing_of_pins d rows pins ≢ Alone
        → (1 ≤ net) × (net ≤ length d.nets)
    by [] are some = absurd (some refl)
    by (p ∷ ps) are some =
        let pin = are p (member-head p ps) in
        let range = All-contains (λ (q : Pin). (0 < q.net) × (q.net ≤ length d.nets)) d.pins p good.nets pin.0 in
        (omega (arith, range.0, pin.1), omega (arith, range.1, pin.1))

-- a net that crosses a row by a feed is one of the design's nets, and its feed stands in the row
pub fed-net : (d : Netlist) (rows : List (List Seat)) → IsNetlist d → (row net : ℕ) → is_fed d rows row net ≡ true → IsFeed d rows row net
fed-net d rows good row net fed =
    let range = net-range d rows good net (across-stands (crossing_of d rows net) row (fed-across d rows row net fed)) in
    record { fed = fed; some = range.0; few = range.1 }

pub fed-stands : (d : Netlist) (rows : List (List Seat)) → IsNetlist d → (row net : ℕ) (seats : List Seat) → is_fed d rows row net ≡ true
    → Contains (fed_row d rows row seats) (Feed net)
fed-stands d rows good row net seats fed = feed-there d rows row seats net (fed-net d rows good row net fed)

-- the pins of a net that is alone are one
pub alone-same : (d : Netlist) (rows : List (List Seat)) (net : ℕ) → crossing_of d rows net ≡ Alone → (p q : Pin) → Contains d.pins p → p.net ≡ net
    → Contains d.pins q → q.net ≡ net → p ≡ q
unfolding crossing_of
alone-same d rows net alone p q first of_first second of_second =
    by (pins_of d net) alone (in-net d net p first of_first) (in-net d net q second of_second)
  where
    by : (pins : List Pin) → crossing_of_pins d rows pins ≡ Alone → Contains pins p → Contains pins q → p ≡ q
    by [] is one other = absurd (omega (arith, one.1))
    by (a ∷ []) is one other = grind (arith, one, other)
    by (a ∷ b ∷ ps) is one other = absurd (grind (arith, nat_tests))
