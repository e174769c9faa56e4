use Rattle.std.proofs.Common.{◌≡◌, ◌⊎◌, ◌<◌, ◌≤◌, ℕ, inl, inr, refl, sym, subst, arith, List, [], ◌∷◌, true, false, eqb, Contains, length}
use Rattle.std.proofs.lemmas.Bool.{and_parts, cases_eq, eq-eqb, eqb-true}
use Rattle.std.proofs.lemmas.Bool.Decides.{nat_tests}
use Rattle.design_model.specs.Netlist.{IsNetlist, Netlist}
use Rattle.design_model.specs.declared.design.Pin.{Pin}
use Rattle.row_model.specs.Rows.{ArePlaced}
use Rattle.row_model.specs.Stands.{row_of}
use Rattle.row_model.specs.declared.rows.Seat.{Seat}
use Rattle.feed_cells.specs.Crossings.{crossing_of, crossing_of_pins, highest, is_across, is_in, lowest, pins_of}
use Rattle.feed_cells.specs.Feeds.{is_fed}
use Rattle.feed_cells.specs.Channels.{first_channel}
use Rattle.feed_cells.proofs.ChannelSpans.{AllTouch, AreSpread, last_channel}
use Rattle.feed_cells.proofs.Touching.{Touches}
use Rattle.feed_cells.specs.declared.crossing.Crossing.{Crossing}
use Rattle.feed_cells.specs.declared.crossing.Crossing.TheVariants.{Alone, One, Many}
use Rattle.feed_cells.proofs.PinEdges.{pin-edge, row-within}
use Rattle.std_laws.proofs.Greatest.{greatest-all, greatest-reached, least-all, least-reached}
use Rattle.std_laws.proofs.Members.{filter-from, filter-member, member-head}

-- the pins of a net are those of the design that have its number
pub of-net : (d : Netlist) (net : ℕ) (p : Pin) → Contains (pins_of d net) p → Contains d.pins p × (p.net ≡ net)
of-net d net p member =
    let parts = filter-from (λ (q : Pin). eqb q.net net) d.pins p member in
    (parts.0, eqb-true p.net net parts.1)

pub in-net : (d : Netlist) (net : ℕ) (p : Pin) → Contains d.pins p → p.net ≡ net → Contains (pins_of d net) p
in-net d net p member is = filter-member (λ (q : Pin). eqb q.net net) d.pins p member (eq-eqb p.net net is)

-- where there is a position on one of the edges, the lowest channel is not above the highest
pub pin-ordered : (d : Netlist) (rows : List (List Seat)) → IsNetlist d → (p : Pin) → Contains d.pins p → lowest d rows p ≤ highest d rows p
pin-ordered d rows good p member = grind (arith, pin-edge d good p member)

-- a pin touches the channels from its lowest to its highest
pub touches-between : (d : Netlist) (rows : List (List Seat)) (p : Pin) (channel : ℕ) → lowest d rows p ≤ channel → channel ≤ highest d rows p
    → Touches d rows false p channel ⊎ Touches d rows true p channel
touches-between d rows p channel above below =
    elim (cases_eq channel (row_of d rows p.instance)) [
      | inl here ↦ inl (record { edge = grind arith; beside = here })
      | inr over ↦ inr (record { edge = grind arith; beside = grind arith })
    ]

-- the highest channel that a pin touches is at most that above the last row
pub highest-within : (d : Netlist) (rows : List (List Seat)) → ArePlaced d rows → (p : Pin) → highest d rows p ≤ length rows
highest-within d rows placed p = grind (arith, row-within d rows p.instance placed.some)

-- the pins of a net with one channel
pub one-channel : (d : Netlist) (rows : List (List Seat)) (pins : List Pin) (b : ℕ) → crossing_of_pins d rows pins ≡ One b → AllTouch d rows pins b
one-channel d rows [] b is = cc
one-channel d rows (p ∷ []) b is = cc
one-channel d rows (p ∷ q ∷ ps) b is =
    record {
      first = p;
      second = q;
      others = ps;
      some = refl;
      lows = λ x member. grind (arith, nat_tests, greatest-all (lowest d rows) p (q ∷ ps) x member);
      highs = λ x member. grind (arith, nat_tests, least-all (highest d rows) p (q ∷ ps) x member);
    }

-- and of one with several
pub many-channels : (d : Netlist) (rows : List (List Seat)) (pins : List Pin) (lo hi : ℕ) → crossing_of_pins d rows pins ≡ Many lo hi → AreSpread d rows pins lo hi
many-channels d rows [] lo hi is = cc
many-channels d rows (p ∷ []) lo hi is = cc
many-channels d rows (p ∷ q ∷ ps) lo hi is =
    let bottom = least-reached (highest d rows) p (q ∷ ps) in
    let peak = greatest-reached (lowest d rows) p (q ∷ ps) in
    record {
      ordered = grind (arith, nat_tests);
      lows = λ x member. grind (arith, nat_tests, greatest-all (lowest d rows) p (q ∷ ps) x member);
      highs = λ x member. grind (arith, nat_tests, least-all (highest d rows) p (q ∷ ps) x member);
      under = (bottom.0, bottom.1, grind (arith, nat_tests, bottom.2));
      over = (peak.0, peak.1, grind (arith, nat_tests, peak.2));
    }

-- the channels of a net go from the first up to the last, and the last is at most that above the last row
pub channels-ordered : (d : Netlist) (rows : List (List Seat)) (net : ℕ) → first_channel (crossing_of d rows net) ≤ last_channel (crossing_of d rows net)
unfolding crossing_of
channels-ordered d rows net = by (pins_of d net)
  where
    by : (pins : List Pin) → first_channel (crossing_of_pins d rows pins) ≤ last_channel (crossing_of_pins d rows pins)
    by [] = omega arith
    by (p ∷ []) = omega arith
    by (p ∷ q ∷ ps) = grind (arith, nat_tests)

pub channels-within : (d : Netlist) (rows : List (List Seat)) → IsNetlist d → ArePlaced d rows → (net : ℕ) → last_channel (crossing_of d rows net) ≤ length rows
unfolding crossing_of
channels-within d rows good placed net = by (crossing_of_pins d rows (pins_of d net)) refl
  where
    by : (c : Crossing) → crossing_of_pins d rows (pins_of d net) ≡ c → last_channel c ≤ length rows
    by Alone is = omega arith
    by (One b) is =
        let one = one-channel d rows (pins_of d net) b is in
        let member : Contains (pins_of d net) one.first = subst (λ (l : List Pin). Contains l one.first) (sym one.some) (member-head one.first (one.second ∷ one.others)) in
        omega (arith, highest-within d rows placed one.first, one.highs one.first member)
    by (Many lo hi) is =
        let over = (many-channels d rows (pins_of d net) lo hi is).over in
        omega (arith, over.2, pin-ordered d rows good over.0 (of-net d net over.0 over.1).0, highest-within d rows placed over.0)

-- a net that crosses a row by a feed crosses it
pub fed-across : (d : Netlist) (rows : List (List Seat)) (row net : ℕ) → is_fed d rows row net ≡ true → is_across (crossing_of d rows net) row ≡ true
fed-across d rows row net fed = (and_parts _ _ fed).0

-- a net stands in the channels from its first to its last
pub in-range : (c : Crossing) (channel : ℕ) → is_in c channel ≡ true → (first_channel c ≤ channel) × (channel ≤ last_channel c)
in-range c channel inside = grind (arith, nat_tests)

-- a row that a net crosses lies between its channels
pub across-range : (c : Crossing) (row : ℕ) → is_across c row ≡ true → (first_channel c ≤ row) × (row < last_channel c)
across-range c row across = grind (arith, nat_tests)

pub from-across : (c : Crossing) (row : ℕ) → first_channel c ≤ row → row < last_channel c → is_across c row ≡ true
from-across c row above below = grind (arith, nat_tests)
