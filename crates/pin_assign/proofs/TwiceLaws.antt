use Rattle.std.proofs.Common.{◌≡◌, ◌⊎◌, ◌<◌, ◌≤◌, ◌+◌, ◌-◌, not, ℕ, max, inl, inr, refl, sym, subst, ap, ◌∙◌, arith, List, ◌∷◌, Bool, true, false, eqb, Contains, length, map}
use Rattle.std.proofs.lemmas.Bool.{both_ways, cases_eq, eqb-true}
use Rattle.design_model.proofs.DesignPins.{first-two, kept-ascending}
use Rattle.design_model.specs.Netlist.{IsNetlist, Netlist}
use Rattle.design_model.specs.PinOrder.{IsAscending, pin_pair}
use Rattle.design_model.specs.declared.design.Pin.{Pin}
use Rattle.design_model.proofs.PinsInOrder.{pins-ascending}
use Rattle.row_model.specs.Rows.{ArePlaced}
use Rattle.row_model.specs.declared.rows.Seat.{Seat}
use Rattle.feed_cells.specs.Crossings.{crossing_of, has_edge, is_across, is_in, lowest}
use Rattle.feed_cells.specs.Feeds.{is_fed}
use Rattle.feed_cells.proofs.Touching.{channel_beside}
use Rattle.feed_cells.specs.declared.crossing.Crossing.{Crossing}
use Rattle.feed_cells.specs.declared.crossing.Crossing.TheVariants.{Alone, One, Many}
use Rattle.feed_cells.proofs.CrossingLaws.{channels-within, fed-across, from-across, in-range, of-net, pin-ordered}
use Rattle.feed_cells.proofs.NetLaws.{across-beside}
use Rattle.pin_assign.proofs.Causes.{AreDifferent, Cause, CrossesBy, EntersBy, EntersTwice, IsEntered, by_both, by_feed, by_pin, by_pins, over_both}
use Rattle.pin_assign.proofs.EnteringLaws.{all-touch, are-spread, crossed-by, enter-lowest, enter-one, entered-is, same-edge}
use Rattle.std_laws.proofs.Members.{member-head, member-tail}

-- two pins that enter one channel, over whichever edges
two-pins : (d : Netlist) (rows : List (List Seat)) (net channel : ℕ) (p q : Pin) → AreDifferent p q
    → EntersBy d rows net channel false p ⊎ EntersBy d rows net channel true p → EntersBy d rows net channel false q ⊎ EntersBy d rows net channel true q
    → EntersTwice d rows net channel
two-pins d rows net channel p q different (inl first) (inl second) = by_pins false p q first second different
two-pins d rows net channel p q different (inl first) (inr second) = over_both (by_pin q second) (by_pin p first)
two-pins d rows net channel p q different (inr first) (inl second) = over_both (by_pin p first) (by_pin q second)
two-pins d rows net channel p q different (inr first) (inr second) = by_pins true p q first second different

-- a pin that enters does so over the edge by which it touches
pub enters-by : (d : Netlist) (rows : List (List Seat)) (net channel : ℕ) (p : Pin) → Contains d.pins p → p.net ≡ net → IsEntered d rows p channel
    → EntersBy d rows net channel false p ⊎ EntersBy d rows net channel true p
enters-by d rows net channel p member is entered =
    elim entered.touched [
      | inl lower ↦ inl (record { listed = member; of_net = is; touches = lower; entry = entered.entry })
      | inr upper ↦ inr (record { listed = member; of_net = is; touches = upper; entry = entered.entry })
    ]

-- a net with one channel has two pins that enter it
twice-one : (d : Netlist) (rows : List (List Seat)) → IsNetlist d → (net b : ℕ) → crossing_of d rows net ≡ One b → EntersTwice d rows net b
twice-one d rows good net b is =
    let pins = all-touch d rows net b is in
    let first = of-net d net pins.first (rw pins.some (member-head pins.first (pins.second ∷ pins.others))) in
    let second = of-net d net pins.second (rw pins.some (member-tail pins.first (pins.second ∷ pins.others) pins.second (member-head pins.second pins.others))) in
    let up : IsAscending (map pin_pair (pins.first ∷ pins.second ∷ pins.others)) =
    subst (λ (l : List Pin). IsAscending (map pin_pair l)) pins.some (kept-ascending (λ (p : Pin). eqb p.net net) d.pins (pins-ascending d good)) in
    two-pins d rows net b pins.first pins.second (first-two pins.first pins.second pins.others up)
    (enters-by d rows net b pins.first first.0 first.1 (enter-one d rows pins.first b first.0 (rw first.1 is)))
    (enters-by d rows net b pins.second second.0 second.1 (enter-one d rows pins.second b second.0 (rw second.1 is)))

-- a crossed row is among the rows
crossed-within : (d : Netlist) (rows : List (List Seat)) → IsNetlist d → ArePlaced d rows → (net lo hi row : ℕ) → crossing_of d rows net ≡ Many lo hi
    → row < hi → row < length rows
crossed-within d rows good placed net lo hi row is below = grind (arith, channels-within d rows good placed net)

-- a crossed row is a cause in the channel beside it
cause-beside : (d : Netlist) (rows : List (List Seat)) (net row : ℕ) (top : Bool) → row < length rows → ((p : Pin) × CrossesBy d rows net row p) ⊎ (is_fed d rows row net ≡ true)
    → Cause d rows net (channel_beside top row) top
cause-beside d rows net row true within (inl pin) = by_pin pin.0 pin.1.over
cause-beside d rows net row false within (inl pin) = by_pin pin.0 pin.1.under
cause-beside d rows net row top within (inr fed) = by_feed row (record { within = within; beside = refl; fed = fed })

-- pins of which one alone has an edge are different
different-edges : (d : Netlist) (top : Bool) (p q : Pin) → has_edge d top p ≡ false → has_edge d top q ≡ true → AreDifferent p q
different-edges d top p q none some instance terminal = both_ways (has_edge d top p) none (same-edge d top p q instance terminal ∙ some)

module _ (d : Netlist) (rows : List (List Seat)) (good : IsNetlist d) (placed : ArePlaced d rows) (net lo hi : ℕ) (is : crossing_of d rows net ≡ Many lo hi) where
  crossed : (row : ℕ) → lo ≤ row → row < hi → ((p : Pin) × CrossesBy d rows net row p) ⊎ (is_fed d rows row net ≡ true)
  crossed row above below = crossed-by d rows net row (ap (λ (c : Crossing). is_across c row) is ∙ from-across (Many lo hi) row above below)

  -- in a channel beside a crossed row a pin that has no position on the row's other side is a second cause
  twice-end : (top : Bool) (row : ℕ) → row < length rows → ((q : Pin) × CrossesBy d rows net row q) ⊎ (is_fed d rows row net ≡ true) → (p : Pin)
      → (EntersBy d rows net (channel_beside top row) top p → has_edge d (not top) p ≡ false)
      → EntersBy d rows net (channel_beside top row) false p ⊎ EntersBy d rows net (channel_beside top row) true p → EntersTwice d rows net (channel_beside top row)
  twice-end true row within by p ends (inl lower) = over_both (cause-beside d rows net row true within by) (by_pin p lower)
  twice-end true row within (inl pin) p ends (inr upper) = by_pins true p pin.0 upper pin.1.over (different-edges d false p pin.0 (ends upper) pin.1.under.touches.edge)
  twice-end true row within (inr fed) p ends (inr upper) = by_both true p row upper (record { within = within; beside = refl; fed = fed })
  twice-end false row within by p ends (inr upper) = over_both (by_pin p upper) (cause-beside d rows net row false within by)
  twice-end false row within (inl pin) p ends (inl lower) = by_pins false p pin.0 lower pin.1.under (different-edges d true p pin.0 (ends lower) pin.1.over.touches.edge)
  twice-end false row within (inr fed) p ends (inl lower) = by_both false p row lower (record { within = within; beside = refl; fed = fed })

  -- so in its first channel, by a pin that touches no channel further up
  twice-first : EntersTwice d rows net lo
  twice-first =
      let spread = are-spread d rows net lo hi is in
      let p : Pin = spread.under.0 in
      let pin = of-net d net p spread.under.1 in
      let at : max (lowest d rows p) lo ≡ lo = omega (arith, spread.under.2, pin-ordered d rows good p pin.0) in
      twice-end false lo (crossed-within d rows good placed net lo hi lo is spread.ordered) (crossed lo (omega arith) spread.ordered) p
      (λ lower. grind (arith, spread.under.2, lower.touches.beside))
      (enters-by d rows net lo p pin.0 pin.1 (subst (λ (n : ℕ). IsEntered d rows p n) at (enter-lowest d rows good p lo hi pin.0 (rw pin.1 is))))

  -- and in its last, by a pin that touches no channel further down
  twice-last : (row : ℕ) → hi ≡ row + 1 → EntersTwice d rows net hi
  twice-last row top =
      let spread = are-spread d rows net lo hi is in
      let p : Pin = spread.over.0 in
      let pin = of-net d net p spread.over.1 in
      let ordered : lo < hi = spread.ordered in
      let under : row < hi = omega arith in
      let at : max (lowest d rows p) lo ≡ row + 1 = omega (arith, spread.over.2) in
      rw top (twice-end true row (crossed-within d rows good placed net lo hi row is under) (crossed row (omega arith) under) p
      (λ upper. grind (arith, spread.over.2, upper.touches.beside))
      (enters-by d rows net (row + 1) p pin.0 pin.1 (subst (λ (n : ℕ). IsEntered d rows p n) at (enter-lowest d rows good p lo hi pin.0 (rw pin.1 is)))))

  -- and between them the rows on both sides
  twice-between : (row : ℕ) → lo ≤ row → row + 1 < hi → EntersTwice d rows net (row + 1)
  twice-between row above below =
      over_both (cause-beside d rows net row true (crossed-within d rows good placed net lo hi row is (omega arith)) (crossed row above (omega arith)))
      (cause-beside d rows net (row + 1) false (crossed-within d rows good placed net lo hi (row + 1) is below) (crossed (row + 1) (omega arith) below))

  twice-many : (channel : ℕ) → lo ≤ channel → channel ≤ hi → EntersTwice d rows net channel
  twice-many channel above below =
      let ordered : lo < hi = (are-spread d rows net lo hi is).ordered in
      elim (cases_eq channel lo) [
        | inl first ↦ rw first twice-first
        | inr later ↦ elim (cases_eq channel hi) [
          | inl last ↦ rw last (twice-last (hi - 1) (omega arith))
          | inr earlier ↦ rw (let back : channel ≡ channel - 1 + 1 = omega arith in back) (twice-between (channel - 1) (omega arith) (omega arith))
        ]
      ]

-- a net that stands in a channel has two different causes there
pub enters-twice : (d : Netlist) (rows : List (List Seat)) → IsNetlist d → ArePlaced d rows → (net channel : ℕ) → is_in (crossing_of d rows net) channel ≡ true
    → EntersTwice d rows net channel
enters-twice d rows good placed net channel inside = by (crossing_of d rows net) refl inside
  where
    by : (c : Crossing) → crossing_of d rows net ≡ c → is_in c channel ≡ true → EntersTwice d rows net channel
    by Alone is inside = absurd (both_ways false refl inside)
    by (One b) is inside = rw (eqb-true channel b inside) (twice-one d rows good net b is)
    by (Many lo hi) is inside =
        let range = in-range (Many lo hi) channel inside in
        twice-many d rows good placed net lo hi is channel range.0 range.1

-- a net has causes in no other channels than its own
pub cause-inside : (d : Netlist) (rows : List (List Seat)) → IsNetlist d → (net channel : ℕ) (top : Bool) → Cause d rows net channel top
    → is_in (crossing_of d rows net) channel ≡ true
cause-inside d rows good net channel top (by_pin p enters) =
    rw (sym enters.of_net) (entered-is d rows good p enters.listed channel enters.entry).inside
cause-inside d rows good net channel top (by_feed row feeds) = rw feeds.beside (across-beside (crossing_of d rows net) top row (fed-across d rows row net feeds.fed))
