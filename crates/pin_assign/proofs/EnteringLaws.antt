use Rattle.std.proofs.Common.{◌≡◌, ◌≢◌, ◌⊎◌, ℕ, max, inl, inr, refl, sym, subst, ap, ◌∙◌, arith, List, Bool, true, false, Option, Some, None, Contains}
use Rattle.std.proofs.lemmas.Bool.Decides.{nat_tests}
use Rattle.design_model.specs.Netlist.{IsNetlist, Netlist}
use Rattle.design_model.specs.declared.design.Pin.{Pin}
use Rattle.row_model.specs.Stands.{row_of}
use Rattle.row_model.specs.declared.rows.Seat.{Seat}
use Rattle.feed_cells.specs.Crossings.{crossing_of, has_edge, is_across, lowest, pins_of}
use Rattle.feed_cells.specs.Channels.{first_channel}
use Rattle.feed_cells.proofs.ChannelSpans.{AllTouch, AreSpread}
use Rattle.feed_cells.specs.Feeds.{is_fed, through_pin, passes, is_through_pin}
use Rattle.feed_cells.proofs.Touching.{Touches, channel_beside}
use Rattle.feed_cells.specs.declared.crossing.Crossing.{Crossing}
use Rattle.feed_cells.specs.declared.crossing.Crossing.TheVariants.{Alone, One, Many}
use Rattle.feed_cells.proofs.NetLaws.{across-beside}
use Rattle.feed_cells.proofs.CrossingLaws.{in-net, many-channels, one-channel, pin-ordered, touches-between}
use Rattle.pin_assign.proofs.Causes.{CrossesBy, EntersBy, IsEntered, Passes}
use Rattle.pin_assign.specs.Entering.{enters}
use Rattle.std_laws.proofs.Members.{find-passes}

-- the pins of a net with one channel, by the net's crossing
pub all-touch : (d : Netlist) (rows : List (List Seat)) (net b : ℕ) → crossing_of d rows net ≡ One b → AllTouch d rows (pins_of d net) b
unfolding crossing_of
all-touch d rows net b is = one-channel d rows (pins_of d net) b is

-- and of a net with several
pub are-spread : (d : Netlist) (rows : List (List Seat)) (net lo hi : ℕ) → crossing_of d rows net ≡ Many lo hi → AreSpread d rows (pins_of d net) lo hi
unfolding crossing_of
are-spread d rows net lo hi is = many-channels d rows (pins_of d net) lo hi is

-- the pins that lead through one row as the same terminal have the same edges
pub same-edge : (d : Netlist) (top : Bool) (p q : Pin) → p.instance ≡ q.instance → p.terminal ≡ q.terminal → has_edge d top p ≡ has_edge d top q
same-edge d top p q instance terminal = rw (instance, terminal) refl

-- a through pin passes its row
through-passes : (d : Netlist) (rows : List (List Seat)) (net row : ℕ) (p : Pin) → through_pin d rows net row ≡ Some p → Passes d rows net row p
through-passes d rows net row p is =
    let found = find-passes (passes d rows net row) d.pins p (grind arith) in
    record {
      across = grind arith;
      listed = found.1;
      of_net = grind (arith, nat_tests, found.0);
      row_is = grind (arith, nat_tests, found.0);
      edges = λ top. elim top [ true ↦ grind (arith, found.0) | false ↦ grind (arith, found.0) ];
    }

-- and so does a pin by which its net crosses its row
passes-through : (d : Netlist) (rows : List (List Seat)) (p : Pin) → is_through_pin d rows p ≡ true
    → (is_across (crossing_of d rows p.net) (row_of d rows p.instance) ≡ true) × ((top : Bool) → has_edge d top p ≡ true)
passes-through d rows p through =
    let other : (q : Pin) × (through_pin d rows p.net (row_of d rows p.instance) ≡ Some q) × (p.instance ≡ q.instance) × (p.terminal ≡ q.terminal) = grind (arith, nat_tests) in
    let first = through-passes d rows p.net (row_of d rows p.instance) other.0 other.1 in
    (first.across, λ top. same-edge d top p other.0 other.2 other.3 ∙ first.edges top)

-- a pin of a net with one channel enters it
pub enter-one : (d : Netlist) (rows : List (List Seat)) (p : Pin) (b : ℕ) → Contains d.pins p → crossing_of d rows p.net ≡ One b → IsEntered d rows p b
unfolding enters
enter-one d rows p b member is =
    let pins = all-touch d rows p.net b is in
    let listed = in-net d p.net p member refl in
    record {
      entry = grind (arith, nat_tests);
      inside = grind (arith, nat_tests);
      touched = touches-between d rows p b (pins.lows p listed) (pins.highs p listed);
    }

-- a pin of a net with several channels enters the lowest of them that it touches
pub enter-lowest : (d : Netlist) (rows : List (List Seat)) → IsNetlist d → (p : Pin) (lo hi : ℕ) → Contains d.pins p → crossing_of d rows p.net ≡ Many lo hi
    → IsEntered d rows p (max (lowest d rows p) lo)
unfolding enters
enter-lowest d rows good p lo hi member is =
    let pins = are-spread d rows p.net lo hi is in
    let listed = in-net d p.net p member refl in
    record {
      entry = grind (arith, nat_tests);
      inside = grind (arith, nat_tests, pins.ordered, pins.lows p listed);
      touched = touches-between d rows p (max (lowest d rows p) lo) (omega arith) (omega (arith, pin-ordered d rows good p member, pins.highs p listed));
    }

-- a pin by which its net crosses its row enters the channels on both sides
pub enter-beside : (d : Netlist) (rows : List (List Seat)) (p : Pin) (top : Bool) → is_through_pin d rows p ≡ true
    → IsEntered d rows p (channel_beside top (row_of d rows p.instance))
unfolding enters
enter-beside d rows p top through =
    let parts = passes-through d rows p through in
    record {
      entry = grind (arith, nat_tests, parts.0);
      inside = across-beside (crossing_of d rows p.net) top (row_of d rows p.instance) parts.0;
      touched = elim top as (λ (t : Bool). Touches d rows false p (channel_beside t (row_of d rows p.instance)) ⊎ Touches d rows true p (channel_beside t (row_of d rows p.instance))) [
        | true ↦ inr (record { edge = parts.1 true; beside = refl })
        | false ↦ inl (record { edge = parts.1 false; beside = refl })
      ];
    }

-- each pin of a net that stands in channels enters the lowest of them that it touches
pub enters-lowest : (d : Netlist) (rows : List (List Seat)) → IsNetlist d → (p : Pin) → Contains d.pins p → crossing_of d rows p.net ≢ Alone
    → IsEntered d rows p (max (lowest d rows p) (first_channel (crossing_of d rows p.net)))
enters-lowest d rows good p member stands = by (crossing_of d rows p.net) refl
  where
    by : (c : Crossing) → crossing_of d rows p.net ≡ c → IsEntered d rows p (max (lowest d rows p) (first_channel c))
    by Alone is = absurd (stands is)
    by (One b) is =
        let at : max (lowest d rows p) b ≡ b = omega (arith, (all-touch d rows p.net b is).lows p (in-net d p.net p member refl)) in
        rw at (enter-one d rows p b member is)
    by (Many lo hi) is = enter-lowest d rows good p lo hi member is

-- what a pin enters is a channel of its net, and the pin touches it
pub entered-is : (d : Netlist) (rows : List (List Seat)) → IsNetlist d → (p : Pin) → Contains d.pins p → (channel : ℕ) → enters d rows p channel ≡ true
    → IsEntered d rows p channel
unfolding enters
entered-is d rows good p member channel entry = by (crossing_of d rows p.net) refl
  where
    by : (c : Crossing) → crossing_of d rows p.net ≡ c → IsEntered d rows p channel
    by Alone is = absurd (grind arith)
    by (One b) is = let at : channel ≡ b = grind (arith, nat_tests) in rw at (enter-one d rows p b member is)
    by (Many lo hi) is =
        let at : (channel ≡ max (lowest d rows p) lo)
        ⊎ ((is_through_pin d rows p ≡ true) × ((channel ≡ channel_beside false (row_of d rows p.instance)) ⊎ (channel ≡ channel_beside true (row_of d rows p.instance)))) =
        grind (arith, nat_tests) in
        elim at [
          | inl low ↦ rw low (enter-lowest d rows good p lo hi member is)
          | inr through ↦ elim through.1 [
            | inl under ↦ rw under (enter-beside d rows p false through.0)
            | inr over ↦ rw over (enter-beside d rows p true through.0)
          ]
        ]

-- a net crosses a row by its through pin
crosses-by : (d : Netlist) (rows : List (List Seat)) (net row : ℕ) (p : Pin) → through_pin d rows net row ≡ Some p → CrossesBy d rows net row p
crosses-by d rows net row p is = record { under = entering false; over = entering true }
  where
    passing : Passes d rows net row p
    passing = through-passes d rows net row p is

    through : is_through_pin d rows p ≡ true
    through = rw (passing.of_net, passing.row_is, is) (grind (arith, nat_tests))

    entering : (top : Bool) → EntersBy d rows net (channel_beside top row) top p
    entering top = record {
      listed = passing.listed;
      of_net = passing.of_net;
      touches = record { edge = passing.edges top; beside = ap (channel_beside top) (sym passing.row_is) };
      entry = subst (λ (r : ℕ). enters d rows p (channel_beside top r) ≡ true) passing.row_is (enter-beside d rows p top through).entry;
    }

-- a net crosses a row by a pin that enters on both sides, or by a feed
pub crossed-by : (d : Netlist) (rows : List (List Seat)) (net row : ℕ) → is_across (crossing_of d rows net) row ≡ true
    → ((p : Pin) × CrossesBy d rows net row p) ⊎ (is_fed d rows row net ≡ true)
crossed-by d rows net row across = by (through_pin d rows net row) refl
  where
    by : (o : Option Pin) → through_pin d rows net row ≡ o → ((p : Pin) × CrossesBy d rows net row p) ⊎ (is_fed d rows row net ≡ true)
    by (Some p) is = inl (p, crosses-by d rows net row p is)
    by None is = inr (grind arith)
