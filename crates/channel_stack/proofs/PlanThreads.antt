use Rattle.std.proofs.Common.{◌≡◌, ◌≢◌, ◌⊎◌, inl, inr, refl, sym, ap, ◌∙◌, subst, ℕ, suc, ◌+◌, ◌<◌, ◌≤◌, max, List, [], ◌∷◌, ◌++◌, length, get_or, true, false, Some, Contains, arith}
use Rattle.std.proofs.lemmas.List.Elements.{All-contains, Contains-append_right}
use Rattle.std.proofs.lemmas.Option.{slice_get-get_or}
use Rattle.std.specs.Option.{option_map}
use Rattle.std.specs.Prelude.{slice_get}
use Rattle.pin_assign.proofs.Causes.{CrossesBy}
use Rattle.geom_core.specs.declared.layout.Layout.{Layout}
use Rattle.tech_rules.specs.Rules.{RuleValues, ValidRules}
use Rattle.design_model.specs.Netlist.{Netlist, IsNetlist}
use Rattle.design_model.specs.declared.design.Pin.{Pin}
use Rattle.design_model.specs.declared.design.Position.{Position}
use Rattle.channel_model.specs.declared.wiring.Wiring.{Wiring}
use Rattle.row_model.specs.Rows.{ArePlaced}
use Rattle.row_model.specs.Stands.{positions_of, row_of}
use Rattle.row_model.specs.declared.rows.Seat as seats
use Rattle.feed_cells.specs.Channels.{first_channel}
use Rattle.feed_cells.proofs.ChannelSpans.{last_channel}
use Rattle.feed_cells.specs.Crossings.{crossing_of, is_across, lowest}
use Rattle.feed_cells.specs.Fed.{Fed, IsFed, cells_in, fed_row, fed_rows}
use Rattle.feed_cells.specs.Feeds.{is_fed}
use Rattle.feed_cells.proofs.Touching.{Touches}
use Rattle.feed_cells.specs.declared.crossing.Crossing.{Crossing}
use Rattle.feed_cells.specs.declared.crossing.Crossing.TheVariants.{Alone, One, Many}
use Rattle.feed_cells.specs.declared.fed.Item.{Item}
use Rattle.feed_cells.specs.declared.fed.Item.TheVariants.{Cell, Feed}
use Rattle.feed_cells.proofs.CrossingLaws.{channels-ordered, channels-within, fed-across, from-across, in-range}
use Rattle.feed_cells.proofs.FedLaws.{cells-fed, fed-long, fed-row}
use Rattle.feed_cells.proofs.RowFeedLaws.{fed-from}
use Rattle.feed_cells.proofs.NetLaws.{across-stands, across-within, alone-same, fed-net, fed-stands, inside-stands}
use Rattle.pin_assign.specs.Entering.{enters}
use Rattle.pin_assign.specs.Tables.{table_of}
use Rattle.pin_assign.proofs.EnteringLaws.{crossed-by, enters-lowest}
use Rattle.layout_laws.proofs.Chains.{AreChained, AreTogether, itself}
use Rattle.layout_laws.proofs.ChainLaws.{AreChained-trans, AreTogether-chained, touch-chained}
use Rattle.layout_laws.proofs.PlanPlaces.{row_among}
use Rattle.layout_laws.proofs.Plans.{Plan, plan_drawn, row_base}
use Rattle.layout_laws.proofs.Threads.{AreThreaded, IsCrossed, Entering, EntersAbove, EntersBelow, into_above, into_below, IsLone, Threads}
use Rattle.wire_geom.specs.Edges.{StandsIn, bottom_entry}
use Rattle.wire_geom.specs.declared.drawn.Drawn.{Drawn}
use Rattle.channel_stack.specs.Risers.{IsRiser}
use Rattle.channel_stack.proofs.Planned.{feed_upright, height_at, net_at, plan_of, risers_at, risers_in, row_at, row_drawn, upright_of}
use Rattle.channel_stack.proofs.Shown.{DrawsSeats}
use Rattle.channel_stack.proofs.PlanEntries.{net-is}
use Rattle.channel_stack.proofs.PositionPins.{position-pin}
use Rattle.channel_stack.proofs.RowItems.{at-split, split-at}
use Rattle.channel_stack.proofs.RowPins.{entry-inside, gap-feed, pin-seat}
use Rattle.channel_stack.proofs.RowWires.{IsAt, RisesTo, RowWire, drawn-together, feed-above, feed-below, of_gap, of_riser, of_seat, reach-above, reach-below, row-wire, wire_at}
use Rattle.channel_stack.proofs.RowRisers.{riser-listed}
use Rattle.channel_stack.proofs.SeatOnce.{seat-row, seat-same}

-- a position of a cell is of a pin, whose net its wire has
record PositionNet (d : Netlist) (instance : ℕ) (q : Position) : Type 0 where
  pin : Pin
  listed : Contains d.pins pin
  instance_is : pin.instance ≡ instance
  terminal_is : pin.terminal ≡ q.terminal
  net_is : net_at d instance q.terminal ≡ pin.net
  some : 0 < pin.net

position-net : (d : Netlist) → IsNetlist d → (instance : ℕ) (q : Position) → Contains (positions_of d instance) q → PositionNet d instance q
position-net d good instance q member =
    let p = position-pin d good instance q member in
    record {
      pin = p.pin;
      listed = p.listed;
      instance_is = p.instance_is;
      terminal_is = p.terminal_is;
      net_is = ap (λ (i : ℕ). net_at d i q.terminal) (sym p.instance_is) ∙ ap (λ (t : ℕ). net_at d p.pin.instance t) (sym p.terminal_is) ∙ net-is d good p.pin p.listed;
      some = (All-contains (λ (x : Pin). (0 < x.net) × (x.net ≤ length d.nets)) d.pins p.pin good.nets p.listed).0;
    }

module _ (r : RuleValues) (d : Netlist) (good : IsNetlist d) (rows : List (List seats.Seat)) (placed : ArePlaced d rows) (ws : List Wiring)
    (each : length ws ≡ length (fed_rows d rows).rows + 1) (l : Layout) (draws : DrawsSeats r d (fed_rows d rows) ws l) where
  abbrev fed : Fed
  fed = fed_rows d rows

  abbrev plan : Plan
  plan = plan_of r d (fed_rows d rows) ws

  abbrev Wire : ℕ → Drawn → Type 0
  Wire k a = RowWire r d (fed_rows d rows) ws k a

  abbrev rectangle : ℕ → List Item → seats.Seat → Position → Drawn
  rectangle k front s q = wire_at r d (fed_rows d rows) ws k front (upright_of r d s q)

  -- what enters by the rows enters by the rows with feeds
  fed-enters : (p : Pin) (channel : ℕ) → enters d rows p channel ≡ true → enters d (cells_in (fed_rows d rows).rows) p channel ≡ true
  fed-enters p channel entry = subst (λ (rs : List (List seats.Seat)). enters d rs p channel ≡ true) (sym (cells-fed d rows)) entry

  -- the rows with feeds are those of these rows
  from : IsFed d (fed_rows d rows)
  from = fed-from d rows (fed_rows d rows) placed refl

  -- a chain leads from a pin's rectangle to what leads from it to the row's upper edge
  risen : (k : ℕ) (front back : List Item) (s : seats.Seat) (p : Pin) → k < length (fed_rows d rows).rows → (up : RisesTo r d (fed_rows d rows) ws good k front back s p)
      → AreChained r d l (plan_drawn r plan) up.by (rectangle k front s up.position)
  risen k front back s p within up =
      elim up.leads [
        | inl same ↦ subst (λ (x : Drawn). AreChained r d l (plan_drawn r plan) x (rectangle k front s up.position)) (sym same) itself
        | inr touch ↦ touch-chained (row_among r plan (length (fed_rows d rows).rows) k within up.by up.enters.listed) touch
      ]

  -- the nets of a row's rectangles are numbers of nets
  wire-positive : (k : ℕ) (a : Drawn) → Wire k a → 0 < a.net
  wire-positive k a (of_seat front back s q at member drawn) =
      let of_q = position-net d good s.instance q member in
      subst (λ (n : ℕ). 0 < n) (sym (ap (λ (x : Drawn). x.net) drawn ∙ of_q.net_is)) of_q.some
  wire-positive k a (of_gap front back net at drawn) =
      let feed = gap-feed d good rows k net front back at in
      subst (λ (n : ℕ). 0 < n) (sym (ap (λ (x : Drawn). x.net) drawn)) (omega (arith, feed.some))
  wire-positive k a (of_riser it) = it.entry.0

  -- a rectangle of a cell, by a pin that enters a channel beside the row
  seat-entering : (k : ℕ) (a : Drawn) (front back : List Item) (s : seats.Seat) (q : Position) → k < length (fed_rows d rows).rows
      → IsAt r d (fed_rows d rows) ws k front (Cell s) back → Contains (positions_of d s.instance) q → a ≡ rectangle k front s q
      → (p : Pin) → Contains d.pins p → p.instance ≡ s.instance → p.terminal ≡ q.terminal → a.net ≡ p.net → 0 < p.net
      → (channel : ℕ) → enters d rows p channel ≡ true → Touches d rows false p channel ⊎ Touches d rows true p channel → Entering r plan d l k a
  seat-entering k a front back s q within at member drawn p listed instance terminal net some channel entry touched = by touched
    where
      row : row_of d rows p.instance ≡ k
      row = ap (row_of d rows) instance ∙ seat-row d rows placed k front back s at

      to : (b : Position) → Contains (positions_of d s.instance) b → b.terminal ≡ p.terminal → AreChained r d l (plan_drawn r plan) (rectangle k front s b) a
      to b in_b same_b =
          subst (λ (x : Drawn). AreChained r d l (plan_drawn r plan) (rectangle k front s b) x) (sym drawn)
          (AreTogether-chained (drawn-together r d fed ws l draws k front back s within at q b member in_b (sym terminal ∙ sym same_b)))

      by : Touches d rows false p channel ⊎ Touches d rows true p channel → Entering r plan d l k a
      by (inl low) =
          let there : channel ≡ k = low.beside ∙ row in
          let reach = reach-below r d fed ws good k front back s p at listed some instance low.edge
          (fed-enters p k (subst (λ (c : ℕ). enters d rows p c ≡ true) there entry)) in
          into_below (rectangle k front s reach.position) (to reach.position reach.listed reach.terminal) (reach.of_net ∙ sym net) reach.enters
      by (inr high) =
          let beside = high.beside in
          let there : channel ≡ suc k = omega (arith, beside, row) in
          let reach = reach-above r d fed ws good k front back from each within s p at listed some instance high.edge
          (fed-enters p (suc k) (subst (λ (c : ℕ). enters d rows p c ≡ true) there entry)) in
          into_above reach.by (AreChained-trans (to reach.position reach.listed reach.terminal) (risen k front back s p within reach)) (reach.by_net ∙ sym net) reach.enters

  -- a riser enters the channel above
  riser-enters : (k : ℕ) (a : Drawn) → k < length (fed_rows d rows).rows → IsRiser r d (fed_rows d rows) k (row_base r plan k) (height_at d (fed_rows d rows) k) a → EntersAbove r plan k a
  riser-enters k a within it = record {
    column = it.column;
    listed = Contains-append_right (row_drawn r d (row_base r plan k) (height_at d fed k) 0 (row_at fed k)) (risers_at (risers_in r d fed ws) k) a
        (riser-listed r d fed from ws each k within a it);
    stands = subst (StandsIn r it.column) (sym it.is) (record { on_layer = refl; left = refl; right = refl });
    at_edge = ap (λ (x : Drawn). x.shape.rect.y1) it.is;
    has_entry = it.entry;
  }

  -- each rectangle of a net that stands in channels enters one of them
  wire-entering : (net k : ℕ) (a : Drawn) → k < length (fed_rows d rows).rows → Wire k a → a.net ≡ net → crossing_of d rows net ≢ Alone → Entering r plan d l k a
  wire-entering net k a within (of_seat front back s q at member drawn) a_net stands =
      let of_q = position-net d good s.instance q member in
      let its_net : a.net ≡ of_q.pin.net = ap (λ (x : Drawn). x.net) drawn ∙ of_q.net_is in
      let e = enters-lowest d rows good of_q.pin of_q.listed (λ alone. stands (ap (crossing_of d rows) (sym a_net ∙ its_net) ∙ alone)) in
      seat-entering k a front back s q within at member drawn of_q.pin of_q.listed of_q.instance_is of_q.terminal_is its_net of_q.some
      (max (lowest d rows of_q.pin) (first_channel (crossing_of d rows of_q.pin.net))) e.entry e.touched
  wire-entering net k a within (of_gap front back own at drawn) a_net stands =
      let feed = gap-feed d good rows k own front back at in
      into_below a itself refl
      (subst (λ (x : Drawn). EntersBelow r plan k x) (sym drawn) (feed-below r d fed ws good k front back own at (omega (arith, feed.some))))
  wire-entering net k a within (of_riser it) a_net stands = into_above a itself refl (riser-enters k a within it)

  -- a net crosses a row by a pin
  crossed-pin : (net k : ℕ) → k < length (fed_rows d rows).rows → (p : Pin) → CrossesBy d rows net k p → IsCrossed r plan d l k net
  crossed-pin net k within p leads =
      let under = leads.under in
      let over = leads.over in
      let seat = pin-seat d good rows placed p under.listed in
      by seat.front seat.back seat.seat
      (subst (λ (n : ℕ). IsAt r d fed ws n seat.front (Cell seat.seat) seat.back) (sym under.touches.beside) seat.at) seat.instance
    where
      some : 0 < p.net
      some = (All-contains (λ (x : Pin). (0 < x.net) × (x.net ≤ length d.nets)) d.pins p good.nets leads.under.listed).0

      upper : k + 1 ≡ suc k
      upper = omega arith

      by : (front back : List Item) (s : seats.Seat) → IsAt r d (fed_rows d rows) ws k front (Cell s) back → p.instance ≡ s.instance → IsCrossed r plan d l k net
      by front back s at instance =
          let low = reach-below r d fed ws good k front back s p at leads.under.listed some instance leads.under.touches.edge (fed-enters p k leads.under.entry) in
          let high = reach-above r d fed ws good k front back from each within s p at leads.under.listed some instance leads.over.touches.edge
          (fed-enters p (suc k) (subst (λ (c : ℕ). enters d rows p c ≡ true) upper leads.over.entry)) in
          record {
            low = rectangle k front s low.position;
            high = high.by;
            chained =
                AreChained-trans (AreTogether-chained (drawn-together r d fed ws l draws k front back s within at low.position high.position low.listed high.listed
                (low.terminal ∙ sym high.terminal))) (risen k front back s p within high);
            below = low.enters;
            above = high.enters;
            low_net = low.of_net ∙ leads.under.of_net;
            high_net = high.by_net ∙ leads.under.of_net;
          }

  -- or by a feed
  crossed-feed : (net k : ℕ) → k < length (fed_rows d rows).rows → is_fed d rows k net ≡ true → IsCrossed r plan d l k net
  crossed-feed net k within is =
      let feed = fed-net d rows good k net is in
      let row : List seats.Seat = get_or rows k [] in
      let at : slice_get rows k ≡ Some row = slice_get-get_or rows k [] (omega (arith, within, fed-long d rows)) in
      let split = split-at (fed_row d rows k row) (Feed net) (fed-stands d rows good k net row is) in
      let there : slice_get fed.rows k ≡ Some (split.front ++ Feed net ∷ split.back) =
      at-split fed k (fed_row d rows k row) (Feed net) (fed-row d rows k ∙ ap (option_map (fed_row d rows k)) at) split in
      record {
        low = wire_at r d fed ws k split.front (feed_upright (height_at d fed k) net);
        high = wire_at r d fed ws k split.front (feed_upright (height_at d fed k) net);
        chained = itself;
        below = feed-below r d fed ws good k split.front split.back net there (omega (arith, feed.some));
        above = feed-above r d fed ws good k split.front split.back net there (omega (arith, feed.some));
        low_net = refl;
        high_net = refl;
      }

  crossed-row : (net k : ℕ) → is_across (crossing_of d rows net) k ≡ true → IsCrossed r plan d l k net
  crossed-row net k across =
      let within : k < length fed.rows = omega (arith, across-within d rows good placed net k across, fed-long d rows) in
      elim (crossed-by d rows net k across) [
        | inl pin ↦ crossed-pin net k within pin.0 pin.1
        | inr feed ↦ crossed-feed net k within feed
      ]

  module _ (valid : ValidRules r) where
    -- a net that stands in channels threads them
    net-threads : (net : ℕ) → crossing_of d rows net ≢ Alone
        → Threads r plan d l net (first_channel (crossing_of d rows net)) (last_channel (crossing_of d rows net))
    net-threads net stands = record {
      last = omega (arith, channels-within d rows good placed net, fed-long d rows);
      ordered = channels-ordered d rows net;
      entries = λ k column within entry. in-range (crossing_of d rows net) k (entry-inside d good rows k column net entry);
      crossed = λ k above below. crossed-row net k (from-across (crossing_of d rows net) k above below);
      entering = λ k a within member wired of_net. wire-entering net k a within (row-wire r d fed ws valid from each k a within member wired) of_net stands;
    }

    -- the rectangles of a net that stands in no channel are of one terminal
    feed-stray : (net k : ℕ) (a : Drawn) (front back : List Item) (own : ℕ) → crossing_of d rows net ≡ Alone → IsAt r d (fed_rows d rows) ws k front (Feed own) back
        → a ≡ wire_at r d (fed_rows d rows) ws k front (feed_upright (height_at d (fed_rows d rows) k) own) → a.net ≡ net → ⊥
    feed-stray net k a front back own alone at drawn of_net =
        let feed = gap-feed d good rows k own front back at in
        let same_net : own ≡ net = ap (λ (x : Drawn). x.net) (sym drawn) ∙ of_net in
        across-stands (crossing_of d rows own) k (fed-across d rows k own feed.fed) (ap (crossing_of d rows) same_net ∙ alone)

    -- nor has such a net a riser
    riser-stray : (net k : ℕ) (a : Drawn) → crossing_of d rows net ≡ Alone → IsRiser r d (fed_rows d rows) k (row_base r plan k) (height_at d (fed_rows d rows) k) a → a.net ≡ net → ⊥
    riser-stray net k a alone it of_net =
        inside-stands (crossing_of d rows net) (suc k)
        (entry-inside d good rows (suc k) it.column net (inr (subst (bottom_entry (table_of d fed (suc k)) it.column) of_net it.entry))) alone

    lone-together : (net j k : ℕ) (a b : Drawn) → crossing_of d rows net ≡ Alone → j < length (fed_rows d rows).rows → Wire j a → Wire k b → a.net ≡ net → b.net ≡ net
        → AreTogether d l (plan_drawn r plan) a b
    lone-together net j k a b alone within (of_gap front back own at drawn) other net_a net_b = absurd (feed-stray net j a front back own alone at drawn net_a)
    lone-together net j k a b alone within (of_riser it) other net_a net_b = absurd (riser-stray net j a alone it net_a)
    lone-together net j k a b alone within (of_seat front back s q at member drawn) (of_riser it) net_a net_b = absurd (riser-stray net k b alone it net_b)
    lone-together net j k a b alone within (of_seat front back s q at member drawn) (of_gap front_b back_b own at_b drawn_b) net_a net_b =
        absurd (feed-stray net k b front_b back_b own alone at_b drawn_b net_b)
    lone-together net j k a b alone within (of_seat front back s q at member drawn) (of_seat front_b back_b t u at_b member_b drawn_b) net_a net_b =
        let of_q = position-net d good s.instance q member in
        let of_u = position-net d good t.instance u member_b in
        let one : of_q.pin ≡ of_u.pin =
        alone-same d rows net alone of_q.pin of_u.pin of_q.listed (sym of_q.net_is ∙ ap (λ (x : Drawn). x.net) (sym drawn) ∙ net_a)
        of_u.listed (sym of_u.net_is ∙ ap (λ (x : Drawn). x.net) (sym drawn_b) ∙ net_b) in
        let instance : s.instance ≡ t.instance = sym of_q.instance_is ∙ ap (λ (x : Pin). x.instance) one ∙ of_u.instance_is in
        let terminal : q.terminal ≡ u.terminal = sym of_q.terminal_is ∙ ap (λ (x : Pin). x.terminal) one ∙ of_u.terminal_is in
        let row : k ≡ j = sym (seat-row d rows placed k front_b back_b t at_b) ∙ ap (row_of d rows) (sym instance) ∙ seat-row d rows placed j front back s at in
        let at_j : IsAt r d fed ws j front_b (Cell t) back_b = subst (λ (n : ℕ). IsAt r d fed ws n front_b (Cell t) back_b) row at_b in
        let place = seat-same d rows placed j front front_b s t back back_b at at_j instance in
        let second : b ≡ rectangle j front s u =
        drawn_b ∙ ap (λ (n : ℕ). rectangle n front_b t u) row ∙ ap (λ (f : List Item). rectangle j f t u) (sym place.fronts)
        ∙ ap (λ (x : seats.Seat). rectangle j front x u) (sym place.seats) in
        subst (λ (x : Drawn). AreTogether d l (plan_drawn r plan) x b) (sym drawn)
        (subst (λ (x : Drawn). AreTogether d l (plan_drawn r plan) (rectangle j front s q) x) (sym second)
        (drawn-together r d fed ws l draws j front back s within at q u member
        (subst (λ (i : ℕ). Contains (positions_of d i) u) (sym instance) member_b) terminal))

    net-lone : (net : ℕ) → crossing_of d rows net ≡ Alone → IsLone r plan d l net
    net-lone net alone = record {
      none = λ k column within entry. inside-stands (crossing_of d rows net) k (entry-inside d good rows k column net entry) alone;
      chained = λ j k a b within_j within_k in_a in_b wired_a wired_b net_a net_b.
          AreTogether-chained
          (lone-together net j k a b alone within_j (row-wire r d fed ws valid from each j a within_j in_a wired_a) (row-wire r d fed ws valid from each k b within_k in_b wired_b) net_a net_b);
    }

    -- the nets of a wired design thread its rows and channels
    threaded : AreThreaded r plan d l
    threaded = record {
      nets = λ net some. by net (crossing_of d rows net) refl;
      positive = λ k a within member wired. wire-positive k a (row-wire r d fed ws valid from each k a within member wired);
    }
      where
        by : (net : ℕ) (c : Crossing) → crossing_of d rows net ≡ c → IsLone r plan d l net ⊎ ((low : ℕ) × (high : ℕ) × Threads r plan d l net low high)
        by net Alone is = inl (net-lone net is)
        by net (One b) is = inr (first_channel (crossing_of d rows net), last_channel (crossing_of d rows net), net-threads net (λ (e : crossing_of d rows net ≡ Alone). cc))
        by net (Many lo hi) is = inr (first_channel (crossing_of d rows net), last_channel (crossing_of d rows net), net-threads net (λ (e : crossing_of d rows net ≡ Alone). cc))

-- the nets of a wired design thread its rows and channels, where the positions of its seats are drawn in the layout where they stand in the plan
pub stack-threaded : (r : RuleValues) → ValidRules r → (d : Netlist) → IsNetlist d → (rows : List (List seats.Seat)) → ArePlaced d rows → (ws : List Wiring)
    → length ws ≡ length (fed_rows d rows).rows + 1 → (l : Layout) → DrawsSeats r d (fed_rows d rows) ws l → AreThreaded r (plan_of r d (fed_rows d rows) ws) d l
stack-threaded r valid d good rows placed ws each l draws = threaded r d good rows placed ws each l draws valid
