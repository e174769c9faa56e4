use Rattle.row_model.specs.declared.rows.Seat as seats
use Rattle.std.proofs.Common.{◌≡◌, inl, inr, refl, sym, ap, ◌∙◌, subst, ℕ, suc, ◌+◌, ◌-◌, ◌*◌, ◌<◌, ◌≤◌, List, [], ◌∷◌, ◌++◌, length, true, false, cond, Some, Contains, arith}
use Rattle.std.proofs.lemmas.Bool.{cases_lt}
use Rattle.std.proofs.lemmas.List.Elements.{Contains-append_cases, Contains-append_left, Contains-append_right}
use Rattle.std.specs.Prelude.{◌⊎◌, slice_get, slice_index}
use Rattle.geom_core.specs.declared.layout.Layout.{Layout}
use Rattle.tech_rules.specs.Rules.{RuleValues, ValidRules}
use Rattle.design_model.specs.Joined.{Draws, Touch}
use Rattle.design_model.specs.Netlist.{Netlist, IsNetlist}
use Rattle.design_model.specs.declared.design.Pin.{Pin}
use Rattle.design_model.specs.declared.design.Position.{Position}
use Rattle.channel_model.specs.declared.wiring.Wiring.{Wiring}
use Rattle.row_model.specs.Stands.{edge_column, positions_of, turned_column}
use Rattle.row_model.specs.Widths.{cell_height, columns_of}
use Rattle.feed_cells.specs.Crossings.{has_edge}
use Rattle.feed_cells.specs.Fed.{Fed, IsFed, cells_in, items_width}
use Rattle.feed_cells.specs.declared.fed.Item.{Item}
use Rattle.feed_cells.specs.declared.fed.Item.TheVariants.{Cell, Feed}
use Rattle.pin_assign.specs.Entering.{enters}
use Rattle.pin_assign.proofs.Sources.{IsPinOver, of_feed, of_pin}
use Rattle.pin_assign.specs.Tables.{table_of}
use Rattle.pin_assign.proofs.BesideLaws.{edge-own}
use Rattle.pin_assign.proofs.EdgeLaws.{turned-within}
use Rattle.layout_laws.proofs.Chains.{AreTogether, tied}
use Rattle.layout_laws.proofs.EntryTouches.{wires-touch}
use Rattle.layout_laws.proofs.Plans.{row_base, plan_drawn}
use Rattle.layout_laws.proofs.Seats.{ComesToLower, ComesToUpper, Upright}
use Rattle.layout_laws.proofs.Threads.{EntersBelow, EntersAbove}
use Rattle.layout_laws.proofs.Uprights.{IsWired}
use Rattle.wire_geom.specs.Drawing.{upright}
use Rattle.wire_geom.specs.Edges.{bottom_entry}
use Rattle.wire_geom.specs.Grid.{scaled}
use Rattle.wire_geom.specs.declared.drawn.Drawn.{Drawn}
use Rattle.wire_geom.proofs.ScaleLaws.{scaled-order}
use Rattle.channel_stack.specs.Risers.{IsRiser}
use Rattle.channel_stack.proofs.Planned.{feed_upright, height_at, item_wires, plan_of, risers_at, risers_in, row_at, row_drawn, upright_drawn, upright_of}
use Rattle.channel_stack.proofs.Shown.{DrawsSeats}
use Rattle.channel_stack.proofs.PlanEntries.{PinWire, lower-entry, pin-comes, pin-wire, upper-entry}
use Rattle.channel_stack.proofs.PlanSeats.{feed-only, position-within}
use Rattle.channel_stack.proofs.RowHeights.{cell-within}
use Rattle.channel_stack.proofs.RowItems.{among-split, row-is, row-there, wire-listed, wire-of}
use Rattle.channel_stack.proofs.RowRisers.{riser-listed, riser-of}
use Rattle.std_laws.proofs.Members.{map-cases, map-member, member-head, member-place}

-- what comes to the lower edge begins there, and what comes to the upper edge ends there
lower-edge : (base : ℕ) (u : Upright) → ComesToLower u → 2 * (base + u.low) ≡ 2 * base
lower-edge base u is = omega (arith, is)

upper-edge : (base height : ℕ) (u : Upright) → ComesToUpper height u → 2 * (base + u.high) ≡ 2 * (base + height)
upper-edge base height u is = omega (arith, is)

module _ (r : RuleValues) (d : Netlist) (fed : Fed) (ws : List Wiring) where
  -- the rectangle of an upright of an item of row k that stands behind these items
  abbrev pub wire_at : ℕ → List Item → Upright → Drawn
  wire_at k front upright = upright_drawn r (row_base r (plan_of r d fed ws) k) (items_width d front) upright

  -- these items stand around an item in row k
  abbrev pub IsAt : ℕ → List Item → Item → List Item → Type 0
  IsAt k front item back = slice_get fed.rows k ≡ Some (front ++ item ∷ back)

  -- a rectangle of a row is that of a position of a cell, or of a feed, or a riser
  pub data RowWire (k : ℕ) (a : Drawn) : Type 0 where
    of_seat : (front back : List Item) (s : seats.Seat) (q : Position) → IsAt k front (Cell s) back → Contains (positions_of d s.instance) q
        → a ≡ wire_at k front (upright_of r d s q) → RowWire k a
    of_gap : (front back : List Item) (net : ℕ) → IsAt k front (Feed net) back → a ≡ wire_at k front (feed_upright (height_at d fed k) net) → RowWire k a
    of_riser : IsRiser r d fed k (row_base r (plan_of r d fed ws) k) (height_at d fed k) a → RowWire k a

  pub row-wire : ValidRules r → IsFed d fed → length ws ≡ length fed.rows + 1 → (k : ℕ) (a : Drawn) → k < length fed.rows
      → Contains ((plan_of r d fed ws).row k) a → IsWired r a → RowWire k a
  row-wire valid from each k a within member wired =
      elim (Contains-append_cases (row_drawn r d (row_base r (plan_of r d fed ws) k) (height_at d fed k) 0 (row_at fed k)) (risers_at (risers_in r d fed ws) k) a member) [
        | inl own ↦
            let w = wire-of r d (height_at d fed k) (row_base r (plan_of r d fed ws) k) valid (row_at fed k) 0 a own wired in
            let begins : w.from ≡ items_width d w.front = omega (arith, w.begins) in
            by w.item w.front w.back w.wire (row-there fed k within ∙ ap (λ (items : List Item). Some items) w.is) w.member
            (w.drawn ∙ ap (λ (n : ℕ). upright_drawn r (row_base r (plan_of r d fed ws) k) n w.wire) begins)
        | inr rises ↦ of_riser (riser-of r d fed from ws each k within a rises)
      ]
    where
      by : (item : Item) (front back : List Item) (upright : Upright) → IsAt k front item back → Contains (item_wires r d (height_at d fed k) item) upright → a ≡ wire_at k front upright → RowWire k a
      by (Cell s) front back upright at there drawn =
          let found = map-cases (upright_of r d s) (positions_of d s.instance) upright there in
          of_seat front back s found.0 at found.1 (drawn ∙ ap (wire_at k front) (sym found.2))
      by (Feed net) front back upright at there drawn = of_gap front back net at (drawn ∙ ap (wire_at k front) (sym (feed-only (height_at d fed k) net upright there)))

  -- each wire of an item has its rectangle in the row
  pub wire-in : (k : ℕ) (front back : List Item) (item : Item) (upright : Upright) → IsAt k front item back → Contains (item_wires r d (height_at d fed k) item) upright
      → Contains ((plan_of r d fed ws).row k) (wire_at k front upright)
  wire-in k front back item upright at member =
      Contains-append_left (row_drawn r d (row_base r (plan_of r d fed ws) k) (height_at d fed k) 0 (row_at fed k)) (risers_at (risers_in r d fed ws) k) (wire_at k front upright)
      (subst (λ (items : List Item). Contains (row_drawn r d (row_base r (plan_of r d fed ws) k) (height_at d fed k) 0 items) (wire_at k front upright))
      (sym (row-is fed k (front ++ item ∷ back) at))
      (wire-listed r d (height_at d fed k) (row_base r (plan_of r d fed ws) k) front item back 0 (items_width d front) upright member (omega arith)))

  -- the rectangles of two positions of one terminal of a seated cell draw one terminal
  pub drawn-together : (l : Layout) → DrawsSeats r d fed ws l → (k : ℕ) (front back : List Item) (s : seats.Seat) → k < length fed.rows → IsAt k front (Cell s) back
      → (p q : Position) → Contains (positions_of d s.instance) p → Contains (positions_of d s.instance) q → p.terminal ≡ q.terminal
      → AreTogether d l (plan_drawn r (plan_of r d fed ws)) (wire_at k front (upright_of r d s p)) (wire_at k front (upright_of r d s q))
  drawn-together l draws k front back s within at p q in_p in_q same =
      let seat = draws.seat k front s back within at in
      let place_p = member-place (positions_of d s.instance) p in_p in
      let place_q = member-place (positions_of d s.instance) q in_q in
      let first = seat.positions place_p.0 p place_p.1 in
      let second = seat.positions place_q.0 q place_q.1 in
      tied (record {
        cell = seat.cell;
        instance = s.instance;
        terminal = p.terminal;
        from = first.shape;
        to = second.shape;
        first = first.draws;
        second = subst (λ (t : ℕ). Draws d l seat.cell s.instance t second.shape) (sym same) second.draws;
        at_from = first.at;
        at_to = second.at;
      })

  module _ (good : IsNetlist d) (k : ℕ) (front back : List Item) where
    -- the rectangle of a pin's position on an edge enters the channel there, where the pin does
    pub record Reaches (Enters : Drawn → Type 0) (s : seats.Seat) (p : Pin) : Type 0 where
      pub position : Position
      pub listed : Contains (positions_of d s.instance) position
      pub terminal : position.terminal ≡ p.terminal
      pub of_net : (upright_of r d s position).net ≡ p.net
      pub enters : Enters (wire_at k front (upright_of r d s position))

    pub reach-below : (s : seats.Seat) (p : Pin) → IsAt k front (Cell s) back → Contains d.pins p → 0 < p.net → p.instance ≡ s.instance → has_edge d false p ≡ true
        → enters d (cells_in fed.rows) p k ≡ true → Reaches (EntersBelow r (plan_of r d fed ws) k) s p
    reach-below s p at listed some instance has entry =
        let own = edge-own d false p has in
        let column : ℕ = items_width d front + turned_column s.mirror (columns_of d s.instance) own.0 in
        let w = pin-wire d good false p s (items_width d front) column (record { listed = listed; instance = instance; own = own.0; edge = own.1; place = refl }) in
        let here : ℕ = items_width d front + turned_column s.mirror (columns_of d s.instance) w.position.column in
        let net = lower-entry d good fed k front (Cell s) back at (of_pin p) column
        (record { listed = listed; instance = instance; own = own.0; edge = own.1; place = refl }) entry in
        record {
          position = w.position;
          listed = w.listed;
          terminal = w.terminal;
          of_net = w.of_net;
          enters = record {
            column = here;
            listed = wire-in k front back (Cell s) (upright_of r d s w.position) at (map-member (upright_of r d s) (positions_of d s.instance) w.position w.listed);
            stands = record { on_layer = refl; left = refl; right = refl };
            at_edge = ap (scaled r) (lower-edge (row_base r (plan_of r d fed ws) k) (upright_of r d s w.position) (pin-comes r d s false w.position w.side));
            has_entry = (
              subst (λ (n : ℕ). 0 < n) (sym w.of_net) some,
              ap (λ (c : ℕ). slice_index (table_of d fed k).top c) (sym w.at) ∙ net ∙ sym w.of_net,
            );
          };
        }

    -- to the row's upper edge leads the rectangle of a pin's position there, or a riser of the pin's net that touches it
    pub record RisesTo (s : seats.Seat) (p : Pin) : Type 0 where
      pub position : Position
      pub listed : Contains (positions_of d s.instance) position
      pub terminal : position.terminal ≡ p.terminal
      pub of_net : (upright_of r d s position).net ≡ p.net
      pub by : Drawn
      pub by_net : by.net ≡ p.net
      pub leads : (by ≡ wire_at k front (upright_of r d s position)) ⊎ Touch r (wire_at k front (upright_of r d s position)).shape by.shape
      pub enters : EntersAbove r (plan_of r d fed ws) k by

    pub reach-above : IsFed d fed → length ws ≡ length fed.rows + 1 → k < length fed.rows
        → (s : seats.Seat) (p : Pin) → IsAt k front (Cell s) back → Contains d.pins p → 0 < p.net → p.instance ≡ s.instance → has_edge d true p ≡ true
        → enters d (cells_in fed.rows) p (suc k) ≡ true → RisesTo s p
    reach-above from each within s p at listed some instance has entry =
        elim (cases_lt (cell_height d s.instance) (height_at d fed k)) [ inl lower ↦ by_riser lower | inr full ↦ by_pin (omega (arith, full, high)) ]
      where
        own : (own : ℕ) × (edge_column d true p ≡ Some own)
        own = edge-own d true p has

        column : ℕ
        column = items_width d front + turned_column s.mirror (columns_of d s.instance) own.0

        over : IsPinOver d true p s (items_width d front) column
        over = record { listed = listed; instance = instance; own = own.0; edge = own.1; place = refl }

        pin : PinWire d true p s (items_width d front) column
        pin = pin-wire d good true p s (items_width d front) column over

        -- the pin's net enters the channel above in the position's column
        here : ℕ
        here = items_width d front + turned_column s.mirror (columns_of d s.instance) pin.position.column

        there : bottom_entry (table_of d fed (suc k)) here p.net
        there = (
          some,
          ap (λ (c : ℕ). slice_index (table_of d fed (suc k)).bottom c) (sym pin.at) ∙ upper-entry d good fed k front (Cell s) back at (of_pin p) column over entry,
        )

        high : cell_height d s.instance ≤ height_at d fed k
        high =
            cell-within d (row_at fed k) s
            (subst (λ (items : List Item). Contains items (Cell s)) (sym (row-is fed k (front ++ Cell s ∷ back) at)) (among-split front back (Cell s)))

        floor : ℕ
        floor = row_base r (plan_of r d fed ws) k

        wire : Drawn
        wire = wire_at k front (upright_of r d s pin.position)

        by_pin : cell_height d s.instance ≡ height_at d fed k → RisesTo s p
        by_pin full = record {
          position = pin.position;
          listed = pin.listed;
          terminal = pin.terminal;
          of_net = pin.of_net;
          by = wire;
          by_net = pin.of_net;
          leads = inl refl;
          enters = record {
            column = here;
            listed = wire-in k front back (Cell s) (upright_of r d s pin.position) at (map-member (upright_of r d s) (positions_of d s.instance) pin.position pin.listed);
            stands = record { on_layer = refl; left = refl; right = refl };
            at_edge = ap (scaled r) (upper-edge floor (height_at d fed k) (upright_of r d s pin.position) (pin-comes r d s true pin.position pin.side ∙ full));
            has_entry = subst (bottom_entry (table_of d fed (suc k)) here) (sym pin.of_net) there;
          };
        }

        -- the riser of a cell that is lower than its row
        rise : Drawn
        rise = upright r (floor + (cell_height d s.instance - r.grid.pin)) (floor + height_at d fed k) here p.net

        rises : cell_height d s.instance < height_at d fed k → IsRiser r d fed k floor (height_at d fed k) rise
        rises lower =
            let inside = turned-within s.mirror (columns_of d s.instance) pin.position.column (position-within d good s.instance pin.position pin.listed) in
            record {
              front = front;
              seat = s;
              back = back;
              at = at;
              lower = lower;
              column = here;
              from = omega arith;
              to = omega (arith, inside);
              entry = there;
              is = refl;
            }

        touching : cell_height d s.instance < height_at d fed k → Touch r wire.shape rise.shape
        touching lower =
            let begins : (upright_of r d s pin.position).low ≡ cell_height d s.instance - r.grid.pin =
            ap (λ b. cond b (cell_height d s.instance - r.grid.pin) 0) pin.side in
            let ends = pin-comes r d s true pin.position pin.side in
            wires-touch r here wire rise (record { on_layer = refl; left = refl; right = refl }) (record { on_layer = refl; left = refl; right = refl })
            (scaled-order r (2 * (floor + (upright_of r d s pin.position).low)) (2 * (floor + height_at d fed k)) (omega (arith, begins, lower)))
            (scaled-order r (2 * (floor + (cell_height d s.instance - r.grid.pin))) (2 * (floor + (upright_of r d s pin.position).high)) (omega (arith, ends)))

        by_riser : cell_height d s.instance < height_at d fed k → RisesTo s p
        by_riser lower = record {
          position = pin.position;
          listed = pin.listed;
          terminal = pin.terminal;
          of_net = pin.of_net;
          by = rise;
          by_net = refl;
          leads = inr (touching lower);
          enters = record {
            column = here;
            listed = Contains-append_right (row_drawn r d floor (height_at d fed k) 0 (row_at fed k)) (risers_at (risers_in r d fed ws) k) rise
                (riser-listed r d fed from ws each k within rise (rises lower));
            stands = record { on_layer = refl; left = refl; right = refl };
            at_edge = refl;
            has_entry = there;
          };
        }

    -- the rectangle of a feed enters the channels on both sides of its row
    feed-column : items_width d front + 0 ≡ items_width d front
    feed-column = omega arith

    pub feed-below : (net : ℕ) → IsAt k front (Feed net) back → 0 < net → EntersBelow r (plan_of r d fed ws) k (wire_at k front (feed_upright (height_at d fed k) net))
    feed-below net at some = record {
      column = items_width d front + 0;
      listed = wire-in k front back (Feed net) (feed_upright (height_at d fed k) net) at (member-head (feed_upright (height_at d fed k) net) []);
      stands = record { on_layer = refl; left = refl; right = refl };
      at_edge = ap (scaled r) (lower-edge (row_base r (plan_of r d fed ws) k) (feed_upright (height_at d fed k) net) refl);
      has_entry = (some, lower-entry d good fed k front (Feed net) back at (of_feed net) (items_width d front + 0) (refl, sym feed-column) tt);
    }

    pub feed-above : (net : ℕ) → IsAt k front (Feed net) back → 0 < net → EntersAbove r (plan_of r d fed ws) k (wire_at k front (feed_upright (height_at d fed k) net))
    feed-above net at some = record {
      column = items_width d front + 0;
      listed = wire-in k front back (Feed net) (feed_upright (height_at d fed k) net) at (member-head (feed_upright (height_at d fed k) net) []);
      stands = record { on_layer = refl; left = refl; right = refl };
      at_edge = refl;
      has_entry = (some, upper-entry d good fed k front (Feed net) back at (of_feed net) (items_width d front + 0) (refl, sym feed-column) tt);
    }
