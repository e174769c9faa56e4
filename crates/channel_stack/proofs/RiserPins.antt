use Rattle.row_model.specs.declared.rows.Seat as seats
use Rattle.std.proofs.Common.{◌≡◌, refl, sym, ap, ◌∙◌, subst, ℕ, suc, ◌+◌, ◌-◌, ◌<◌, ◌≤◌, List, [], ◌∷◌, ◌++◌, map, true, cond, Option, Some, Contains, arith}
use Rattle.tech_rules.specs.Rules.{RuleValues, ValidRules}
use Rattle.design_model.specs.Netlist.{Netlist, IsNetlist}
use Rattle.design_model.specs.Room.{least_height}
use Rattle.design_model.specs.declared.design.Position.{Position}
use Rattle.row_model.specs.Stands.{is_on, positions_of, turned_column}
use Rattle.row_model.specs.Widths.{cell_height, columns_of}
use Rattle.feed_cells.specs.Fed.{Fed, cells_in, item_width, items_width}
use Rattle.feed_cells.specs.declared.fed.Item.{Item}
use Rattle.feed_cells.specs.declared.fed.Item.TheVariants.{Cell}
use Rattle.feed_cells.proofs.FedWidths.{width-cons}
use Rattle.pin_assign.proofs.CauseLaws.{over-within}
use Rattle.pin_assign.proofs.EntryForms.{EntryIn}
use Rattle.pin_assign.proofs.Sources.{IsOver, Source, of_feed, of_pin, source_net}
use Rattle.pin_assign.proofs.TableLaws.{bottom-cause}
use Rattle.layout_laws.proofs.Seats.{Upright, UprightAt}
use Rattle.layout_laws.proofs.Uprights.{DrawsUpright}
use Rattle.wire_geom.specs.declared.drawn.Drawn.{Drawn}
use Rattle.channel_stack.specs.Risers.{IsRiser}
use Rattle.channel_stack.proofs.Planned.{net_at, reach_of, row_at, seat_of}
use Rattle.channel_stack.proofs.PlanEntries.{over-of, pin-wire, position-comes}
use Rattle.channel_stack.proofs.RowItems.{row-is, upright-stands}
use Rattle.std_laws.proofs.Members.{map-member}

-- the same items before the same item
record AreSplitAlike (front other : List Item) (item second : Item) : Type 0 where
  pub fronts : front ≡ other
  pub items : item ≡ second

-- two lists of one head have one first item, and one rest
heads : (x y : Item) (xs ys : List Item) → x ∷ xs ≡ y ∷ ys → x ≡ y
heads x y xs ys same = cc

tails : (x y : Item) (xs ys : List Item) → x ∷ xs ≡ y ∷ ys → xs ≡ ys
tails x y xs ys same = cc

-- items side by side that stand in one column of their row are one item
column-once : (d : Netlist) (front other : List Item) (item second : Item) (back rest : List Item) (left column : ℕ) → front ++ item ∷ back ≡ other ++ second ∷ rest
    → left + items_width d front ≤ column → column < left + items_width d front + item_width d item
    → left + items_width d other ≤ column → column < left + items_width d other + item_width d second → AreSplitAlike front other item second
column-once d [] [] item second back rest left column same from to begins ends = record { fronts = refl; items = heads item second back rest same }
column-once d [] (x ∷ other) item second back rest left column same from to begins ends =
    let first : item_width d item ≡ item_width d x = ap (item_width d) (heads item x back (other ++ second ∷ rest) same) in
    absurd (omega (arith, to, begins, first, width-cons d x other))
column-once d (x ∷ front) [] item second back rest left column same from to begins ends =
    let first : item_width d x ≡ item_width d second = ap (item_width d) (heads x second (front ++ item ∷ back) rest same) in
    absurd (omega (arith, ends, from, first, width-cons d x front))
column-once d (x ∷ front) (y ∷ other) item second back rest left column same from to begins ends =
    let head : x ≡ y = heads x y (front ++ item ∷ back) (other ++ second ∷ rest) same in
    let wide : item_width d x ≡ item_width d y = ap (item_width d) head in
    let next =
    column-once d front other item second back rest (left + item_width d x) column (tails x y (front ++ item ∷ back) (other ++ second ∷ rest) same)
    (omega (arith, from, width-cons d x front)) (omega (arith, to, width-cons d x front))
    (omega (arith, begins, wide, width-cons d y other)) (omega (arith, ends, wide, width-cons d y other)) in
    record { fronts = ap (λ (l : List Item). x ∷ l) next.fronts ∙ ap (λ (i : Item). i ∷ other) head; items = next.items }

-- the position at the upper edge of a cell from which a riser rises
pub record RiserPin (d : Netlist) (s : seats.Seat) (left column net : ℕ) : Type 0 where
  pub position : Position
  pub listed : Contains (positions_of d s.instance) position
  pub side : is_on true position ≡ true
  pub at : column ≡ left + turned_column s.mirror (columns_of d s.instance) position.column
  pub of_net : net_at d s.instance position.terminal ≡ net

module _ (r : RuleValues) (d : Netlist) (good : IsNetlist d) (fed : Fed) (k base height : ℕ) (a : Drawn) (it : IsRiser r d fed k base height a) where
  pub riser-pin : RiserPin d it.seat (0 + items_width d it.front) it.column a.net
  riser-pin =
      let items : List Item = it.front ++ Cell it.seat ∷ it.back in
      let found : EntryIn d (cells_in fed.rows) true (suc k) (Some items) it.column a.net =
      subst (λ (o : Option (List Item)). EntryIn d (cells_in fed.rows) true (suc k) o it.column a.net) it.at
      (bottom-cause d fed (suc k) it.column a.net it.entry.0 it.entry.1) in
      let o = over-of d true found.cause items 0 it.column found.stands in
      let bounds = over-within d good true found.cause o.item (0 + items_width d o.front) it.column o.over in
      let one =
      column-once d o.front it.front o.item (Cell it.seat) o.back it.back 0 it.column (sym o.is) (omega (arith, bounds.0)) (omega (arith, bounds.1)) (omega (arith, it.from))
      (omega (arith, it.to)) in
      by found.cause found.of_net
      (subst (λ (f : List Item). IsOver d true found.cause (Cell it.seat) (0 + items_width d f) it.column) one.fronts
      (subst (λ (i : Item). IsOver d true found.cause i (0 + items_width d o.front) it.column) one.items o.over))
    where
      by : (cause : Source) → source_net cause ≡ a.net → IsOver d true cause (Cell it.seat) (0 + items_width d it.front) it.column
          → RiserPin d it.seat (0 + items_width d it.front) it.column a.net
      by (of_pin p) net over =
          let w = pin-wire d good true p it.seat (0 + items_width d it.front) it.column over in
          record { position = w.position; listed = w.listed; side = w.side; at = w.at; of_net = w.of_net ∙ net }
      by (of_feed n) net over = absurd over

  -- a riser lies within what its position takes of the row
  pub riser-drawn : ValidRules r → least_height r ≤ cell_height d it.seat.instance → DrawsUpright r base (map (seat_of r d height) (row_at fed k)) a
  riser-drawn valid room =
      let pin = riser-pin in
      let reach : Upright = reach_of r d height it.seat pin.position in
      let begins : reach.low ≡ cell_height d it.seat.instance - r.grid.pin =
      ap (λ b. cond b (cell_height d it.seat.instance - r.grid.pin) 0) pin.side in
      let ends : reach.high ≡ height = position-comes r d height it.seat true pin.position pin.side in
      let lower = it.lower in
      record {
        upright = reach;
        column = it.column;
        low = cell_height d it.seat.instance - r.grid.pin;
        high = height;
        at = subst (λ (xs : List Item). UprightAt reach it.column 0 (map (seat_of r d height) xs)) (sym (row-is fed k (it.front ++ Cell it.seat ∷ it.back) it.at))
            (upright-stands r d height it.front (Cell it.seat) it.back 0 it.column reach
            (map-member (reach_of r d height it.seat) (positions_of d it.seat.instance) pin.position pin.listed) pin.at);
        from = omega (arith, begins);
        to = omega (arith, ends);
        long = omega (arith, lower, room, valid.pin_vertical);
        layer = ap (λ (x : Drawn). x.shape.layer) it.is;
        rect = ap (λ (x : Drawn). x.shape.rect) it.is;
        net = sym pin.of_net;
      }
