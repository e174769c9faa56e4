use Rattle.row_model.specs.declared.rows.Seat as seats
use Rattle.std.proofs.Common.{◌≡◌, inl, inr, refl, sym, ap, ◌∙◌, subst, ℕ, ◌+◌, ◌-◌, ◌<◌, ◌≤◌, ◌⊎◌, [], ◌∷◌, Bool, true, false, cond, Option, Some, None, Contains, arith}
use Rattle.std.proofs.lemmas.List.Elements.{All-contains}
use Rattle.std.proofs.lemmas.Option.{same_Some}
use Rattle.std.specs.Prelude.{slice_get}
use Rattle.row_model.proofs.WidthLaws.{kind-good}
use Rattle.tech_rules.specs.Rules.{RuleValues, ValidRules}
use Rattle.design_model.specs.Room.{least_height}
use Rattle.design_model.specs.Netlist.{Netlist, IsNetlist, IsPosition}
use Rattle.design_model.specs.declared.design.CellKind.{CellKind}
use Rattle.design_model.specs.declared.design.Position.{Position}
use Rattle.row_model.specs.Stands.{positions_in, positions_of, turned_column}
use Rattle.row_model.specs.Widths.{cell_height, columns_of, kind_of, width_of}
use Rattle.feed_cells.specs.declared.fed.Item.{Item}
use Rattle.feed_cells.specs.declared.fed.Item.TheVariants.{Cell, Feed}
use Rattle.pin_assign.proofs.EdgeLaws.{turned-once, turned-within}
use Rattle.layout_laws.proofs.Seats.{AreParted, FitsRow, IsSeat, Upright}
use Rattle.channel_stack.proofs.Planned.{feed_upright, high_of, item_wires, low_of, net_at, reach_of, seat_of, upright_of}
use Rattle.std_laws.proofs.Members.{map-cases, map-member, member-cases, member-head, member-place}

module _ (d : Netlist) (good : IsNetlist d) where
  -- a position lies in its cell's columns
  pub position-within : (instance : ℕ) (p : Position) → Contains (positions_of d instance) p → p.column < columns_of d instance
  position-within instance p member = by (kind_of d instance) refl member
    where
      by : (k : Option CellKind) → kind_of d instance ≡ k → Contains (positions_in k) p → p.column < width_of k
      by None is member = absurd (omega (arith, member.1))
      by (Some kind) is member = (All-contains (IsPosition kind) kind.positions p (kind-good d good instance kind is).positions member).column

  -- two positions of a cell on one edge in one column are one
  pub positions-once : (instance : ℕ) (p q : Position) → Contains (positions_of d instance) p → Contains (positions_of d instance) q → p.top ≡ q.top → p.column ≡ q.column → p ≡ q
  positions-once instance p q member other side column = by (kind_of d instance) refl member other
    where
      by : (k : Option CellKind) → kind_of d instance ≡ k → Contains (positions_in k) p → Contains (positions_in k) q → p ≡ q
      by None is member other = absurd (omega (arith, member.1))
      by (Some kind) is member other =
          let first = member-place kind.positions p member in
          let second = member-place kind.positions q other in
          let one = (kind-good d good instance kind is).apart first.0 second.0 p q first.1 second.1 side column in
          same_Some p q (sym first.1 ∙ ap (slice_get kind.positions) one ∙ second.1)

  -- the wires of a cell on one edge in one column are one
  cell-once : (s : seats.Seat) (p q : Position) → Contains (positions_of d s.instance) p → Contains (positions_of d s.instance) q → p.top ≡ q.top
      → turned_column s.mirror (columns_of d s.instance) p.column ≡ turned_column s.mirror (columns_of d s.instance) q.column → p ≡ q
  cell-once s p q member other side column =
      positions-once s.instance p q member other side
      (turned-once s.mirror (columns_of d s.instance) p.column q.column (position-within s.instance p member) (position-within s.instance q other) column)

-- what a position of a cell with room for pins takes of a row that is no lower fits the row
position-fits : (r : RuleValues) → ValidRules r → (own height : ℕ) → least_height r ≤ own → own ≤ height → (column net : ℕ) (p : Position)
    → FitsRow r height (record { column = column; low = low_of r own p; high = high_of r height p; net = net })
position-fits r valid own height room within column net p = by p.top
  where
    by : (top : Bool) → FitsRow r height (record { column = column; low = cond top (own - r.grid.pin) 0; high = cond top height r.grid.pin; net = net })
    by true = record {
      long = omega (arith, valid.pin_vertical, room, within);
      within = omega arith;
      below = inr (omega (arith, room));
      above = inl refl;
    }
    by false = record {
      long = omega (arith, valid.pin_vertical);
      within = omega (arith, room, within);
      below = inl refl;
      above = inr (omega (arith, room, within));
    }

-- positions of two edges are parted
sides-parted : (r : RuleValues) (own height : ℕ) → least_height r ≤ own → (p q : Position)
    → (p.top ≡ q.top) ⊎ (high_of r height p + r.vertical.space ≤ low_of r own q) ⊎ (high_of r height q + r.vertical.space ≤ low_of r own p)
sides-parted r own height room p q = by p.top q.top
  where
    by : (a b : Bool) → (a ≡ b) ⊎ (cond a height r.grid.pin + r.vertical.space ≤ cond b (own - r.grid.pin) 0)
        ⊎ (cond b height r.grid.pin + r.vertical.space ≤ cond a (own - r.grid.pin) 0)
    by true true = inl refl
    by false false = inl refl
    by true false = inr (inr (omega (arith, room)))
    by false true = inr (inl (omega (arith, room)))

-- the one wire of a feed
pub feed-only : (height net : ℕ) (u : Upright) → Contains (feed_upright height net ∷ []) u → feed_upright height net ≡ u
feed-only height net u member =
    elim (member-cases (feed_upright height net) [] u member) [
      | inl same ↦ same
      | inr none ↦ absurd (omega (arith, none.1))
    ]

module _ (r : RuleValues) (valid : ValidRules r) (d : Netlist) (good : IsNetlist d) (height : ℕ) where
  -- a seated cell as a seat of its row
  pub cell-seat : (s : seats.Seat) → least_height r ≤ cell_height d s.instance → cell_height d s.instance ≤ height → IsSeat r height (seat_of r d height (Cell s))
  cell-seat s room low = record {
    fits = λ u member.
        let found = map-cases (reach_of r d height s) (positions_of d s.instance) u member in
        subst (FitsRow r height) found.2
        (position-fits r valid (cell_height d s.instance) height room low (turned_column s.mirror (columns_of d s.instance) found.0.column)
        (net_at d s.instance found.0.terminal) found.0);
    within = λ u member.
        let found = map-cases (reach_of r d height s) (positions_of d s.instance) u member in
        subst (λ (x : Upright). x.column < columns_of d s.instance) found.2
        (turned-within s.mirror (columns_of d s.instance) found.0.column (position-within d good s.instance found.0 found.1));
    parted = λ u v in_u in_v column.
        let a = map-cases (reach_of r d height s) (positions_of d s.instance) u in_u in
        let b = map-cases (reach_of r d height s) (positions_of d s.instance) v in_v in
        subst (λ (x : Upright). AreParted r x v) a.2
        (subst (AreParted r (reach_of r d height s a.0)) b.2
        (apart a.0 b.0 a.1 b.1 (ap (λ (x : Upright). x.column) a.2 ∙ column ∙ ap (λ (x : Upright). x.column) (sym b.2))));
  }
    where
      apart : (p q : Position) → Contains (positions_of d s.instance) p → Contains (positions_of d s.instance) q
          → turned_column s.mirror (columns_of d s.instance) p.column ≡ turned_column s.mirror (columns_of d s.instance) q.column
          → AreParted r (reach_of r d height s p) (reach_of r d height s q)
      apart p q in_p in_q column =
          elim (sides-parted r (cell_height d s.instance) height room p q) [
            | inl side ↦ inl (ap (λ (x : Position). net_at d s.instance x.terminal) (cell-once d good s p q in_p in_q side column))
            | inr parted ↦ inr parted
          ]

  -- a feed as a seat
  pub feed-seat : (net : ℕ) → least_height r ≤ height → IsSeat r height (seat_of r d height (Feed net))
  feed-seat net room = record {
    fits = λ u member.
        subst (FitsRow r height) (feed-only height net u member)
        (record { long = omega (arith, valid.pin_vertical, room); within = omega arith; below = inl refl; above = inl refl });
    within = λ u member. subst (λ (x : Upright). x.column < 1) (feed-only height net u member) (omega arith);
    parted = λ u v in_u in_v column. inl (ap (λ (x : Upright). x.net) (sym (feed-only height net u in_u) ∙ feed-only height net v in_v));
  }

-- what an item of a row draws lies within what it takes of the row
pub record IsInReach (r : RuleValues) (d : Netlist) (height : ℕ) (item : Item) (wire : Upright) : Type 0 where
  pub reach : Upright
  pub member : Contains (seat_of r d height item).uprights reach
  pub column : wire.column ≡ reach.column
  pub from : reach.low ≤ wire.low
  pub to : wire.high ≤ reach.high
  pub long : wire.low + r.vertical.width ≤ wire.high
  pub net : wire.net ≡ reach.net

pub cell-reach : (r : RuleValues) → ValidRules r → (d : Netlist) (height : ℕ) (s : seats.Seat) → least_height r ≤ cell_height d s.instance → cell_height d s.instance ≤ height
    → (wire : Upright) → Contains (item_wires r d height (Cell s)) wire → IsInReach r d height (Cell s) wire
cell-reach r valid d height s room low wire member =
    let found = map-cases (upright_of r d s) (positions_of d s.instance) wire member in
    subst (IsInReach r d height (Cell s)) found.2 (record {
      reach = reach_of r d height s found.0;
      member = map-member (reach_of r d height s) (positions_of d s.instance) found.0 found.1;
      column = refl;
      from = omega arith;
      to = upper found.0.top;
      long = long found.0.top;
      net = refl;
    })
  where
    upper : (top : Bool) → cond top (cell_height d s.instance) r.grid.pin ≤ cond top height r.grid.pin
    upper true = low
    upper false = omega arith

    long : (top : Bool) → cond top (cell_height d s.instance - r.grid.pin) 0 + r.vertical.width ≤ cond top (cell_height d s.instance) r.grid.pin
    long true = omega (arith, valid.pin_vertical, room)
    long false = omega (arith, valid.pin_vertical)

pub feed-reach : (r : RuleValues) → ValidRules r → (d : Netlist) (height net : ℕ) → least_height r ≤ height
    → (wire : Upright) → Contains (item_wires r d height (Feed net)) wire → IsInReach r d height (Feed net) wire
feed-reach r valid d height net room wire member =
    subst (IsInReach r d height (Feed net)) (feed-only height net wire member) (record {
      reach = feed_upright height net;
      member = member-head (feed_upright height net) [];
      column = refl;
      from = omega arith;
      to = omega arith;
      long = omega (arith, valid.pin_vertical, room);
      net = refl;
    })
