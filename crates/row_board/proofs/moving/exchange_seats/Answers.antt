use Rattle.row_board.proofs.moving.exchange_seats.Goals as goal
use Rattle.std.proofs.Common.{◌≡◌, ◌<◌, ℕ, length, ap₂, sym, subst}
use Rattle.std.specs.Prelude.{nat_eq}
use Rattle.row_board.specs.Moving.{ArePut, AreUnmoved}
use Rattle.row_board.specs.Spot.{Spot}
use Rattle.row_board.specs.Standings.{standing_of}
use Rattle.row_board.specs.declared.moving.MovedSeats.{MovedSeats}
use Rattle.row_model.specs.Rows.{ArePlaced}
use Rattle.row_board.proofs.MoveLaws.{cell-told}
use Rattle.row_board.proofs.PutLaws.{seats-exchanged}
use Rattle.row_board.proofs.ReachLaws.{unmoved, unmoved-ordered, AreReaches}
use Rattle.row_model.proofs.PlacedLaws.{placed-distinct}
use Rattle.row_model.proofs.SwapLaws.{swap-placed}
use Rattle.std_laws.proofs.Tests.{nat_eq-alike}

pub returns : goal.returns
returns c =
    let d = c.args.costs.now.design in
    let at = λ (i : ℕ) (s : Spot) (within : i < length d.instances) (is : s ≡ standing_of c.args.costs.now.standings i).
    (cell-told d c.args.rows.now c.args.costs.now.standings i s c.design-design.ensures.good c.requires.seated.placed c.requires.seated.entered within is).at in
    let both = seats-exchanged c.args.rows.now c.put.new.rows c.put-2.new.rows c.standing-one.result c.standing-other.result c.args.a c.args.b _ _ (placed-distinct _ _ c.requires.seated.placed)
    (at c.args.a _ c.requires.a c.standing-one.ensures) (at c.args.b _ c.requires.b c.standing-other.ensures) c.seat.ensures c.put.ensures c.seat-2.ensures c.put-2.ensures in
    let h : AreReaches d c.args.rows.now c.put-2.new.rows c.args.costs.now.standings c.args.a c.args.b (nat_eq c.columns_of.result c.columns_of-2.result) c.moved_seats-reach.result c.moved_seats-other_reach.result = record {
      good = c.design-design.ensures.good;
      placed = c.requires.seated.placed;
      entered = c.requires.seated.entered;
      in_a = c.requires.a;
      in_b = c.requires.b;
      apart = c.requires.apart;
      one = c.standing-one.result;
      other = c.standing-other.result;
      is_one = c.standing-one.ensures;
      is_other = c.standing-other.ensures;
      alike = nat_eq-alike c.columns_of.result c.columns_of-2.result _ _ c.columns_of.ensures.width c.columns_of-2.ensures.width;
      row = c.moved_seats-reach.ensures.row;
      from = c.moved_seats-reach.ensures.from;
      to = c.moved_seats-reach.ensures.to;
      row' = c.moved_seats-other_reach.ensures.row;
      from' = c.moved_seats-other_reach.ensures.from;
      to' = c.moved_seats-other_reach.ensures.to;
      puts = both.1;
      swap = both.0;
    } in
    record {
      swapped = both.0;
      placed = subst (ArePlaced c.args.costs.now.design) (sym both.0) (swap-placed c.args.costs.now.design c.args.rows.now c.args.a c.args.b c.requires.seated.placed);
      exchanged = subst (λ (st : Spot × Spot). ArePut st.0.row st.0.place (record { instance = c.args.b; mirror = st.1.mirror }) st.1.row st.1.place (record { instance = c.args.a; mirror = st.0.mirror }) c.args.rows.now c.put-2.new.rows)
          (ap₂ (λ (x y : Spot). (x, y)) c.standing-one.ensures c.standing-other.ensures) both.1;
      unmoved = subst (λ (r : MovedSeats × MovedSeats). AreUnmoved d c.put-2.new.rows c.args.costs.now.standings r.0 r.1) (sym c.in_order.ensures)
          (unmoved-ordered d c.put-2.new.rows c.args.costs.now.standings c.moved_seats-reach.result c.moved_seats-other_reach.result
          (unmoved d c.args.rows.now c.put-2.new.rows c.args.costs.now.standings c.args.a c.args.b (nat_eq c.columns_of.result c.columns_of-2.result) c.moved_seats-reach.result c.moved_seats-other_reach.result h));
    }
