use Rattle.row_board.proofs.building.standings_of.Goals as goal
use Rattle.std.proofs.Common.{◌≡◌, ◌<◌, ℕ, ◌++◌, take, drop, length, ap, sym, ◌∙◌, arith, subst, List}
use Rattle.std.proofs.lemmas.Option.{slice_get_within}
use Rattle.std.specs.List.{slice_get}
use Rattle.design_model.specs.Netlist.{Netlist}
use Rattle.row_board.specs.Moving.{row_there}
use Rattle.row_board.specs.Spot.{Spot}
use Rattle.row_board.specs.Standings.{AreApart, HasEntered, IsEntered, KeepsOthers}
use Rattle.row_model.specs.declared.rows.Seat.{Seat}
use Rattle.row_board.proofs.MoveLaws.{row-entered}
use Rattle.row_board.proofs.PlaceLaws.{there-apart, there-short}
use Rattle.row_model.proofs.PlacedLaws.{placed-distinct}
use Rattle.std_laws.proofs.Slices.{overwritten-same}

pub enter_row-requires-clause-apart : goal.enter_row-requires-clause-apart
enter_row-requires-clause-apart c =
    let seats = c.row_at-seats.ensures ∙ ap (λ (l : List (List Seat)). row_there (slice_get l c.loop-row.row)) c.rows-rows.ensures.is in
    subst (λ (n : ℕ). AreApart n c.row_at-seats.result.now) (sym (ap length c.as_mut_slice.ensures.value ∙ c.loop-row.invariant.count))
    (subst (AreApart (length c.args.placed.now.design.instances)) (sym seats)
    (there-apart c.args.placed.now.design c.args.placed.now.rows c.design-design.ensures.good c.rows-rows.ensures.placed c.loop-row.row))

pub enter_row-requires-clause-short : goal.enter_row-requires-clause-short
enter_row-requires-clause-short c =
    let seats = c.row_at-seats.ensures ∙ ap (λ (l : List (List Seat)). row_there (slice_get l c.loop-row.row)) c.rows-rows.ensures.is in
    omega (arith, there-short c.args.placed.now.design c.args.placed.now.rows c.design-design.ensures.good c.rows-rows.ensures.placed c.loop-row.row, ap length seats)

pub loop-row-preserved : goal.loop-row-preserved
loop-row-preserved c =
    let d = c.args.placed.now.design in
    let rows = c.args.placed.now.rows in
    let seats = c.row_at-seats.ensures ∙ ap (λ (l : List (List Seat)). row_there (slice_get l c.loop-row.row)) c.rows-rows.ensures.is in
    let design = c.design-design.ensures.is in
    let old : c.as_mut_slice.result.now ≡ c.loop-row.standings.items = c.as_mut_slice.ensures.value in
    let long : length c.enter_row.new.standings ≡ length c.loop-row.standings.items = c.enter_row.auto.standings ∙ ap length old in
    let count : c.loop-row.standings.len ≡ length c.loop-row.standings.items = sym c.as_mut_slice.ensures.len ∙ ap length old in
    let written : take c.loop-row.standings.len (c.enter_row.new.standings ++ drop (length c.enter_row.new.standings) c.loop-row.standings.items) ≡ c.enter_row.new.standings =
    ap (λ (n : ℕ). take n (c.enter_row.new.standings ++ drop (length c.enter_row.new.standings) c.loop-row.standings.items)) count
    ∙ overwritten-same c.enter_row.new.standings c.loop-row.standings.items long in
    let others = subst (λ (l : List Spot). KeepsOthers 0 (length c.row_at-seats.result.now) c.row_at-seats.result.now l c.enter_row.new.standings) old c.enter_row.ensures.others in
    let entered = subst (λ (d : Netlist). HasEntered d c.loop-row.row 0 (length c.row_at-seats.result.now) c.row_at-seats.result.now c.enter_row.new.standings) design c.enter_row.ensures.entered in
    let within : c.loop-row.row < length c.args.placed.now.rows = omega (arith, c.loop-row-test.true, ap length c.rows-rows.ensures.is) in
    record {
      count = ap length written ∙ long ∙ c.loop-row.invariant.count;
      entered = λ r k below. subst (λ (l : List Spot). IsEntered c.args.placed.now.design c.args.placed.now.rows l r k) (sym written)
          (row-entered d rows c.loop-row.row c.row_at-seats.result.now c.loop-row.standings.items c.enter_row.new.standings
          (placed-distinct d rows c.rows-rows.ensures.placed) within seats entered others c.loop-row.invariant.entered r k below);
    }

pub returns : goal.returns
returns c = record {
  placed = c.rows-rows.ensures.placed;
  count = c.loop-row.invariant.count;
  entered = record {
    each = λ r k seats s in_row at.
        let below = slice_get_within c.args.placed.now.rows r seats in_row in
        c.loop-row.invariant.entered r k (omega (arith, below, c.loop-row-test.false, ap length c.rows-rows.ensures.is)) seats s in_row at;
  };
}
