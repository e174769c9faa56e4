use Rattle.std.proofs.Common.{◌≡◌, ℕ, List, Some, false, get_or, length, refl, ap, sym, ◌∙◌, arith, rules, subst}
use Rattle.row_board.specs.NetCosts.{Tabled}
use Rattle.row_board.specs.Standings.{AreApart, HasEntered}
use Rattle.row_model.specs.Widths.{columns_of}
use Rattle.row_model.specs.declared.rows.Seat.{Seat}
use Rattle.row_board.proofs.MoveLaws.{entered-kept, entered-there, left-near, left-told}
use Rattle.row_model.proofs.PlacedLaws.{placed-distinct}
use Rattle.row_board.proofs.PlaceLaws.{row-here, there-apart, there-short}
use Rattle.row_board.proofs.StandingLaws.{entered-none, entered-step}
use Rattle.row_board.proofs.moving.enter_reach.Goals as goal

pub loop-place-init : goal.loop-place-init
loop-place-init c =
    let d = c.args.costs.now.design in
    let seats = c.row_at-seats.result.now in
    let from = c.args.reach.from in
    let good = c.design-design.ensures.good in
    let in_row = row-here c.args.rows.now c.args.reach.row c.requires.reach.row ∙ ap (λ (l : List Seat). Some l) (sym c.row_at-seats.ensures) in
    let left = c.left_of-left.ensures
    ∙ left-told d c.args.reach.row from seats c.args.costs.now.standings good (omega (arith, c.requires.reach.ordered, c.requires.reach.within, ap length c.row_at-seats.ensures))
    (λ k s next at. c.requires.before k next seats s in_row at) in
    record {
      apart = subst (λ (n : ℕ). AreApart n seats) (sym c.requires.count) (subst (AreApart (length d.instances)) (sym c.row_at-seats.ensures) (there-apart _ c.args.rows.now good c.requires.placed c.args.reach.row));
      short = omega (arith, there-short d c.args.rows.now good c.requires.placed c.args.reach.row, ap length c.row_at-seats.ensures);
      rest = refl;
      so_far = entered-none d c.args.reach.row from seats _ _ left (omega (arith, left, left-near d good from seats));
    }

pub loop-place-preserved : goal.loop-place-preserved
loop-place-preserved c = record {
  apart = c.loop-place.invariant.apart;
  short = c.loop-place.invariant.short;
  rest = search rules;
  so_far = entered-step c.args.costs.now.design c.args.reach.row c.args.reach.from c.loop-place.place c.row_at-seats.result.now c.loop-place.left c.from-left.result c.args.costs.now.standings
      c.loop-place.costs.standings c.put.new.self.standings (record { instance = 0; mirror = false }) c.loop-place.invariant.so_far c.loop-place.invariant.apart c.loop-place.auto.place (omega (arith, c.requires.reach.within, ap length c.row_at-seats.ensures))
      (c.from-left.ensures ∙ c.columns_of-width.ensures.width
      ∙ ap (λ (t : Tabled). columns_of t.design (get_or c.row_at-seats.result.now c.loop-place.place (record { instance = 0; mirror = false })).instance) c.loop-place.invariant.rest)
      (omega (arith, c.from-left.ensures, c.columns_of-width.ensures.few)) (ap (λ (t : Tabled). t.standings) c.put.ensures);
}

pub returns-clause-entered : goal.returns-clause-entered
returns-clause-entered c = λ k low high.
    let seats = c.row_at-seats.result.now in
    let done : c.loop-place.place ≡ c.args.reach.to = omega arith in
    entered-there c.args.costs.now.design c.args.rows.now c.args.reach.row c.args.reach.from c.args.reach.to seats c.loop-place.costs.standings
    (row-here c.args.rows.now c.args.reach.row c.requires.reach.row ∙ ap (λ (l : List Seat). Some l) (sym c.row_at-seats.ensures))
    (subst (λ (to : ℕ). HasEntered c.args.costs.now.design c.args.reach.row c.args.reach.from to seats c.loop-place.costs.standings) done c.loop-place.invariant.so_far.entered) k low high

pub returns-clause-kept : goal.returns-clause-kept
returns-clause-kept c =
    entered-kept c.args.costs.now.design c.args.rows.now c.args.reach.row c.args.reach.from c.loop-place.place c.row_at-seats.result.now c.args.costs.now.standings c.loop-place.costs.standings
    (placed-distinct c.args.costs.now.design c.args.rows.now c.requires.placed) (row-here c.args.rows.now c.args.reach.row c.requires.reach.row ∙ ap (λ (l : List Seat). Some l) (sym c.row_at-seats.ensures))
    c.loop-place.invariant.so_far.entered c.loop-place.invariant.so_far.others
