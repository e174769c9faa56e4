use Rattle.std.proofs.Common.{◌≤◌, ◌+◌, List, sym, subst}
use Rattle.std.proofs.lemmas.Bool.{OnTrue_at, OnTrue_from}
use Rattle.std.specs.Prelude.{◌<◌}
use Rattle.row_model.specs.declared.rows.Seat.{Seat}
use Rattle.row_board.specs.Trial.{instances_instead, least_cost, longer_in, shifted_seats, shorter_in, AreInstances}
use Rattle.row_board.proofs.JoinLaws.{above-told}
use Rattle.row_board.proofs.trial.is_above.Goals as goal

pub returns : goal.returns
returns c =
    let t = c.args.costs.now in
    let rows = c.args.rows.now in
    let a = c.args.a in
    let b = c.args.b in
    let spare = c.spare_pins-spare.result in
    let shorter = shorter_in t.design t.standings in
    let longer = longer_in t.design t.standings in
    OnTrue_from c.are_spared.result (c.args.limit < least_cost t.design rows t.standings a b c.args.one c.args.other c.args.cost)
    (λ test. above-told t.design rows t.standings a b c.args.one c.args.other c.args.cost c.args.limit spare c.shift_of.result c.shift_of.ensures.is c.requires.above
    c.spare_pins-spare.ensures.spare
    (subst (λ (l : List Seat). shorter a b (shifted_seats rows c.args.one c.args.other) + shorter b a l ≤ spare + (longer a b (shifted_seats rows c.args.one c.args.other) + longer b a l))
    c.shifted_seats-others.ensures.is
    (subst (λ (l : List Seat). shorter a b l + shorter b a c.shifted_seats-others.result.now ≤ spare + (longer a b l + longer b a c.shifted_seats-others.result.now))
    c.shifted_seats-seats.ensures.is
    (OnTrue_at test c.are_spared.ensures))))

pub are_spared-requires-clause-there : goal.are_spared-requires-clause-there
are_spared-requires-clause-there c =
    subst (λ (l : List Seat). AreInstances c.args.costs.now.design (instances_instead c.args.a c.args.b l)) (sym c.shifted_seats-seats.ensures.is) c.requires.there

pub are_spared-requires-clause-there_others : goal.are_spared-requires-clause-there_others
are_spared-requires-clause-there_others c =
    subst (λ (l : List Seat). AreInstances c.args.costs.now.design (instances_instead c.args.b c.args.a l)) (sym c.shifted_seats-others.ensures.is) c.requires.there_others
