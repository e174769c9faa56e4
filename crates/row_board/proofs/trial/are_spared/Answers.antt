use Rattle.std.proofs.Common.{◌*◌, ℕ, ap, arith}
use Rattle.std.proofs.lemmas.List.{length-map}
use Rattle.std.specs.Prelude.{nat_lt}
use Rattle.row_model.specs.Widths.{columns_of}
use Rattle.row_model.specs.declared.rows.Seat.{Seat}
use Rattle.row_board.specs.Trial.{ends_net, instances_instead, instead, shifted_from}
use Rattle.row_board.proofs.EndLaws.{ends-one, marked-few}
use Rattle.row_board.proofs.trial.are_spared.Goals as goal

-- where all pins together are few enough
pub returns-then-most_pins-seats : goal.returns-then-most_pins-seats
returns-then-most_pins-seats c =
    let t = c.args.costs.now in
    let a = c.args.a in
    let b = c.args.b in
    let most = c.most_pins.result in
    let side = shifted_from (nat_lt (columns_of t.design a) (columns_of t.design b)) in
    let side' = shifted_from (nat_lt (columns_of t.design b) (columns_of t.design a)) in
    let few = marked-few t.design (ends_net t.design t.standings side) most (ends-one t.design t.standings side) c.most_pins.ensures.all (instances_instead a b c.args.seats.now) in
    let few' = marked-few t.design (ends_net t.design t.standings side') most (ends-one t.design t.standings side') c.most_pins.ensures.all (instances_instead b a c.args.others.now) in
    omega (
      arith,
      few,
      few',
      ap (λ (n : ℕ). most * n) (length-map c.args.seats.now (λ (s : Seat). instead a b s.instance)),
      ap (λ (n : ℕ). most * n) (length-map c.args.others.now (λ (s : Seat). instead b a s.instance)),
      c.if-most_pins-seats.true,
    )
