use Rattle.std.proofs.Common.{◌<◌, ◌+◌, ℕ, ap, length, sym, ◌∙◌, arith, map, subst}
use Rattle.row_board.specs.Trial.{joined, marked_in, marked_pins}
use Rattle.row_model.specs.declared.rows.Seat.{Seat}
use Rattle.row_board.proofs.JoinLaws.{marked-front, there-front}
use Rattle.row_board.proofs.trial.all_joined.Goals as goal

pub joined-found-requires : goal.joined-found-requires
joined-found-requires c =
    let front = c.in-Some.front.now in
    let at = there-front c.args.costs.now.design c.args.a c.args.b c.args.seats.now front c.in-Some.last.now c.requires.others c.in-Some.ensures.cases.0 c.requires.there in
    subst (λ (n : ℕ). n < length c.args.costs.now.design.instances) (sym c.instead.ensures) at.1

pub loop-seat-init : goal.loop-seat-init
loop-seat-init c =
    let d = c.args.costs.now.design in
    let front = c.in-Some.front.now in
    let whole = marked-front d (joined d) c.args.a c.args.b c.args.seats.now front c.in-Some.last.now c.requires.others c.in-Some.ensures.cases.0
    ∙ ap (λ (n : ℕ). marked_in d (joined d) (map (λ (s : Seat). s.instance) front) + marked_pins d (joined d) n) (sym c.instead.ensures) in
    record {
      there = (there-front d c.args.a c.args.b c.args.seats.now front c.in-Some.last.now c.requires.others c.in-Some.ensures.cases.0 c.requires.there).0;
      is = omega (arith, whole, c.joined-found.ensures.is);
      short = omega (arith, c.in-Some.ensures.cases.1);
      few = omega (arith, c.joined-found.ensures.few, c.in-Some.ensures.cases.1);
    }
