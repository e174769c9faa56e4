use Rattle.std.proofs.Common.{◌≡◌, ◌<◌, ◌+◌, ℕ, List, [], ◌∷◌, ap, length, refl, sym, ◌∙◌, arith, map, subst}
use Rattle.design_model.specs.Netlist.{Netlist}
use Rattle.row_board.specs.Extreme.{across}
use Rattle.row_board.specs.Trial.{ends_net, ends_net_alone, instances_instead, joined, marked_in, marked_pins, AreInstances}
use Rattle.row_model.specs.declared.rows.Seat.{Seat}
use Rattle.row_board.specs.declared.net_pins.NetPin.{NetPin}
use Rattle.row_board.proofs.JoinLaws.{ends-joined-in, marked-front, there-front}
use Rattle.std_laws.proofs.Sums.{sum-cons}
use Rattle.row_board.proofs.trial.left_on.Goals as goal

pub returns-then-found-clause-is : goal.returns-then-found-clause-is
returns-then-found-clause-is c =
    let t = c.args.costs.now in
    omega (
      arith,
      c.loop-seat.invariant.over,
      c.loop-seat.invariant.under,
      c.if-found.true,
      ends-joined-in t.design t.standings c.args.side (map (λ (s : Seat). s.instance) c.loop-seat.rest.now),
    )

pub weighed-found-requires-clause-there : goal.weighed-found-requires-clause-there
weighed-found-requires-clause-there c =
    let front = c.in-Some.front.now in
    let at = there-front c.args.costs.now.design c.args.a c.args.b c.args.seats.now front c.in-Some.last.now c.requires.others c.in-Some.ensures.cases.0 c.requires.there in
    subst (λ (n : ℕ). n < length c.args.costs.now.design.instances) (sym c.instead.ensures) at.1

pub weighed-found-requires-in-Some-split_first-clause-there : goal.weighed-found-requires-in-Some-split_first-clause-there
weighed-found-requires-in-Some-split_first-clause-there c =
    (subst (λ (l : List Seat). AreInstances c.args.costs.now.design (map (λ (s : Seat). s.instance) l)) c.in-Some-split_first.ensures.cases.0 c.loop-seat.invariant.there).0

pub loop-seat-init : goal.loop-seat-init
loop-seat-init c =
    let t = c.args.costs.now in
    let part = λ (mark : ℕ × NetPin → ℕ).
    marked-front t.design mark c.args.a c.args.b c.args.seats.now c.in-Some.front.now c.in-Some.last.now c.requires.others c.in-Some.ensures.cases.0
    ∙ ap (λ (n : ℕ). marked_in t.design mark (map (λ (s : Seat). s.instance) c.in-Some.front.now) + marked_pins t.design mark n) (sym c.instead.ensures) in
    record {
      there = (there-front t.design c.args.a c.args.b c.args.seats.now c.in-Some.front.now c.in-Some.last.now c.requires.others c.in-Some.ensures.cases.0 c.requires.there).0;
      over = omega (arith, part (ends_net t.design t.standings c.args.side), c.weighed-found.ensures.over);
      under = omega (arith, part (ends_net_alone t.design t.standings (across c.args.side)), part (joined t.design), c.weighed-found.ensures.under);
      few = omega (arith, c.weighed-found.ensures.few, c.in-Some.ensures.cases.1);
      few_under = omega (arith, c.weighed-found.ensures.few_under, c.in-Some.ensures.cases.1);
    }

pub loop-seat-preserved : goal.loop-seat-preserved
loop-seat-preserved c =
    let t = c.args.costs.now in
    let f = λ (s : Seat). s.instance in
    let seat = c.in-Some-split_first.seat.now in
    let after = c.in-Some-split_first.after.now in
    let rest = c.in-Some-split_first.ensures.cases.0 in
    let part = λ (mark : ℕ × NetPin → ℕ).
    ap (λ (l : List Seat). marked_in t.design mark (map f l)) rest ∙ sum-cons (marked_pins t.design mark (f seat)) (map (marked_pins t.design mark) (map f after)) in
    record {
      there = (subst (λ (l : List Seat). AreInstances t.design (map f l)) rest c.loop-seat.invariant.there).1;
      over = omega (arith, c.loop-seat.invariant.over, part (ends_net t.design t.standings c.args.side), c.weighed-found.ensures.over);
      under = omega (arith, c.loop-seat.invariant.under, part (ends_net_alone t.design t.standings (across c.args.side)), part (joined t.design), c.weighed-found.ensures.under);
      few = omega (arith, c.loop-seat.invariant.few, c.weighed-found.ensures.few, ap length rest);
      few_under = omega (arith, c.loop-seat.invariant.few_under, c.weighed-found.ensures.few_under, ap length rest);
    }

-- no seats have no pins
none-left : (d : Netlist) (mark : ℕ × NetPin → ℕ) (seats : List Seat) → length seats ≡ 0 → marked_in d mark (map (λ (s : Seat). s.instance) seats) ≡ 0
none-left d mark [] none = refl
none-left d mark (s ∷ seats) none = absurd (omega (arith, none))

pub returns-clause-few : goal.returns-clause-few
returns-clause-few c =
    let t = c.args.costs.now in
    let none = λ (mark : ℕ × NetPin → ℕ). none-left t.design mark c.loop-seat.rest.now c.in_default-split_first.ensures.cases in
    omega (
      arith,
      c.loop-seat.invariant.over,
      c.loop-seat.invariant.under,
      none (ends_net t.design t.standings c.args.side),
      none (joined t.design),
      none (ends_net_alone t.design t.standings (across c.args.side)),
      ends-joined-in t.design t.standings c.args.side (instances_instead c.args.a c.args.b c.args.seats.now),
      c.saturating_sub.ensures,
    )
