use Rattle.close_rects.proofs.crowd.Crowd.passed_kin.Goals as goal
use Rattle.std.proofs.Common.{◌∙◌, sym, arith}
use Rattle.close_rects.proofs.KinLaws.{IsKin-at}
use Rattle.std_laws.proofs.Options.{same-option}

pub returns-then-eq-clause-kin : goal.returns-then-eq-clause-kin
returns-then-eq-clause-kin c =
    let told = IsKin-at _ _ _ _ _ c.self.invariant.known (omega arith) c.index.ensures in
    let named = same-option c.index.result.now.all c.args.class (sym c.eq.ensures ∙ c.if-eq.true) in
    rw (← c.self.view_is) (λ k item on below is. told.all c.args.class named k item (omega arith) (omega arith) is)

pub returns-then-eq-2-clause-kin : goal.returns-then-eq-2-clause-kin
returns-then-eq-2-clause-kin c =
    let told = IsKin-at _ _ _ _ _ c.self.invariant.known (omega arith) c.index.ensures in
    let named = same-option c.index.result.now.own c.args.class (sym c.eq-else-eq.ensures ∙ c.if-eq-2.true) in
    rw (← c.self.view_is) (λ k item on below is. told.own c.args.class named k item (omega arith) (omega arith) is)
