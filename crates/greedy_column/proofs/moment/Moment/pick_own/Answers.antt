use Rattle.std.proofs.Common.{subst, List, ℕ, Contains}
use Rattle.std.proofs.lemmas.Result.{IfOk-weaker}
use Rattle.greedy_column.proofs.moment.Moment.pick_own.Goals as goal

pub returns-clause-picked : goal.returns-clause-picked
returns-clause-picked g c = rw (← c.list.ensures.list) c.pick_line.ensures.picked

pub returns-clause-above : goal.returns-clause-above
returns-clause-above g c =
    IfOk-weaker c.pick_line.result _ _ (λ line member.
    (c.list.ensures.are.each line (subst (λ (l : List ℕ). Contains l line) c.list.ensures.list member)).0) c.pick_line.ensures.member
