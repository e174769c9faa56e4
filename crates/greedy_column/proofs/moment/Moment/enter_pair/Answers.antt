use Rattle.std.proofs.Common.{subst, List, ℕ, Contains}
use Rattle.greedy_column.proofs.LineLaws.{below_line-some}
use Rattle.greedy_column.proofs.moment.Moment.enter_pair.Goals as goal

pub enter_partners-requires-clause-partners : goal.enter_partners-requires-clause-partners
enter_partners-requires-clause-partners g c =
    λ line member. below_line-some c.args.lowers.now.all c.args.uppers.now.all line (subst (λ (l : List ℕ). Contains l line) c.in_ok-partnered.ensures member)
