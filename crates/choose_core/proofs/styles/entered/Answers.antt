use Rattle.std.proofs.Common.{subst, sym, ◌∙◌}
use Rattle.choose_core.specs.Styles.{EntersDeftly, is_own}
use Rattle.choose_core.proofs.Best.{some-owned, none-owned}
use Rattle.choose_core.proofs.styles.entered.Goals as goal

pub returns-in-Some : goal.returns-in-Some
returns-in-Some c =
    subst (λ b. EntersDeftly b c.args.list.now c.farthest_own.result) (sym (some-owned is_own c.args.list.now c.in-Some.first (sym c.first_own.ensures ∙ c.in-Some.is)))
    c.farthest_own.ensures

pub returns-in-None : goal.returns-in-None
returns-in-None c =
    subst (λ b. EntersDeftly b c.args.list.now c.near.result) (sym (none-owned is_own c.args.list.now (sym c.first_own.ensures ∙ c.in-None.is))) c.near.ensures
