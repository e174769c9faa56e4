use Rattle.std.proofs.Common.{rules, subst, sym}
use Rattle.std.proofs.lemmas.Result.{IfOk-weaker}
use Rattle.channel_model.specs.Pins.{IsChannel}
use Rattle.channel_model.specs.Wired.{Wired}
use Rattle.greedy_router.specs.Answers.{AreFewest, IsWithinLimits}
use Rattle.greedy_router.specs.Runs.{routed_of}
use Rattle.greedy_router.specs.declared.sweep.Routed.{Routed}
use Rattle.greedy_router.proofs.FewestLaws.{planned-fewest}
use Rattle.greedy_router.proofs.PlanLaws.{planned-wired, planned-within}
use Rattle.greedy_router.proofs.planning.route_planned.Goals as goal

pub returns-clause-wired : goal.returns-clause-wired
returns-clause-wired g c =
    let pins = c.args.channel.now in
    let is_channel : IsChannel pins = search rules in
    IfOk-weaker c.routed-2.result _ _ (λ routed is.
    subst (λ (r : Routed). Wired pins r.wiring) (sym is)
    (planned-wired c.args.plan.now (g.C.Chooses.answers c.args.chooser.now) pins (routed_of c.in_ok-best_run.field-0) is_channel
    (rw c.in_ok-surveyed.ensures at c.in_ok-best_run.ensures))) c.routed-2.ensures

pub returns-clause-within : goal.returns-clause-within
returns-clause-within g c =
    let pins = c.args.channel.now in
    IfOk-weaker c.routed-2.result _ _ (λ routed is.
    subst (λ (r : Routed). IsWithinLimits pins r.wiring) (sym is)
    (planned-within c.args.plan.now (g.C.Chooses.answers c.args.chooser.now) pins (routed_of c.in_ok-best_run.field-0)
    (rw c.in_ok-surveyed.ensures at c.in_ok-best_run.ensures))) c.routed-2.ensures

pub returns-clause-fewest : goal.returns-clause-fewest
returns-clause-fewest g c =
    let pins = c.args.channel.now in
    let may = g.C.Chooses.answers c.args.chooser.now in
    IfOk-weaker c.routed-2.result _ _ (λ routed is.
    subst (λ (r : Routed). AreFewest c.args.plan.now may pins r.wiring.tracks) (sym is)
    (planned-fewest c.args.plan.now may pins (routed_of c.in_ok-best_run.field-0)
    (rw c.in_ok-surveyed.ensures at c.in_ok-best_run.ensures))) c.routed-2.ensures
