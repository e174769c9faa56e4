use Rattle.std.proofs.Common.{◌<◌, ℕ, List, length, take, get_or, rules, sym, subst, ap}
use Rattle.std.proofs.lemmas.List.{take_more}
use Rattle.channel_model.specs.Limits.{most_extra}
use Rattle.channel_model.specs.Nets.{nets_of}
use Rattle.greedy_router.specs.Answers.{IsChannelRouted, IsPlanned}
use Rattle.greedy_router.specs.Begun.{begun_of}
use Rattle.greedy_router.specs.Runs.{Ran, routed_of}
use Rattle.greedy_router.specs.declared.sweep.Routed.{Routed}
use Rattle.greedy_router.proofs.PlanLaws.{planned-first, planned-within}
use Rattle.greedy_router.proofs.RanLaws.{planned-next}
use Rattle.greedy_router.proofs.planning.best_run.Goals as goal

pub loop-share-init : goal.loop-share-init
loop-share-init g c =
    let may = g.C.Chooses.answers c.args.chooser.now in
    let pins = c.args.surveyed.now.channel.now in
    planned-first c.args.plan.now.manner may pins c.args.plan.now.first (routed_of c.in_ok-best.best)
    (rw (c.limits.ensures.tracks, c.limits.ensures.extra) at c.in_ok-best.ensures.routed)

pub loop-share-preserved : goal.loop-share-preserved
loop-share-preserved g c =
    let manner = c.args.plan.now.manner in
    let may = g.C.Chooses.answers c.args.chooser.now in
    let pins = c.args.surveyed.now.channel.now in
    let first : ℕ = c.args.plan.now.first in
    let others : List ℕ = c.args.plan.now.others in
    let i : ℕ = c.loop-share.share-index in
    let share : ℕ = get_or others i 0 in
    let best : Routed = routed_of c.loop-share.best in
    let one : Ran = c.in_ok-one.one in
    let inside : i < length others = search rules in
    let few = planned-within (record { manner = manner; first = first; others = take i others }) may pins best c.loop-share.invariant in
    let routed : IsChannelRouted manner (begun_of share pins) may pins best.wiring.tracks (most_extra (length (nets_of pins))) (routed_of one) =
    rw (c.items-share-items.ensures, c.limits_within-limits.ensures.tracks, c.limits_within-limits.ensures.extra, c.size.ensures) at c.in_ok-one.ensures.routed in
    let next = planned-next manner may pins first (take i others) share best one c.loop-share.invariant few.tracks routed (routed_of c.better-best.result)
    (λ over. ap routed_of (c.better-best.ensures.given_up over)) c.better-best.ensures.better in
    subst (λ (l : List ℕ). IsPlanned (record { manner = manner; first = first; others = l }) may pins (routed_of c.better-best.result))
    (sym (take_more others i 0 inside)) next
