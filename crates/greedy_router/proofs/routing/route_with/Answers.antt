use Rattle.std.proofs.Common.{rules, subst, sym}
use Rattle.std.proofs.lemmas.Result.{IfOk-weaker}
use Rattle.channel_model.specs.Pins.{IsChannel}
use Rattle.channel_model.specs.Wired.{Wired}
use Rattle.greedy_router.specs.Answers.{IsChannelRouted, IsWithinLimits}
use Rattle.greedy_router.specs.Begun.{begun_of}
use Rattle.greedy_router.specs.Runs.{routed_of}
use Rattle.greedy_router.specs.declared.sweep.Routed.{Routed}
use Rattle.greedy_router.proofs.RoutedLaws.{routed-wired, routed-within}
use Rattle.greedy_router.proofs.routing.route_with.Goals as goal

pub returns-clause-routed : goal.returns-clause-routed
returns-clause-routed g c =
    let pins = c.args.channel.now in
    let start = c.args.start in
    let limits = c.args.limits in
    let run = rw c.in_ok-surveyed.ensures at c.in_ok-run_columns.ensures in
    IfOk-weaker c.routed-2.result _ _ (λ routed is.
    subst
    (λ (r : Routed). IsChannelRouted start.manner (begun_of start.share pins) (g.C.Chooses.answers c.args.chooser.now) pins limits.tracks limits.extra r)
    (sym is) run.routed) c.routed-2.ensures

pub returns-clause-wired : goal.returns-clause-wired
returns-clause-wired g c =
    let pins = c.args.channel.now in
    let start = c.args.start in
    let is_channel : IsChannel pins = search rules in
    let run = rw c.in_ok-surveyed.ensures at c.in_ok-run_columns.ensures in
    IfOk-weaker c.routed-2.result _ _ (λ routed is.
    subst (λ (r : Routed). Wired pins r.wiring) (sym is)
    (routed-wired start.manner (begun_of start.share pins) (g.C.Chooses.answers c.args.chooser.now) pins c.args.limits.tracks c.args.limits.extra
    (routed_of c.in_ok-run_columns.field-0) is_channel run.routed)) c.routed-2.ensures

pub returns-clause-within : goal.returns-clause-within
returns-clause-within g c =
    let pins = c.args.channel.now in
    let start = c.args.start in
    let run = rw c.in_ok-surveyed.ensures at c.in_ok-run_columns.ensures in
    IfOk-weaker c.routed-2.result _ _ (λ routed is tracks columns.
    subst (λ (r : Routed). IsWithinLimits pins r.wiring) (sym is)
    (routed-within start.manner (begun_of start.share pins) (g.C.Chooses.answers c.args.chooser.now) pins c.args.limits.tracks c.args.limits.extra
    (routed_of c.in_ok-run_columns.field-0) tracks columns run.routed)) c.routed-2.ensures
