use Rattle.std.proofs.Common.{subst, sym}
use Rattle.std.proofs.lemmas.Result.{IfOk-weaker}
use Rattle.greedy_router.specs.Answers.{IsSwept}
use Rattle.greedy_router.specs.Begun.{begun_of}
use Rattle.greedy_router.specs.declared.sweep.Swept.{Swept}
use Rattle.greedy_router.proofs.RoutedLaws.{routed-swept}
use Rattle.greedy_router.proofs.sweeping.sweep_with.Goals as goal

pub returns-clause-swept : goal.returns-clause-swept
returns-clause-swept g c =
    let pins = c.args.channel.now in
    let start = c.args.start in
    let limits = c.args.limits in
    let ran = c.in_ok-run_columns.field-0 in
    let run = rw c.in_ok-surveyed.ensures at c.in_ok-run_columns.ensures in
    IfOk-weaker c.swept-2.result _ _ (λ swept is.
    subst (λ (s : Swept). IsSwept start.manner (begun_of start.share pins) (g.C.Chooses.answers c.args.chooser.now) pins limits.tracks limits.extra s)
    (sym is)
    (routed-swept start.manner (begun_of start.share pins) (g.C.Chooses.answers c.args.chooser.now) pins limits.tracks limits.extra ran.over ran.pins
    ran.sweep run.routed)) c.swept-2.ensures
