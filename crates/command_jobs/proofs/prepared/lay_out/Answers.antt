use Rattle.std.proofs.Common.{◌≡◌, ◌∙◌, ℕ, None, Ok, Option, ap, ap₂, arith, sym}
use Rattle.command_ends.specs.Refusing.{unless}
use Rattle.command_ends.specs.declared.refusal.Refusal.{Refusal}
use Rattle.design_model.specs.Netlist.{Netlist}
use Rattle.pin_assign.specs.Tables.{tables_of}
use Rattle.command_jobs.specs.Job.{Job}
use Rattle.command_jobs.specs.Limits.{moves_refusal, within_limits}
use Rattle.command_jobs.specs.PreparedView.{RoutedJob}
use Rattle.command_jobs.specs.Text.{channels_of, rows_with_feeds}
use Rattle.command_jobs.specs.Tries.{job_of}
use Rattle.command_jobs.proofs.RoutedLaws.{told-routed}
use Rattle.command_jobs.proofs.SizeLaws.{unless-passed}
use Rattle.command_jobs.proofs.TryLaws.{layout-left, taken-first}
use Rattle.command_jobs.proofs.prepared.lay_out.Goals as goal

pub returns-in-Some-clause-taken : goal.returns-in-Some-clause-taken
returns-in-Some-clause-taken g c = taken-first c.args.rules c.args.designs c.args.wanted (omega (arith, c.get-tries.ensures.some, c.get-tries.ensures.is))

pub returns-in_err-annealed-clause-taken : goal.returns-in_err-annealed-clause-taken
returns-in_err-annealed-clause-taken g c = taken-first c.args.rules c.args.designs c.args.wanted (omega (arith, c.get-tries.ensures.some, c.get-tries.ensures.is))

pub returns-in_err-routed-clause-taken : goal.returns-in_err-routed-clause-taken
returns-in_err-routed-clause-taken g c = taken-first c.args.rules c.args.designs c.args.wanted (omega (arith, c.get-tries.ensures.some, c.get-tries.ensures.is))

pub returns-in_err-made-clause-taken : goal.returns-in_err-made-clause-taken
returns-in_err-made-clause-taken g c = taken-first c.args.rules c.args.designs c.args.wanted (omega (arith, c.get-tries.ensures.some, c.get-tries.ensures.is))

pub returns-clause-taken : goal.returns-clause-taken
returns-clause-taken g c = taken-first c.args.rules c.args.designs c.args.wanted (omega (arith, c.get-tries.ensures.some, c.get-tries.ensures.is))

pub returns-clause-made : goal.returns-clause-made
returns-clause-made g c =
    let job : Job = job_of c.args.rules c.args.designs c.args.wanted in
    let fed : c.in_ok-annealed.field-0.fed ≡ rows_with_feeds job = c.in_ok-annealed.ensures.placed.fed in
    let moves : moves_refusal c.args.rules job.placed job.tries ≡ None =
    ap₂ (λ (d : Netlist) (n : ℕ). moves_refusal c.args.rules d n) (sym c.placed.ensures) (sym c.get-tries.ensures.is) ∙ sym c.moves_refusal.ensures.is ∙ c.in_default.is in
    let passed : within_limits job ≡ Ok job =
    layout-left job c.in_ok-annealed.field-0.fed fed moves ∙ ap (λ (o : Option Refusal). unless o (Ok job)) (unless-passed _ _ _ c.in_ok-routed.ensures.made) in
    let same : c.in_ok-made.made.job ≡ job = ap (λ (p : RoutedJob). p.job) c.in_ok-made.ensures in
    passed ∙ ap Ok (sym same)

pub returns-clause-is : goal.returns-clause-is
returns-clause-is g c = ap (λ (p : RoutedJob). p.job) c.in_ok-made.ensures

pub returns-clause-kept : goal.returns-clause-kept
returns-clause-kept g c =
    let job : Job = job_of c.args.rules c.args.designs c.args.wanted in
    let fed : c.in_ok-annealed.field-0.fed ≡ rows_with_feeds job = c.in_ok-annealed.ensures.placed.fed in
    told-routed _ _ _ _ _ _ _ (ap (tables_of c.args.designs.drawn.design) fed ∙ ap (λ (p : RoutedJob). channels_of p.job) (sym c.in_ok-made.ensures))
    (ap (λ (p : RoutedJob). p.kept) c.in_ok-made.ensures) c.in_ok-routed.ensures.kept
