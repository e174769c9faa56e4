use Rattle.std.proofs.Common.{rules, ◌≡◌, ℕ, List, ap, ap₂, subst, sym, ◌∙◌, map}
use Rattle.channel_stack.specs.Layouts.{layout_of}
use Rattle.channel_stack.specs.Routed.{AreWired, IsRouted}
use Rattle.channel_stack.specs.Stack.{laid_of, stack_of}
use Rattle.design_model.specs.Good.{Good}
use Rattle.greedy_router.specs.declared.sweep.Routed.{Routed}
use Rattle.tech_rules.specs.Rules.{ValidRules}
use Rattle.command_jobs.specs.Summarized.{line_of_channel, taken_among}
use Rattle.command_jobs.specs.Text.{wirings_of}
use Rattle.command_jobs.specs.Tries.{job_of}
use Rattle.command_jobs.proofs.PortCells.{ports-stand}
use Rattle.command_jobs.proofs.SummaryLaws.{summary-from}
use Rattle.command_jobs.proofs.prepared.ready.Goals as goal

pub lay-requires-clause-routed : goal.lay-requires-clause-routed
lay-requires-clause-routed c =
    subst (λ (l : List Routed). IsRouted c.args.rules c.args.designs.drawn.design c.args.fed (wirings_of l)) (sym c.as_slice-wirings.ensures.value) c.requires.rows.routed

pub invariant_of-result : goal.invariant_of-result
invariant_of-result c =
    let r = c.args.rules in
    let d = c.args.designs.drawn.design in
    let job = job_of c.args.rules c.args.designs c.args.wanted in
    let fed = c.args.fed in
    let kept = c.args.rows.routed.items in
    let slice = c.as_slice-wirings.ensures.value in
    let laid : c.in_ok-laid.laid ≡ laid_of (stack_of r d fed (wirings_of kept)) = rw slice at c.in_ok-laid.ensures.laid in
    record {
      valid = subst ValidRules c.rules.view_is c.rules.invariant;
      high = c.requires.high;
      rows = c.requires.rows;
      laid = laid;
      good = subst (λ (l : List Routed). Good r d (layout_of r d (stack_of r d fed (wirings_of l)))) slice
          (c.in_ok-laid.ensures.good c.requires.high (subst (λ (l : List Routed). AreWired d fed (wirings_of l)) (sym slice) c.requires.rows.wired));
      edges = ports-stand job fed kept (subst ValidRules c.rules.view_is c.rules.invariant) (search rules) c.requires.high c.requires.rows;
      told = c.summarized-summary.ensures
          ∙ summary-from job fed c.args.annealed.cost kept c.in_ok-lines.lines.items c.in_ok-laid.laid (taken_among job.tries c.args.annealed.rows c.args.annealed.seed) c.requires.rows.is
          c.requires.cost (c.in_ok-lines.ensures ∙ ap (map (line_of_channel fed.width)) slice) laid
          (ap₂ (λ (rows seed : ℕ). taken_among job.tries rows seed) c.requires.count c.requires.seed);
      symbols = c.in_ok-symbols.ensures.drawings;
      feeds = c.in_ok-symbols.ensures.heights;
      labels = c.in_ok-first_pins.ensures.given;
      first = c.in_ok-first_pins.ensures.first;
    }
