use Rattle.std.proofs.Common.{◌≡◌, ◌*◌, ◌∙◌, ◌<◌, ℕ, List, ap, sym, arith}
use Rattle.row_model.specs.declared.rows.Seat.{Seat}
use Rattle.anneal_int.specs.Annealed.{after_changes, stage_changes}
use Rattle.anneal_int.specs.Cooling.{cooler}
use Rattle.anneal_int.specs.Schedule.{Annealing}
use Rattle.anneal_int.proofs.annealing.run.Goals as goal
use Rattle.anneal_int.proofs.StageLaws.{changes_none, run_step, stage_few, stages_all, temperature_first, temperature_more}

pub loop-stage-init : goal.loop-stage-init
loop-stage-init g c =
    let d = c.args.design.now in
    let s = c.args.schedule.now in
    let start = c.args.spans.now in
    let none : 0 * stage_changes d s ≡ 0 = omega arith in
    record {
      rows = ap (λ (r : List (List Seat)). record start { rows = r }) (sym (ap (after_changes d s c.args.seed start.rows) none ∙ changes_none d s c.args.seed start.rows));
      number = c.new-draws.ensures.number ∙ sym none;
      seed = c.new-draws.ensures.seed;
      goes = g.met.W.Watch.goes_here c.args.watch.now;
      temperature = c.first-temperature.ensures ∙ sym (temperature_first s.temperature);
    }

pub run_stage-requires-clause-few : goal.run_stage-requires-clause-few
run_stage-requires-clause-few g c =
    let all : c.schedule.inside.stages ≡ c.args.schedule.now.stages = ap (λ (a : Annealing). a.stages) c.schedule.view_is in
    let less : c.loop-stage.stage < c.args.schedule.now.stages = omega arith in
    let few = stage_few c.args.design.now c.args.schedule.now c.loop-stage.stage 50000000 less c.requires.few in
    omega arith

pub loop-stage-preserved : goal.loop-stage-preserved
loop-stage-preserved g c = record {
  rows = run_step c.args.spans.now c.loop-stage.spans c.run_stage.new.spans c.args.design.now c.args.schedule.now c.args.seed c.loop-stage.stage c.loop-stage.temperature c.loop-stage.draws.seed
      c.loop-stage.draws.number c.stage_changes-count.result c.requires.design c.requires.weights c.loop-stage.invariant.rows c.loop-stage.invariant.seed c.loop-stage.invariant.number
      c.stage_changes-count.ensures.is c.loop-stage.invariant.temperature c.run_stage.ensures.rows;
  number = omega (arith, c.run_stage.ensures.number, c.loop-stage.invariant.number, c.stage_changes-count.ensures.is);
  seed = c.run_stage.ensures.seed ∙ c.loop-stage.invariant.seed;
  goes = g.met.W.Watch.goes_then _ _ _ c.loop-stage.invariant.goes c.told.ensures;
  temperature = c.cooler-temperature.ensures ∙ ap cooler c.loop-stage.invariant.temperature ∙ sym (temperature_more c.args.schedule.now.temperature c.loop-stage.stage);
}

pub returns-clause-rows : goal.returns-clause-rows
returns-clause-rows g c =
    let d = c.args.design.now in
    let s = c.args.schedule.now in
    let start = c.args.spans.now in
    let last : c.schedule.inside.stages ≡ s.stages = ap (λ (a : Annealing). a.stages) c.schedule.view_is in
    let all : c.loop-stage.stage ≡ s.stages = omega arith in
    c.loop-stage.invariant.rows ∙ ap (λ (n : ℕ). record start { rows = after_changes d s c.args.seed start.rows n }) (stages_all d s c.loop-stage.stage all)
