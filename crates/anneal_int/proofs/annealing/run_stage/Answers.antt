use Rattle.std.proofs.Common.{◌∙◌, List, ap, sym, arith, refl}
use Rattle.row_model.specs.declared.rows.Seat.{Seat}
use Rattle.anneal_int.proofs.annealing.run_stage.Goals as goal
use Rattle.anneal_int.proofs.StageLaws.{stage_none, stage_step}

pub loop-n-init : goal.loop-n-init
loop-n-init c =
    let start = c.args.spans.now in
    record {
      rows = ap (λ (r : List (List Seat)). record start { rows = r }) (sym (stage_none start.design start.weights c.args.draws.now.seed c.args.temperature start.rows c.args.draws.now.number));
      number = omega arith;
      seed = refl;
    }

pub loop-n-preserved : goal.loop-n-preserved
loop-n-preserved c = record {
  rows = stage_step c.args.spans.now c.loop-n.spans c.judge.new.spans c.args.draws.now.seed c.args.temperature c.args.draws.now.number c.loop-n._n c.loop-n.draws.seed c.loop-n.draws.number
      c.args.instances c.next.result.chance c.next.result.change c.loop-n.invariant.rows c.loop-n.invariant.seed c.loop-n.invariant.number c.requires.instances c.next.ensures.change
      c.next.ensures.chance c.judge.ensures;
  number = omega arith;
  seed = c.next.ensures.seed ∙ c.loop-n.invariant.seed;
}
