use Rattle.anneal_int.proofs.annealing.judge.Goals as goal
use Rattle.anneal_int.proofs.StageLaws.{judged_within}

pub returns : goal.returns
returns c = judged_within c.args.spans.now c.make_within.new.spans c.args.temperature c.args.drawn.chance c.greatest_rise.result c.args.drawn.change c.make_within.result c.greatest_rise.ensures c.make_within.ensures.is c.make_within.ensures.done c.make_within.ensures.left
