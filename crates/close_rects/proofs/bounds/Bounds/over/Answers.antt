use Rattle.close_rects.proofs.bounds.Bounds.over.Goals as goal
use Rattle.std.proofs.Common.{rules}
use Rattle.std_laws.proofs.Integers.{read_below, read_above}

pub returns-clause-first : goal.returns-clause-first
returns-clause-first c = rw (← c.self.view_is) (record {
  left = read_below _ _ (search rules) (search rules) c.min.ensures.self_bound;
  low = read_below _ _ (search rules) (search rules) c.min-2.ensures.self_bound;
  right = read_above _ _ (search rules) (search rules) c.max.ensures.self_bound;
  high = read_above _ _ (search rules) (search rules) c.max-2.ensures.self_bound;
})

pub returns-clause-second : goal.returns-clause-second
returns-clause-second c = rw (← c.other.view_is) (record {
  left = read_below _ _ (search rules) (search rules) c.min.ensures.other_bound;
  low = read_below _ _ (search rules) (search rules) c.min-2.ensures.other_bound;
  right = read_above _ _ (search rules) (search rules) c.max.ensures.other_bound;
  high = read_above _ _ (search rules) (search rules) c.max-2.ensures.other_bound;
})
