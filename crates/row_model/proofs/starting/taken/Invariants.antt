use Rattle.std.proofs.Common.{◌≡◌, ◌+◌, ◌-◌}
use Rattle.row_model.specs.Start.{taken}
use Rattle.row_model.proofs.starting.taken.Given as goal

abbrev pub invariant-loop-n : goal.invariant-loop-n
invariant-loop-n l = l.n + taken l.design l.wanted (l.first + l.n) (l.count - l.n) ≡ taken l.design l.target l.first l.count
