use Rattle.std.proofs.Common.{◌%◌}
use Rattle.greedy_column.proofs.StretchLaws.{noted_all}
use Rattle.greedy_column.proofs.stretch.remainders_of.Goals as goal

pub returns-then-vertical : goal.returns-then-vertical
returns-then-vertical c = λ net none. absurd (cc (noted_all 64 (net % 64), none))
