use Rattle.std.proofs.Common.{◌<◌, length}
use Rattle.column_tests.proofs.chooser_tests.nearest.Given as goal

abbrev pub invariant-loop-place : goal.invariant-loop-place
invariant-loop-place l = l.best < length l.list
