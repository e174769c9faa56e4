use Rattle.std.proofs.Common.{◌≡◌, ◌≤◌, length}
use Rattle.read_base.specs.Digits.{number_behind}
use Rattle.read_base.proofs.digits.number_behind.Given as goal

abbrev pub invariant-loop-byte : goal.invariant-loop-byte
invariant-loop-byte l = (number_behind l.most l.n l.rest ≡ number_behind l.most l.before l.digits) × (l.n ≤ l.most)

abbrev pub decreases-loop-byte : goal.decreases-loop-byte
decreases-loop-byte l = length l.rest
