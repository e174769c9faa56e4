use Rattle.std.proofs.Common.{◌≡◌, length}
use Rattle.yal_reader.specs.Text.{ascii}
use Rattle.yal_reader.proofs.plain.check_ascii.Given as goal

abbrev pub invariant-loop-byte : goal.invariant-loop-byte
invariant-loop-byte l = ascii l.rest ≡ ascii l.bytes

abbrev pub decreases-loop-byte : goal.decreases-loop-byte
decreases-loop-byte l = length l.rest
