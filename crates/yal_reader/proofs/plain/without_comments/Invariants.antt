use Rattle.std.proofs.Common.{◌≡◌, length, None}
use Rattle.yal_reader.specs.Text.{uncommented, with_text}
use Rattle.yal_reader.proofs.plain.without_comments.Given as goal

abbrev pub invariant-loop-byte : goal.invariant-loop-byte
invariant-loop-byte l = with_text l.text.items (uncommented None l.rest) ≡ uncommented None l.bytes

abbrev pub decreases-loop-byte : goal.decreases-loop-byte
decreases-loop-byte l = length l.rest
