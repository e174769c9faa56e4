use Rattle.std.proofs.Common.{◌≡◌, ◌≤◌, length, Some}
use Rattle.yal_reader.specs.Text.{uncommented, with_text}
use Rattle.yal_reader.proofs.plain.pass_comment.Given as goal

abbrev pub invariant-loop-after : goal.invariant-loop-after
invariant-loop-after l = (with_text l.fn.text.items (uncommented (Some l.left) l.bytes) ≡ with_text l.text.items (uncommented (Some l.left) l.rest)) × (length l.rest ≤ length l.bytes)

abbrev pub decreases-loop-after : goal.decreases-loop-after
decreases-loop-after l = length l.rest
