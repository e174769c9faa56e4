use Rattle.std.proofs.Common.{◌≡◌, ◌++◌, length}
use Rattle.blif_reader.specs.Text.{cleaned}
use Rattle.blif_reader.specs.declared.plain.Within.TheVariants.{Line}
use Rattle.blif_reader.proofs.plain.without_comments.Given as goal

abbrev pub invariant-loop-byte : goal.invariant-loop-byte
invariant-loop-byte l = l.text.items ++ cleaned l.within l.rest ≡ cleaned Line l.bytes

abbrev pub decreases-loop-byte : goal.decreases-loop-byte
decreases-loop-byte l = length l.rest
