use Rattle.std.proofs.Common.{◌≡◌, [], length, false}
use Rattle.std.specs.Prelude.{is_some}
use Rattle.label_reader.specs.Defining.{passed}
use Rattle.label_reader.proofs.defining.passed.Given as goal

abbrev pub invariant-loop-place : goal.invariant-loop-place
invariant-loop-place l =
    (passed l.fn.commands l.expander l.left.items l.rest ≡ passed l.fn.commands l.fn.expander [] l.fn.places)
    × (is_some l.expander.state.inside ≡ false)

abbrev pub decreases-loop-place : goal.decreases-loop-place
decreases-loop-place l = length l.rest
