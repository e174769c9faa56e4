use Rattle.std.proofs.Common.{◌≡◌, length}
use Rattle.std.specs.Prelude.{find}
use Rattle.label_reader.specs.Tops.{is_of}
use Rattle.label_reader.proofs.tops.definition_of.Given as goal

abbrev pub invariant-loop-place : goal.invariant-loop-place
invariant-loop-place l = find (is_of l.fn.commands l.fn.n) l.rest ≡ find (is_of l.fn.commands l.fn.n) l.fn.places

abbrev pub decreases-loop-place : goal.decreases-loop-place
decreases-loop-place l = length l.rest
