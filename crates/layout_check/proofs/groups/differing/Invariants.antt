use Rattle.std.proofs.Common.{◌≡◌, ◌<◌, ℕ, Some, length, take}
use Rattle.std.specs.Prelude.{slice_index}
use Rattle.std.specs.List.{slice_get, zip}
use Rattle.rule_check.specs.Failing.{failing}
use Rattle.layout_check.specs.Groups.{differs_from}
use Rattle.layout_check.proofs.groups.differing.Given as goal

abbrev pub invariant-loop-k : goal.invariant-loop-k
invariant-loop-k l =
    (n : ℕ) → n < length l.firsts → slice_get l.lists n ≡ Some (failing (differs_from n (slice_index l.kinds n)) (take l.k (zip l.firsts l.kinds)))
