use Rattle.std.proofs.Common.{◌≡◌, ◌++◌, take}
use Rattle.close_rects.specs.Kins.{pairs_of}
use Rattle.close_rects.proofs.crowding.add_pairs.Given as goal

abbrev pub invariant-loop-place : goal.invariant-loop-place
invariant-loop-place l = l.pairs.items ≡ l.fn.pairs.items ++ pairs_of l.members l.number (take l.place-index l.place-items)
