use Rattle.std.proofs.Common.{◌≡◌, [], ◌∷◌, length}
use Rattle.std.specs.BTreeSet.{insert_key}
use Rattle.std.specs.List.{flat_map, fold}
use Rattle.std.specs.Ordering.{int_cmp}
use Rattle.region_cut.specs.Covered.{sides_up}
use Rattle.region_cut.proofs.lines.sides_up.Given as goal

abbrev pub invariant-loop-rect : goal.invariant-loop-rect
invariant-loop-rect l = fold (insert_key int_cmp) l.found.keys (flat_map (λ r. r.y0 ∷ (r.y1 ∷ [])) l.rest) ≡ sides_up l.rects

abbrev pub decreases-loop-rect : goal.decreases-loop-rect
decreases-loop-rect l = length l.rest
