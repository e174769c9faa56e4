use Rattle.std.proofs.Common.{◌≡◌, [], ◌∷◌, length}
use Rattle.std.specs.BTreeSet.{insert_key}
use Rattle.std.specs.List.{AllByRecursion, flat_map, fold}
use Rattle.std.specs.Ordering.{int_cmp}
use Rattle.region_cut.specs.Covered.{HasArea, sides_across}
use Rattle.region_cut.proofs.lines.sides_across.Given as goal

abbrev pub invariant-loop-rect : goal.invariant-loop-rect
invariant-loop-rect l = record {
  made : fold (insert_key int_cmp) l.found.keys (flat_map (λ r. r.x0 ∷ (r.x1 ∷ [])) l.rest) ≡ sides_across l.rects;
  areas : AllByRecursion HasArea l.rest → AllByRecursion HasArea l.rects;
}

abbrev pub decreases-loop-rect : goal.decreases-loop-rect
decreases-loop-rect l = length l.rest
