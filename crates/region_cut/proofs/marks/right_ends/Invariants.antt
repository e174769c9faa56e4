use Rattle.std.proofs.Common.{◌≡◌, ◌<◌, ◌+◌, ◌-◌, ◌||◌, ℕ, length, take}
use Rattle.std.specs.List.{list_any}
use Rattle.std.specs.Prelude.{int_le}
use Rattle.region_cut.specs.Covered.{covers}
use Rattle.region_cut.specs.Grids.{line}
use Rattle.region_cut.proofs.marks.right_ends.Given as goal

abbrev pub invariant-loop-rect : goal.invariant-loop-rect
invariant-loop-rect l = record {
  long : length l.ends.items ≡ length l.across;
  reached : (k : ℕ) → k < length l.across - 1
      → (list_any (covers (line l.across k) (line l.across (k + 1)) l.heights.low l.heights.high) l.rest || list_any (int_le (line l.across (k + 1))) (take (k + 1) l.ends.items))
      ≡ list_any (covers (line l.across k) (line l.across (k + 1)) l.heights.low l.heights.high) l.rects;
}

abbrev pub decreases-loop-rect : goal.decreases-loop-rect
decreases-loop-rect l = length l.rest
