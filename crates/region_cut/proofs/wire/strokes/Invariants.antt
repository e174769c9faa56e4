use Rattle.std.proofs.Common.{◌≡◌, ◌++◌, map, length}
use Rattle.std.specs.List.{AllByRecursion}
use Rattle.region_cut.specs.Steps.{steps_from}
use Rattle.region_cut.specs.Strokes.{IsCornerInReach, stroke, strokes}
use Rattle.region_cut.proofs.wire.strokes.Given as goal

abbrev pub invariant-loop-next : goal.invariant-loop-next
invariant-loop-next l = record {
  made : l.rects.items ++ map (stroke l.half) (steps_from l.here l.rest) ≡ strokes l.half l.fn.path;
  here : IsCornerInReach l.here;
  rest : AllByRecursion IsCornerInReach l.rest;
}

abbrev pub decreases-loop-next : goal.decreases-loop-next
decreases-loop-next l = length l.rest
