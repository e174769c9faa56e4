use Rattle.std.proofs.Common.{◌≡◌, ◌-◌, ◌*◌, ◌<◌, ◌≤◌, ℕ, Some, length}
use Rattle.close_rects.specs.Kins.{AreOfClass}
use Rattle.close_rects.proofs.crowd.Crowd.join.Given as goal

abbrev pub invariant-loop-next : goal.invariant-loop-next
invariant-loop-next l = record {
  on : l.b < l.next;
  within : l.next ≤ length l.self-inside.kins.items;
  all : (class : ℕ) → l.all ≡ Some class → AreOfClass l.self-inside.members l.self-inside.indexed (8 * l.b) (8 * l.next) class;
}

abbrev pub decreases-loop-next : goal.decreases-loop-next
decreases-loop-next l = l.end - l.next
