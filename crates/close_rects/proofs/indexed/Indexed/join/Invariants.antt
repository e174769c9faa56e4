use Rattle.std.proofs.Common.{◌-◌, ◌*◌, ◌<◌, ◌≤◌, length}
use Rattle.close_rects.specs.Blocks.{Covers}
use Rattle.close_rects.proofs.indexed.Indexed.join.Given as goal

abbrev pub invariant-loop-next : goal.invariant-loop-next
invariant-loop-next l = record {
  on : l.b < l.next;
  within : l.next ≤ length l.self-inside.nodes.items;
  all : Covers l.self-inside.items (8 * l.b) (8 * l.next) l.all;
}

abbrev pub decreases-loop-next : goal.decreases-loop-next
decreases-loop-next l = l.end - l.next
