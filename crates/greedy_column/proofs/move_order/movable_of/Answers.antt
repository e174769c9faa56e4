use Rattle.std.proofs.Common.{◌++◌, ◌∙◌, ℕ, List, ap, arith}
use Rattle.greedy_column.proofs.StretchLaws.{in_none, movable_from, movable_from-all}
use Rattle.greedy_column.proofs.move_order.movable_of.Goals as goal

pub loop-track-init : goal.loop-track-init
loop-track-init c = record {
  room = omega (arith, c.in_ok-lines.ensures.len, c.in_ok-lines.ensures.capacity);
  counted = omega arith;
  stretch = λ net line fits foreign within. absurd (in_none line within);
  so_far = ap (λ (l : List ℕ). l ++ movable_from c.args.spans.now c.args.free.now 1 c.args.kept.now) c.in_ok-lines.ensures.items
      ∙ movable_from-all c.args.spans.now c.args.free.now c.args.kept.now;
}
