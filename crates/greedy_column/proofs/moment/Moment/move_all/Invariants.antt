use Rattle.std.proofs.Common.{◌≡◌, ◌++◌, ℕ, List, length, map}
use Rattle.greedy_column.specs.Uses.{next_after}
use Rattle.greedy_column.specs.Moving.{MovesFollow, move_ids}
use Rattle.greedy_column.specs.Replay.{moved}
use Rattle.greedy_column.proofs.moment.Moment.move_all.Given as goal

abbrev pub invariant-loop-line : goal.invariant-loop-line
invariant-loop-line g l = record {
  carried : l.kept ≡ moved (map (move_ids l.tracks) l.moves.items) l.fn.kept;
  so_far : (later : List (ℕ × ℕ))
      → MovesFollow (g.C.Chooses.answers l.self.chooser.now) (next_after l.self.ahead.now.uses.items l.self.column) l.tracks l.kept l.rest l.spans.items l.free later
      → MovesFollow (g.C.Chooses.answers l.self.chooser.now) (next_after l.self.ahead.now.uses.items l.self.column) l.tracks l.fn.kept l.lines l.fn.spans.items l.fn.free
      (l.moves.items ++ later);
}

abbrev pub decreases-loop-line : goal.decreases-loop-line
decreases-loop-line g l = length l.rest
