use Rattle.std.proofs.Common.{◌≡◌, ◌+◌, length}
use Rattle.greedy_column.specs.Uses.{next_after}
use Rattle.greedy_column.specs.Ending.{joined_pairs}
use Rattle.greedy_column.specs.Lines.{is_held, lines_from}
use Rattle.greedy_column.proofs.EndLaws.{EndsSoFar}
use Rattle.greedy_column.proofs.moment.Moment.ends_of_groups.Given as goal

abbrev pub invariant-loop-track : goal.invariant-loop-track
invariant-loop-track g l = record {
  counted : l.line + length l.rest ≡ 1 + length l.paired.tracks.now;
  so_far : EndsSoFar (g.C.Chooses.answers l.self.chooser.now) (next_after l.self.ahead.now.uses.items l.self.column) l.paired.tracks.now l.spans
      (joined_pairs l.spans l.paired.pairs) (lines_from is_held l.line l.rest) l.ending.items;
}

abbrev pub decreases-loop-track : goal.decreases-loop-track
decreases-loop-track g l = length l.rest
