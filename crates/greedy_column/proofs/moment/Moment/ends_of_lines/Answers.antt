use Rattle.std.proofs.Common.{subst, List, ℕ}
use Rattle.greedy_column.specs.Follows.{AreEnded}
use Rattle.greedy_column.proofs.moment.Moment.ends_of_lines.Goals as goal

pub returns-clause-lines : goal.returns-clause-lines
returns-clause-lines g c =
    subst (λ (l : List ℕ). AreEnded c.args.paired.now.tracks.now l c.in_ok-ids.ids.items) c.deref.ensures.value c.in_ok-ids.ensures

pub returns-clause-told : goal.returns-clause-told
returns-clause-told g c = record {
  ending = c.in_ok-lines.lines.items;
  follow = c.in_ok-lines.ensures;
  told = returns-clause-lines g c;
}
