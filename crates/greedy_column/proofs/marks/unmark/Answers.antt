use Rattle.std.proofs.Common.{◌≡◌, ◌∷◌, List, rules}
use Rattle.greedy_column.specs.declared.span.Span.{Span}
use Rattle.greedy_column.proofs.MarkLaws.{MarksWithin-more}
use Rattle.greedy_column.proofs.marks.unmark.Goals as goal

pub loop-pair-preserved : goal.loop-pair-preserved
loop-pair-preserved c =
    let pair : Span = c.in-Some.pair.now in
    let others : List Span = c.in-Some.others.now in
    let cut : c.loop-pair.rest.now ≡ pair ∷ others = search rules in
    let was = rw cut at c.loop-pair.invariant in
    rw c.put.ensures (MarksWithin-more c.loop-pair.marks.items pair others was)
