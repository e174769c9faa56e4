use Rattle.std.proofs.Common.{◌≡◌, ◌∷◌, List, rules, ◌∙◌}
use Rattle.greedy_column.specs.declared.column.Column.{Column}
use Rattle.greedy_router.proofs.ColumnsLaws.{alike-push, columns-push}
use Rattle.greedy_router.proofs.columns.Columns.pack.Goals as goal

pub loop-column-preserved : goal.loop-column-preserved
loop-column-preserved c =
    let done : Column = c.in-Some.column.now in
    let later : List Column = c.in-Some.later.now in
    let cut : c.loop-column.rest.now ≡ done ∷ later = search rules in
    let kept = rw cut at c.loop-column.invariant in
    let parts = c.loop-column.parts in
    let new = c.push.new.self in
    let made = c.in_ok-push.ensures in
    record {
      alike = alike-push parts new done kept.alike made.entered made.made made.joins made.ended made.moves;
      whole = columns-push parts new done kept.alike made.entered made.made made.joins made.ended made.moves later ∙ kept.whole;
    }
