use Rattle.std.proofs.Common.{sym, ap, ◌∙◌}
use Rattle.std.proofs.lemmas.Option.{slice_get-get_or, slice_get_past}
use Rattle.greedy_column.specs.Uses.{next_at}
use Rattle.greedy_column.proofs.AheadLaws.{next_after-at}
use Rattle.greedy_column.proofs.uses.first_behind.Goals as goal

pub returns-then-place-uses : goal.returns-then-place-uses
returns-then-place-uses c =
    let uses = c.args.uses.now in
    let place = c.place_behind-place in
    ap (next_at c.args.net) (sym (slice_get-get_or uses place.result _ c.if-place-uses.true))
    ∙ sym (next_after-at uses c.args.column c.args.net place.result c.requires place.ensures.before place.ensures.behind)

pub returns-else-place-uses : goal.returns-else-place-uses
returns-else-place-uses c =
    let uses = c.args.uses.now in
    let place = c.place_behind-place in
    ap (next_at c.args.net) (sym (slice_get_past uses place.result c.if-place-uses.false))
    ∙ sym (next_after-at uses c.args.column c.args.net place.result c.requires place.ensures.before place.ensures.behind)
