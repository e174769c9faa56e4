use Rattle.row_board.proofs.seats.put_at.Goals as goal
use Rattle.std.proofs.Common.{◌≡◌, List, Some, ap, ◌∙◌, length, get_or, set}
use Rattle.std.proofs.lemmas.List.{length-set}
use Rattle.std.proofs.lemmas.Option.{slice_get-get_or}
use Rattle.std.specs.List.{slice_get}
use Rattle.row_model.specs.declared.rows.Seat.{Seat}
use Rattle.row_board.proofs.StandingLaws.{row-past, row-put}
use Rattle.std_laws.proofs.Slices.{overwritten-same}

pub returns-then-n-rows : goal.returns-then-n-rows
returns-then-n-rows c =
    let there : List Seat = get_or c.args.rows.now c.args.row c.index-rows-n.result in
    let new : List Seat = c.put_seat.new.seats in
    let at : slice_get c.args.rows.now c.args.row ≡ Some there = slice_get-get_or c.args.rows.now c.args.row c.index-rows-n.result c.if-n-rows.true in
    let made : new ≡ set there c.args.place c.args.seat = c.put_seat.ensures ∙ ap (λ (l : List Seat). set l c.args.place c.args.seat) c.items_mut.ensures.value in
    λ r. row-put c.args.rows.now c.args.row c.args.place c.args.seat there _ c.if-n-rows.true at
    (overwritten-same new there (ap length made ∙ length-set there c.args.place c.args.seat) ∙ made) r

pub returns-else-n-rows : goal.returns-else-n-rows
returns-else-n-rows c = row-past c.args.rows.now c.args.row c.args.place c.args.seat c.if-n-rows.false
