use Rattle.std.proofs.Common.{sym, ◌∙◌, subst}
use Rattle.row_model.specs.Rows.{ArePlaced, AreRows}
use Rattle.row_model.specs.Start.{start_rows}
use Rattle.row_model.proofs.PlacedLaws.{placed-distinct}
use Rattle.row_model.proofs.CountedLaws.{start-placed}
use Rattle.row_model.proofs.starting.start.Goals as goal

pub new-requires-2 : goal.new-requires-2
new-requires-2 c =
    let d = c.args.design.now in
    subst AreRows (sym (c.new.ensures ∙ c.in_ok-start_seats.ensures))
    (placed-distinct d (start_rows c.args.by d c.args.rows) (start-placed c.args.by d c.args.rows c.requires.some c.requires.few))

pub returns-clause-placed : goal.returns-clause-placed
returns-clause-placed c =
    let d = c.args.design.now in
    subst (ArePlaced d) (sym (c.new-2.ensures ∙ c.new.ensures ∙ c.in_ok-start_seats.ensures)) (start-placed c.args.by d c.args.rows c.requires.some c.requires.few)
