use Rattle.std.proofs.Common.{List, sym, subst, ◌∙◌}
use Rattle.row_model.specs.Rows.{ArePlaced, AreRows}
use Rattle.row_model.specs.declared.rows.Seat.{Seat}
use Rattle.layout_tests.proofs.MirrorLaws.{turned_distinct, turned_placed}
use Rattle.layout_tests.proofs.mirror.mirrored.Goals as goal

pub new-requires-2 : goal.new-requires-2
new-requires-2 c =
    subst (λ (rows : List (List Seat)). AreRows rows) (sym (c.new.ensures ∙ c.in_ok-made.ensures))
    (turned_distinct c.items.result.now (subst (λ (rows : List (List Seat)). AreRows rows) (sym c.items.ensures) c.rows.invariant))

pub returns-clause-placed : goal.returns-clause-placed
returns-clause-placed c = λ d placed.
    subst (λ (rows : List (List Seat)). ArePlaced d rows) (sym (c.new-2.ensures ∙ c.new.ensures ∙ c.in_ok-made.ensures))
    (turned_placed d c.items.result.now (subst (λ (rows : List (List Seat)). ArePlaced d rows) (sym (c.items.ensures ∙ c.rows.view_is)) placed))
