use Rattle.std.proofs.Common.{false, refl, arith, ◌∙◌}
use Rattle.row_board.proofs.StandingLaws.{entered-step}
use Rattle.row_board.proofs.building.enter_row.Goals as goal

pub loop-place-preserved : goal.loop-place-preserved
loop-place-preserved c =
    entered-step c.args.design.now c.args.row 0 c.loop-place.place c.args.seats.now c.loop-place.left c.from-left.result c.args.standings.now c.loop-place.standings _ (record { instance = 0; mirror = false })
    c.loop-place.invariant c.requires.apart (omega arith) (omega arith) (c.from-left.ensures ∙ c.columns_of.ensures.width) (omega (arith, c.from-left.ensures, c.columns_of.ensures.few)) refl
