use Rattle.std.proofs.Common.{arith}
use Rattle.std.proofs.lemmas.List.Quantifiers.{position-Some}
use Rattle.choose_core.specs.Styles.{gap_of, is_own}
use Rattle.choose_core.proofs.Best.{farthest-began, farthest-of-all, keyed, nobody, passing}
use Rattle.choose_core.proofs.styles.farthest_own.Goals as goal

pub loop-place-init : goal.loop-place-init
loop-place-init c =
    let list = c.args.list.now in
    let at = position-Some is_own list c.args.first nobody c.requires in
    farthest-began (passing is_own list) (keyed gap_of list) c.args.first at.1 at.2

pub returns : goal.returns
returns c =
    let list = c.args.list.now in
    let at = position-Some is_own list c.args.first nobody c.requires in
    farthest-of-all is_own gap_of list c.loop-place.place c.loop-place.best (omega (arith, at.0)) c.loop-place.invariant
