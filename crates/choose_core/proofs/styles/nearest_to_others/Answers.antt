use Rattle.std.proofs.Common.{◌+◌, arith, subst, sym}
use Rattle.choose_core.specs.Styles.{pull_of}
use Rattle.choose_core.proofs.Best.{IsFirstOf, first-began, first-nearer, first-kept, first-of-all, keyed}
use Rattle.choose_core.proofs.styles.nearest_to_others.Goals as goal
use Rattle.choose_core.proofs.styles.nearest_to_others.Goals.{then-list-place, else-list-place}

pub loop-place-init : goal.loop-place-init
loop-place-init c = first-began (keyed pull_of c.args.list.now)

pub loop-place-preserved : goal.loop-place-preserved
loop-place-preserved c = elim c.if-list-place.branch [
  | then-list-place w ↦ subst (λ best. IsFirstOf (keyed pull_of c.args.list.now) (c.loop-place.place + 1) best) (sym w.best-is)
      (first-nearer (keyed pull_of c.args.list.now) c.loop-place.place c.loop-place.best c.loop-place.invariant (omega (arith, w.if-list-place)))
  | else-list-place w ↦ subst (λ best. IsFirstOf (keyed pull_of c.args.list.now) (c.loop-place.place + 1) best) (sym w.best-is)
      (first-kept (keyed pull_of c.args.list.now) c.loop-place.place c.loop-place.best c.loop-place.invariant (omega (arith, w.if-list-place)))
]

pub returns : goal.returns
returns c = first-of-all pull_of c.args.list.now c.loop-place.place c.loop-place.best (omega arith) c.loop-place.invariant
