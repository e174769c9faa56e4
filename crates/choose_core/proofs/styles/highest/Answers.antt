use Rattle.std.proofs.Common.{◌+◌, arith, subst, sym}
use Rattle.choose_core.specs.Styles.{track_of}
use Rattle.choose_core.proofs.Best.{IsLastOf, last-began, last-further, last-kept, last-of-all, keyed}
use Rattle.choose_core.proofs.styles.highest.Goals as goal
use Rattle.choose_core.proofs.styles.highest.Goals.{then-list-place, else-list-place}

pub loop-place-init : goal.loop-place-init
loop-place-init c = last-began (keyed track_of c.args.list.now)

pub loop-place-preserved : goal.loop-place-preserved
loop-place-preserved c = elim c.if-list-place.branch [
  | then-list-place w ↦ subst (λ best. IsLastOf (keyed track_of c.args.list.now) (c.loop-place.place + 1) best) (sym w.best-is)
      (last-further (keyed track_of c.args.list.now) c.loop-place.place c.loop-place.best c.loop-place.invariant (omega (arith, w.if-list-place)))
  | else-list-place w ↦ subst (λ best. IsLastOf (keyed track_of c.args.list.now) (c.loop-place.place + 1) best) (sym w.best-is)
      (last-kept (keyed track_of c.args.list.now) c.loop-place.place c.loop-place.best c.loop-place.invariant (omega (arith, w.if-list-place)))
]

pub returns : goal.returns
returns c = last-of-all track_of c.args.list.now c.loop-place.place c.loop-place.best (omega arith) c.loop-place.invariant
