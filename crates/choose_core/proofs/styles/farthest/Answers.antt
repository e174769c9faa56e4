use Rattle.std.proofs.Common.{◌+◌, true, refl, arith, subst, sym}
use Rattle.choose_core.specs.Styles.{gap_of}
use Rattle.choose_core.proofs.Best.{IsFarthestOf, farthest-began, farthest-further, farthest-kept, farthest-of-all, keyed, passing}
use Rattle.choose_core.proofs.styles.farthest.Goals as goal
use Rattle.choose_core.proofs.styles.farthest.Goals.{then-list-place, else-list-place}

pub loop-place-init : goal.loop-place-init
loop-place-init c = farthest-began (passing (λ _. true) c.args.list.now) (keyed gap_of c.args.list.now) 0 refl (λ other low. absurd (omega arith))

pub loop-place-preserved : goal.loop-place-preserved
loop-place-preserved c =
    let list = c.args.list.now in
    elim c.if-list-place.branch [
      | then-list-place w ↦ subst (λ best. IsFarthestOf (passing (λ _. true) list) (keyed gap_of list) (c.loop-place.place + 1) best) (sym w.best-is)
          (farthest-further (passing (λ _. true) list) (keyed gap_of list) c.loop-place.place c.loop-place.best c.loop-place.invariant refl (omega (arith, w.if-list-place)))
      | else-list-place w ↦ subst (λ best. IsFarthestOf (passing (λ _. true) list) (keyed gap_of list) (c.loop-place.place + 1) best) (sym w.best-is)
          (farthest-kept (passing (λ _. true) list) (keyed gap_of list) c.loop-place.place c.loop-place.best c.loop-place.invariant (λ passes. omega (arith, w.if-list-place)))
    ]

pub returns : goal.returns
returns c = farthest-of-all (λ _. true) gap_of c.args.list.now c.loop-place.place c.loop-place.best (omega arith) c.loop-place.invariant
