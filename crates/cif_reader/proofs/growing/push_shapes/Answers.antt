use Rattle.std.proofs.Common.{arith}
use Rattle.cif_reader.proofs.GrowingLemmas.{grows-next}
use Rattle.cif_reader.proofs.growing.push_shapes.Goals as goal

pub loop-shape-preserved : goal.loop-shape-preserved
loop-shape-preserved c =
    let few = rw c.in-Some.ensures.cases.0 at c.loop-shape.invariant.0 in
    let more = rw c.in-Some.ensures.cases.0 at c.loop-shape.invariant.1 in
    let has = c.in_ok-push_item.ensures in (
      omega (arith, few, has.count_is),
      grows-next c.args.kept.now c.loop-shape.kept c.push_item.new.kept c.args.shapes.now c.in-Some.after.now c.in-Some.shape.now c.args.depth more has (omega (arith, few)),
    )
