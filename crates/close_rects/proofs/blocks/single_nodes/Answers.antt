use Rattle.std.proofs.Common.{arith, refl, rules}
use Rattle.close_rects.proofs.Indexes.{EachSingle-push, IsIndexed-single}
use Rattle.close_rects.proofs.blocks.single_nodes.Goals as goal

pub loop-b-preserved : goal.loop-b-preserved
loop-b-preserved c = record {
  len = search rules;
  each = EachSingle-push _ _ _ _ c.in_ok-push.ensures.items c.loop-b.invariant.each
      (rw c.loop-b.invariant.len (record { next = refl; own = c.own_bounds-own.ensures; all = c.own_bounds-own.ensures }));
}

pub returns : goal.returns
returns c = IsIndexed-single _ _ c.loop-b.invariant.each (omega arith) (omega arith) (omega arith)
