use Rattle.std.proofs.Common.{◌∙◌, arith, false, refl}
use Rattle.std.specs.Prelude.{slice_index_or}
use Rattle.region_cut.specs.Steps.{closed_steps}
use Rattle.region_cut.specs.Cells.{stands_left}
use Rattle.region_cut.specs.Grids.{line}
use Rattle.region_cut.proofs.CellLaws.{xor-end, xor-step}
use Rattle.region_cut.proofs.edges.flip_all.Goals as goal

pub loop-next-init : goal.loop-next-init
loop-next-init c = record { long = refl; flips = λ k within. rw c.in-Some.ensures.cases.0 refl }

pub loop-next-preserved : goal.loop-next-preserved
loop-next-preserved c = record {
  long = c.flip.ensures.long ∙ c.loop-next.invariant.long;
  flips = λ k within.
      let long = c.loop-next.invariant.long in
      xor-step (stands_left (line c.args.across.now k) c.args.heights.now.low c.args.heights.now.high) _ _ _ _ _ _ _ _ c.in-Some-split_first.ensures.cases.0
      (c.flip.ensures.flipped k (omega arith)) (c.loop-next.invariant.flips k within);
}

pub returns-clause-flipped : goal.returns-clause-flipped
returns-clause-flipped c = λ k within.
    let long = c.loop-next.invariant.long in
    xor-end (stands_left (line c.args.across.now k) c.args.heights.now.low c.args.heights.now.high) _ _ (slice_index_or c.args.cells.now k false) _ _ _
    (closed_steps c.args.path.now) c.in_default-split_first.ensures.cases
    (c.flip-2.ensures.flipped k (omega arith)) (c.loop-next.invariant.flips k within)
