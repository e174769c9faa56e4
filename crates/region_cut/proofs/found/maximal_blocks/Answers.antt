use Rattle.std.proofs.Common.{◌≡◌, ◌<◌, length, ◌+◌, ◌-◌, ◌∙◌, [], ap, arith, refl, replicate, reverse, subst, sym}
use Rattle.std.proofs.lemmas.Result.{err_from_is_err_and}
use Rattle.region_cut.specs.Areas.{grid_in}
use Rattle.region_cut.specs.Grids.{columns, strips}
use Rattle.region_cut.specs.Ceilings.{AreCeilings}
use Rattle.region_cut.specs.Maximal.{rects_from, strip_rects}
use Rattle.region_cut.proofs.CeilingLaws.{ceilings-lower, ceilings-start}
use Rattle.region_cut.proofs.CellLaws.{overwritten-all}
use Rattle.region_cut.proofs.FoundLaws.{numbers-many, numbers-more, numbers-start}
use Rattle.region_cut.proofs.found.maximal_blocks.Goals as goal

pub loop-low-init : goal.loop-low-init
loop-low-init c =
    let low = c.strips-low.ensures in
    let made = c.in_ok-tops.ensures.items_if_clones_equal (λ y same. same) ∙ ap (λ n. replicate n c.strips-low.result) c.columns.ensures in
    record {
      within = omega arith;
      made = rw c.new.ensures.items (numbers-start (λ k. strip_rects (grid_in c.args.lined.now.area) k 0) c.strips-low.result (strips (grid_in c.args.lined.now.area)) [] (omega arith));
      most = refl;
      tops =
          subst (λ k. AreCeilings (grid_in c.args.lined.now.area).filled (strips (grid_in c.args.lined.now.area)) (columns (grid_in c.args.lined.now.area)) k c.in_ok-tops.tops.items) (sym low)
          (ceilings-start (grid_in c.args.lined.now.area).filled (strips (grid_in c.args.lined.now.area)) (columns (grid_in c.args.lined.now.area)) c.in_ok-tops.tops.items
          (made ∙ ap (replicate (columns (grid_in c.args.lined.now.area))) low));
      cells = c.in_ok-cells.ensures;
    }

pub loop-low-preserved : goal.loop-low-preserved
loop-low-preserved c =
    let was = c.loop-low.invariant in
    let some = c.loop-low-test.true in
    let at : (c.loop-low.low - 1) + 1 ≡ c.loop-low.low = omega arith in
    record {
      within = omega (arith, was.within);
      made =
          numbers-more (λ k. strip_rects (grid_in c.args.lined.now.area) k 0) (c.loop-low.low - 1) (strips (grid_in c.args.lined.now.area)) [] c.loop-low.found.rects.items _ (omega (arith, was.within))
          (subst (λ k. c.loop-low.found.rects.items ≡ reverse (rects_from (grid_in c.args.lined.now.area) k)) (sym at) was.made) c.in_ok-add_strip.ensures.added;
      most = c.in_ok-add_strip.ensures.most ∙ was.most;
      tops =
          rw (overwritten-all c.loop-low.tops.len c.lower.new.tops c.loop-low.tops.items c.loop-low.tops.ok.0 (c.lower.ensures.long ∙ c.deref_mut.ensures.len ∙ c.loop-low.tops.ok.0))
          (ceilings-lower (grid_in c.args.lined.now.area).filled (strips (grid_in c.args.lined.now.area)) (columns (grid_in c.args.lined.now.area)) (c.loop-low.low - 1) c.loop-low.low
          c.deref_mut.result.now c.lower.new.tops c.deref.result.now (omega arith) (omega (arith, was.within)) (rw c.deref_mut.ensures.value was.tops) (rw c.deref.ensures.value was.cells)
          c.lower.ensures.long c.lower.ensures.lowered);
      cells = c.in_ok-cells-2.ensures;
    }

pub returns-in_err-add_strip-clause-many : goal.returns-in_err-add_strip-clause-many
returns-in_err-add_strip-clause-many c = λ is.
    let was = c.loop-low.invariant in
    let some = c.loop-low-test.true in
    let at : (c.loop-low.low - 1) + 1 ≡ c.loop-low.low = omega arith in
    let made = err_from_is_err_and c.from_residual-in_err-add_strip.result c.from_residual-in_err-add_strip.ensures.1 in
    let many = c.in_err-add_strip.ensures.many (cc) in
    let more : c.args.most < 0 + length (rects_from (grid_in c.args.lined.now.area) 0) =
    numbers-many (λ k. strip_rects (grid_in c.args.lined.now.area) k 0) (c.loop-low.low - 1) (strips (grid_in c.args.lined.now.area)) c.args.most [] c.loop-low.found.rects.items
    (omega (arith, was.within)) (subst (λ k. c.loop-low.found.rects.items ≡ reverse (rects_from (grid_in c.args.lined.now.area) k)) (sym at) was.made)
    (omega (arith, many, was.most)) in
    omega arith
