use Rattle.std.proofs.Common.{◌≡◌, ◌+◌, ◌-◌, ◌∙◌, ◌++◌, arith, refl, reverse, subst, sym}
use Rattle.std.proofs.lemmas.Result.{err_from_is_err_and}
use Rattle.region_cut.specs.Areas.{grid_in}
use Rattle.region_cut.specs.Grids.{columns}
use Rattle.region_cut.specs.Maximal.{corner_rects, strip_rects}
use Rattle.region_cut.proofs.FoundLaws.{numbers-many, numbers-more, numbers-start}
use Rattle.region_cut.proofs.CornerLaws.{lowest-start}
use Rattle.region_cut.proofs.found.Found.add_strip.Goals as goal

pub loop-left-init : goal.loop-left-init
loop-left-init c =
    let long = c.args.strip.now.ceilings.long in
    record {
      lowest = lowest-start _ _ _ _ _ c.args.strip.now.ceilings _ (omega arith);
      within = omega arith;
      made = numbers-start (corner_rects (grid_in c.args.strip.now.lined.now.area) c.args.strip.now.low) _ (columns (grid_in c.args.strip.now.lined.now.area)) _ (omega arith);
      most = refl;
    }

pub loop-left-preserved : goal.loop-left-preserved
loop-left-preserved c =
    let was = c.loop-left.invariant in
    let some = c.loop-left-test.true in
    let at : (c.loop-left.left - 1) + 1 ≡ c.loop-left.left = omega arith in
    record {
      lowest = c.lowest-lowest.ensures;
      within = omega (arith, was.within);
      made =
          numbers-more (corner_rects (grid_in c.args.strip.now.lined.now.area) c.args.strip.now.low) (c.loop-left.left - 1) (columns (grid_in c.args.strip.now.lined.now.area)) _ c.loop-left.self.rects.items _
          (omega (arith, was.within))
          (subst (λ k. c.loop-left.self.rects.items ≡ c.args.self.now.rects.items ++ reverse (strip_rects (grid_in c.args.strip.now.lined.now.area) c.args.strip.now.low k)) (sym at) was.made)
          c.in_ok-add_corner.ensures.added;
      most = c.in_ok-add_corner.ensures.most ∙ was.most;
    }

pub returns-in_err-add_corner-clause-many : goal.returns-in_err-add_corner-clause-many
returns-in_err-add_corner-clause-many c = λ is.
    let was = c.loop-left.invariant in
    let some = c.loop-left-test.true in
    let at : (c.loop-left.left - 1) + 1 ≡ c.loop-left.left = omega arith in
    let made = err_from_is_err_and c.from_residual.result c.from_residual.ensures.1 in
    let many = c.in_err-add_corner.ensures.many (cc) in
    numbers-many (corner_rects (grid_in c.args.strip.now.lined.now.area) c.args.strip.now.low) (c.loop-left.left - 1) (columns (grid_in c.args.strip.now.lined.now.area)) _ _ c.loop-left.self.rects.items
    (omega (arith, was.within))
    (subst (λ k. c.loop-left.self.rects.items ≡ c.args.self.now.rects.items ++ reverse (strip_rects (grid_in c.args.strip.now.lined.now.area) c.args.strip.now.low k)) (sym at) was.made)
    (omega (arith, many, was.most))

pub returns-clause-added : goal.returns-clause-added
returns-clause-added c =
    let end = c.loop-left-test.false in
    let none : c.loop-left.left ≡ 0 = omega arith in
    subst (λ k. c.loop-left.self.rects.items ≡ c.args.self.now.rects.items ++ reverse (strip_rects (grid_in c.args.strip.now.lined.now.area) c.args.strip.now.low k)) none c.loop-left.invariant.made
