use Rattle.std.proofs.Common.{◌<◌, ◌∙◌, [], ◌∷◌, ◌++◌, ap, arith, refl, subst}
use Rattle.std.proofs.lemmas.Result.{err_from_is_err_and}
use Rattle.region_cut.specs.Areas.{grid_in}
use Rattle.region_cut.specs.Ceilings.{IsLeast, IsLowest}
use Rattle.region_cut.specs.Grids.{columns, strips}
use Rattle.region_cut.proofs.CornerLaws.{floor-is, held-next}
use Rattle.region_cut.proofs.FoundLaws.{corner-end, corner-many, corner-next, corner-none, corner-start}
use Rattle.region_cut.proofs.found.Found.add_corner.Goals as goal

pub returns-in_default-clause-added : goal.returns-in_default-clause-added
returns-in_default-clause-added c =
    corner-none (grid_in c.args.strip.now.lined.now.area) c.args.strip.now.low c.args.strip.now.tops.now c.args.strip.now.ceilings c.args.left c.args.lowest _ c.in_default.is c.requires.lowest

pub loop-column-init : goal.loop-column-init
loop-column-init c =
    let least : IsLeast (grid_in c.args.strip.now.lined.now.area).filled (columns (grid_in c.args.strip.now.lined.now.area)) c.args.strip.now.low c.args.strip.now.tops.now c.args.left c.in-Some.first =
    subst (IsLowest (grid_in c.args.strip.now.lined.now.area).filled (columns (grid_in c.args.strip.now.lined.now.area)) c.args.strip.now.low c.args.strip.now.tops.now c.args.left) c.in-Some.is c.requires.lowest in
    record {
      held = least.held;
      within = omega (arith, least.within);
      made = corner-start (grid_in c.args.strip.now.lined.now.area) c.args.strip.now.low c.args.strip.now.tops.now c.args.strip.now.ceilings c.args.left c.floor-floor.result c.in-Some.first _ c.requires.within (floor-is c.args.strip.now.low c.args.left c.args.strip.now.tops.now _ c.floor-floor.ensures) least;
      most = refl;
    }

pub loop-column-preserved : goal.loop-column-preserved
loop-column-preserved c =
    let was = c.loop-column.invariant in
    let long = c.args.strip.now.ceilings.long in
    let within = c.loop-column-test.true in
    let inside : c.loop-column.column < columns (grid_in c.args.strip.now.lined.now.area) = omega arith in
    let fall = c.args.strip.now.nexts.each c.loop-column.column (omega arith) within in
    record {
      held = held-next (grid_in c.args.strip.now.lined.now.area).filled (strips (grid_in c.args.strip.now.lined.now.area)) (columns (grid_in c.args.strip.now.lined.now.area)) c.args.strip.now.low c.args.strip.now.tops.now c.args.strip.now.ceilings c.args.left c.floor-floor.result c.loop-column.column _ was.held inside fall (floor-is c.args.strip.now.low c.args.left c.args.strip.now.tops.now _ c.floor-floor.ensures) c.if-strip-column.true;
      within = omega (arith, fall.within);
      made = corner-next (grid_in c.args.strip.now.lined.now.area) c.args.strip.now.low c.args.strip.now.tops.now c.args.strip.now.ceilings c.args.left c.floor-floor.result c.loop-column.column _ _ _ c.requires.within was.held inside fall (floor-is c.args.strip.now.low c.args.left c.args.strip.now.tops.now _ c.floor-floor.ensures) c.if-strip-column.true was.made _ (c.in_ok-add.ensures.added ∙ ap (λ r. c.loop-column.self.rects.items ++ r ∷ []) c.rect-rect.ensures);
      most = c.in_ok-add.ensures.most ∙ was.most;
    }

pub returns-in_err-add-clause-many : goal.returns-in_err-add-clause-many
returns-in_err-add-clause-many c = λ is.
    let was = c.loop-column.invariant in
    let long = c.args.strip.now.ceilings.long in
    let within = c.loop-column-test.true in
    let inside : c.loop-column.column < columns (grid_in c.args.strip.now.lined.now.area) = omega arith in
    let fall = c.args.strip.now.nexts.each c.loop-column.column (omega arith) within in
    let made = err_from_is_err_and c.from_residual.result c.from_residual.ensures.1 in
    let many = c.in_err-add.ensures.many (cc) in
    let most = was.most in
    corner-many (grid_in c.args.strip.now.lined.now.area) c.args.strip.now.low c.args.strip.now.tops.now c.args.strip.now.ceilings c.args.left c.floor-floor.result c.loop-column.column _ _ _ c.requires.within was.held inside fall (floor-is c.args.strip.now.low c.args.left c.args.strip.now.tops.now _ c.floor-floor.ensures) c.if-strip-column.true was.made _ (omega arith)

pub returns-else-strip-column-clause-added : goal.returns-else-strip-column-clause-added
returns-else-strip-column-clause-added c =
    corner-end (grid_in c.args.strip.now.lined.now.area) c.args.strip.now.low c.args.strip.now.tops.now c.args.strip.now.ceilings c.args.left c.floor-floor.result c.loop-column.column _ _ c.requires.within (floor-is c.args.strip.now.low c.args.left c.args.strip.now.tops.now _ c.floor-floor.ensures) (λ inside. c.if-strip-column.false) c.loop-column.invariant.made

pub returns-after-loop-column-clause-added : goal.returns-after-loop-column-clause-added
returns-after-loop-column-clause-added c =
    let long = c.args.strip.now.ceilings.long in
    let past = c.loop-column-test.false in
    corner-end (grid_in c.args.strip.now.lined.now.area) c.args.strip.now.low c.args.strip.now.tops.now c.args.strip.now.ceilings c.args.left c.floor-floor.result c.loop-column.column _ _ c.requires.within (floor-is c.args.strip.now.low c.args.left c.args.strip.now.tops.now _ c.floor-floor.ensures) (λ inside. absurd (omega arith)) c.loop-column.invariant.made
