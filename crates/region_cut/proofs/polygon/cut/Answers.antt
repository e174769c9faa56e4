use Rattle.std.proofs.Common.{◌∙◌, ap, subst, sym, arith, length, reverse}
use Rattle.std.proofs.lemmas.List.{length-reverse, reverse-reverse}
use Rattle.std.proofs.lemmas.Result.{err_from_is_err_and}
use Rattle.region_cut.specs.Cells.{grid_of}
use Rattle.region_cut.specs.Maximal.{Fill, rects_from}
use Rattle.region_cut.proofs.LineLaws.{rises-ascending}
use Rattle.region_cut.proofs.MaximalLaws.{fill}
use Rattle.region_cut.proofs.PathLaws.{maximal-is, maximal-rects}
use Rattle.region_cut.proofs.polygon.cut.Goals as goal

pub returns-clause-is : goal.returns-clause-is
returns-clause-is c =
    c.reverse.ensures.items ∙ ap reverse c.in_ok-rects.ensures.found ∙ reverse-reverse (rects_from (grid_of c.args.path.now) 0) ∙ sym (maximal-rects c.args.path.now)

pub returns-clause-fill : goal.returns-clause-fill
returns-clause-fill c =
    subst (Fill (grid_of c.args.path.now))
    (sym (c.reverse.ensures.items ∙ ap reverse c.in_ok-rects.ensures.found ∙ reverse-reverse (rects_from (grid_of c.args.path.now) 0) ∙ sym (maximal-rects c.args.path.now) ∙ maximal-is c.args.path.now))
    (fill (grid_of c.args.path.now) (rises-ascending _) (rises-ascending _))

pub returns-clause-few : goal.returns-clause-few
returns-clause-few c =
    let long = ap length c.reverse.ensures.items ∙ length-reverse c.in_ok-rects.field-0.rects.items in
    let few = c.in_ok-rects.field-0.few in
    omega (arith, c.in_ok-rects.ensures.most)

pub returns-in_err-rects-clause-many : goal.returns-in_err-rects-clause-many
returns-in_err-rects-clause-many c = λ is.
    let made = err_from_is_err_and c.from_residual-in_err-rects.result c.from_residual-in_err-rects.ensures.1 in
    let many = c.in_err-rects.ensures.many (cc) in
    let all = ap length (maximal-rects c.args.path.now) in
    omega arith
