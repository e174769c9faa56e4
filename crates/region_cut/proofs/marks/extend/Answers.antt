use Rattle.std.proofs.Common.{◌∙◌, ap, arith, rules, set, sym, SFits, of_z, to_z, w64}
use Rattle.std.proofs.lemmas.Int.{to_z-of_z}
use Rattle.std.specs.Int.{int_max}
use Rattle.std.specs.Prelude.{int_le}
use Rattle.geom_core.specs.Extent.{Extent}
use Rattle.region_cut.specs.Grids.{line}
use Rattle.region_cut.proofs.ReachLaws.{behind, further}
use Rattle.region_cut.proofs.marks.extend.Goals as goal

pub returns-then-left-ends-clause-further : goal.returns-then-left-ends-clause-further
returns-then-left-ends-clause-further c = λ column within.
    let view = c.rect.view_is in
    let left : SFits w64 c.rect.inside.x0 = search rules in
    let right : SFits w64 c.rect.inside.x1 = search rules in
    let old : SFits w64 (line c.args.ends.now c.line_from-left.result) = search rules in
    let new : SFits w64 c.max.result = search rules in
    further c.args.across.now c.args.ends.now _ c.args.heights.now.low c.args.heights.now.high c.args.rect.now column c.line_from-left.result c.if-not-reaches.ensures
    (ap (λ z. int_le z (line c.args.across.now column)) (sym (ap (λ (e : Extent). e.x0) view) ∙ sym (to_z-of_z w64 _ left)) ∙ c.line_from-left.ensures column (omega arith)) c.if-left-ends.true
    (ap (set c.args.ends.now c.line_from-left.result) (to_z-of_z w64 _ new ∙ c.max.ensures.value ∙ ap (λ z. int_max z (to_z w64 (of_z w64 c.rect.inside.x1))) (to_z-of_z w64 _ old)
    ∙ ap (int_max (line c.args.ends.now c.line_from-left.result)) (to_z-of_z w64 _ right ∙ ap (λ (e : Extent). e.x1) view)))

pub returns-else-left-ends-clause-further : goal.returns-else-left-ends-clause-further
returns-else-left-ends-clause-further c = λ column within.
    let fits : SFits w64 c.rect.inside.x0 = search rules in
    behind c.args.across.now c.args.heights.now.low c.args.heights.now.high c.args.rect.now column c.line_from-left.result _ c.if-not-reaches.ensures
    (ap (λ z. int_le z (line c.args.across.now column)) (sym (ap (λ (e : Extent). e.x0) c.rect.view_is) ∙ sym (to_z-of_z w64 _ fits)) ∙ c.line_from-left.ensures column (omega arith))
    (let past = c.if-left-ends.false in let long = c.requires.long in omega arith)
