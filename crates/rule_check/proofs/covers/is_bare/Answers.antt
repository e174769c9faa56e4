use Rattle.std.proofs.Common.{◌≡◌, ◌∙◌, ◌&&◌, true, ap, sym, SFits, w64, rules, arith}
use Rattle.std.proofs.lemmas.Int.{to_z-of_z, ints}
use Rattle.geom_core.specs.Extent.{Extent}
use Rattle.geom_core.specs.Rectangles.{grown}
use Rattle.tech_rules.specs.Lengths.{length_in}
use Rattle.tech_rules.specs.Rules.{RuleValues}
use Rattle.rule_check.specs.Covers.{is_held}
use Rattle.rule_check.specs.Narrow.{is_covered, is_on}
use Rattle.rule_check.proofs.Holding.{bare-both, is_held-cover}
use Rattle.rule_check.proofs.covers.is_bare.Goals.{then-in_horizontal, else-in_horizontal}
use Rattle.rule_check.proofs.covers.is_bare.Goals as goal

pub returns : goal.returns
returns c shapes horizontal vertical =
    let fits : SFits w64 c.length_in.result = omega (arith, ints, c.length_in.ensures.low, c.length_in.ensures.high) in
    let window : c.grown-window.result ≡ grown (length_in c.args.rules.now c.args.rules.now.cut.enclose) c.args.shape.now.rect =
    simp to_z-of_z at c.grown-window.ensures ∙ ap (λ d. grown d c.args.shape.now.rect) (c.length_in.ensures.is ∙ ap (λ (r : RuleValues). length_in c.args.rules.now r.cut.enclose) c.rules.view_is) in
    let first : c.is_held-in_horizontal.result ≡ is_covered c.args.rules.now shapes c.args.rules.now.horizontal.layer c.args.shape.now =
    c.is_held-in_horizontal.ensures ∙ ap (λ (w : Extent). is_held w c.args.horizontal.now) window
    ∙ is_held-cover c.args.rules.now.horizontal.layer shapes c.args.horizontal.now _ horizontal in
    let second : c.is_held-in_vertical.result ≡ is_covered c.args.rules.now shapes c.args.rules.now.vertical.layer c.args.shape.now =
    c.is_held-in_vertical.ensures ∙ ap (λ (w : Extent). is_held w c.args.vertical.now) window
    ∙ is_held-cover c.args.rules.now.vertical.layer shapes c.args.vertical.now _ vertical in
    let both : c.if-in_horizontal.result ≡ (c.is_held-in_horizontal.result && c.is_held-in_vertical.result) =
    elim c.if-in_horizontal.branch [
      | then-in_horizontal w ↦ w.result-is ∙ ap (λ t. t && c.is_held-in_vertical.result) (sym w.if-in_horizontal.true)
      | else-in_horizontal w ↦
          w.result-is ∙ w.if-in_horizontal.false ∙ ap (λ t. t && c.is_held-in_vertical.result) (sym w.if-in_horizontal.false)
    ] in
    let cut : is_on c.args.rules.now.cut.layer c.args.shape.now ≡ true = search rules in
    bare-both _ _ _ _ _ c.if-in_horizontal.result cut first second both
