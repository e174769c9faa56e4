use Rattle.rule_check.proofs.covers.wires_on.Goals as goal
use Rattle.std.proofs.Common.{◌≡◌, ◌≤◌, ◌∙◌, length, ap, arith}
use Rattle.std.specs.Prelude.{filter}
use Rattle.std.proofs.lemmas.List.{length-map}
use Rattle.geom_core.specs.declared.layout.Shape.{Shape}
use Rattle.rule_check.specs.Narrow.{is_on}
use Rattle.std_laws.proofs.Counts.{filter-short}

pub new-requires : goal.new-requires
new-requires c =
    let len : length c.as_slice.result.now ≡ length (filter (is_on c.args.layer.now) c.shapes.result.now) =
    ap length c.as_slice.ensures.value ∙ ap length c.in_ok-rects.ensures
    ∙ length-map (filter (is_on c.args.layer.now) c.shapes.result.now) (λ (s : Shape). s.rect) in
    let less : length (filter (is_on c.args.layer.now) c.shapes.result.now) ≤ length c.shapes.result.now =
    filter-short (is_on c.args.layer.now) c.shapes.result.now in
    let same = ap length c.shapes.ensures.is in
    record { few = omega arith }
