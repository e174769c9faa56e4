use Rattle.std.proofs.Common.{◌≡◌, ◌<◌, arith, List, All, length, rules, ap, subst, sym}
use Rattle.std.specs.List.{filter_map}
use Rattle.channel_model.specs.declared.reach.Reach.{Reach}
use Rattle.channel_model.specs.Reach.{IsReach}
use Rattle.channel_model.specs.Density.{crossing_of}
use Rattle.channel_model.proofs.DensityLaws.{crossings-within, length-crossings}
use Rattle.channel_model.proofs.spans.cut_density.Goals as goal

pub most_over-requires-clause-within : goal.most_over-requires-clause-within
most_over-requires-clause-within c =
    let spans : List Reach = c.in_ok-spans.spans.items in
    let of_spans : c.deref-3.result.now ≡ filter_map crossing_of spans = search rules in
    subst (λ (l : List Reach). All (IsReach (length c.items.result.now)) l) (sym of_spans)
    (crossings-within (length c.items.result.now) spans (search rules))

pub most_over-requires-clause-few : goal.most_over-requires-clause-few
most_over-requires-clause-few c =
    let spans : List Reach = c.in_ok-spans.spans.items in
    let of_spans : c.deref-3.result.now ≡ filter_map crossing_of spans = search rules in
    let few : length spans < 4294967296 = search rules in
    omega (arith, few, ap (λ (l : List Reach). length l) of_spans, length-crossings spans)
