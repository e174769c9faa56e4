use Rattle.std.proofs.Common.{◌≡◌, ◌∙◌, ℕ, List, length, map, ap, ap₂, sym}
use Rattle.std.specs.List.{range_with_len}
use Rattle.std.proofs.lemmas.List.{length-map}
use Rattle.std.proofs.lemmas.List.FromFn.{length-range_with_len}
use Rattle.std.proofs.lemmas.Result.{IfOk-weaker}
use Rattle.list_facts.specs.Names.{mentions, place_among}
use Rattle.list_facts.specs.Texts.{texts}
use Rattle.list_facts.proofs.TextLaws.{length-texts}
use Rattle.layout_check.specs.Groups.{differing_pairs, firsts_of}
use Rattle.layout_check.proofs.Repeats.{repeated-differing}
use Rattle.layout_check.proofs.names.repeated.Goals as goal

pub invariant_of-members-clause-each : goal.invariant_of-members-clause-each
invariant_of-members-clause-each c =
    let own : length c.as_slice-2.result.now ≡ length c.args.names.now.list.now =
    ap (λ (l : List ℕ). length l) (c.as_slice-2.ensures.value ∙ c.in_ok-own.ensures) ∙ length-range_with_len 0 (length c.args.names.now.list.now) in
    let groups : length c.as_slice.result.now ≡ length c.args.names.now.list.now =
    ap (λ (l : List ℕ). length l) (c.as_slice.ensures.value ∙ c.in_ok-places.ensures)
    ∙ length-map (texts c.args.names.now.list.now) (place_among (texts c.args.names.now.set.now.keys)) ∙ length-texts c.args.names.now.list.now in
    own ∙ sym groups

pub returns : goal.returns
returns c =
    let own : c.as_slice-2.result.now ≡ range_with_len 0 (length (texts c.args.names.now.list.now)) =
    c.as_slice-2.ensures.value ∙ c.in_ok-own.ensures ∙ ap (λ (n : ℕ). range_with_len 0 n) (sym (length-texts c.args.names.now.list.now)) in
    let groups : c.as_slice.result.now ≡ map (place_among (mentions (texts c.args.names.now.list.now))) (texts c.args.names.now.list.now) =
    c.as_slice.ensures.value ∙ c.in_ok-places.ensures ∙ ap (λ (l : List (List ℕ)). map (place_among l) (texts c.args.names.now.list.now)) c.args.names.now.mentioned in
    IfOk-weaker c.differing_pairs.result _ _
    (λ v is. is ∙ ap₂ (λ (gs os : List ℕ). differing_pairs (firsts_of gs) os) groups own ∙ sym (repeated-differing (texts c.args.names.now.list.now))) c.differing_pairs.ensures
