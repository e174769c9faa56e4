use Rattle.rule_check.proofs.close.close_pairs.Goals as goal
use Rattle.std.proofs.Common.{◌<◌, ◌^◌, ◌≡◌, ◌≤◌, ◌∙◌, All, List, ap, sym, subst, length, arith}
use Rattle.std.specs.List.{zip}
use Rattle.close_rects.specs.Crowds.{KeepsInReach, crowds_of}
use Rattle.close_rects.specs.declared.member.Member.{Member}
use Rattle.tech_rules.specs.Rules.{ValidRules}
use Rattle.rule_check.specs.Members.{members_from, wire_member}
use Rattle.rule_check.proofs.Crowding.{members-fewer}
use Rattle.rule_check.proofs.Layers.{close-failing, close-reach}
use Rattle.std_laws.proofs.Zips.{length-zip}

pub crowded-requires-clause-few : goal.crowded-requires-clause-few
crowded-requires-clause-few c =
    let few : length c.args.judged.now < 2 ^ 32 = rw (← c.shapes.ensures.is) c.shapes.ensures.few in
    let made : length c.as_slice.result.now ≡ length (members_from (wire_member c.args.rules.now) 0 (zip c.args.classes.now c.args.judged.now)) =
    ap length (c.as_slice.ensures.value ∙ c.in_ok-members.ensures) in
    let less : length (members_from (wire_member c.args.rules.now) 0 (zip c.args.classes.now c.args.judged.now)) ≤ length (zip c.args.classes.now c.args.judged.now) =
    members-fewer (wire_member c.args.rules.now) 0 (zip c.args.classes.now c.args.judged.now) in
    let all : length (zip c.args.classes.now c.args.judged.now) ≡ length c.args.judged.now =
    length-zip c.args.classes.now c.args.judged.now c.requires.each in
    omega arith

pub crowded-requires-clause-reach : goal.crowded-requires-clause-reach
crowded-requires-clause-reach c =
    let valid : ValidRules c.args.rules.now = rw (← c.rules.view_is) c.rules.invariant in
    let P : List Member → Type 0 = λ members. All KeepsInReach members in
    subst P (sym (c.as_slice.ensures.value ∙ c.in_ok-members.ensures)) (close-reach c.args.rules.now c.args.classes.now c.args.judged.now valid (rw (← c.shapes.ensures.is) c.shapes.ensures.reach))

pub returns : goal.returns
returns c =
    let valid : ValidRules c.args.rules.now = rw (← c.rules.view_is) c.rules.invariant in
    let same : crowds_of c.as_slice.result.now ≡ _ =
    ap crowds_of (c.as_slice.ensures.value ∙ c.in_ok-members.ensures) ∙ close-failing c.args.rules.now c.args.classes.now c.args.judged.now valid (rw (← c.shapes.ensures.is) c.shapes.ensures.reach) in
    rw (← same) c.crowded.ensures
