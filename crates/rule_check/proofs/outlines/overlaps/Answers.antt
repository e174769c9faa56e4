use Rattle.std.proofs.Common.{◌<◌, ◌^◌, ◌≡◌, ◌≤◌, ◌∙◌, All, List, ap, sym, subst, length, arith}
use Rattle.close_rects.specs.Crowds.{KeepsInReach, crowds_of}
use Rattle.close_rects.specs.declared.member.Member.{Member}
use Rattle.rule_check.specs.Crowded.{do_overlap}
use Rattle.rule_check.specs.Failing.{failing_pairs}
use Rattle.rule_check.specs.Members.{members_from, outline_member}
use Rattle.rule_check.proofs.Crowding.{members-fewer}
use Rattle.rule_check.proofs.OutlineLaws.{overlap-failing, overlap-reach}
use Rattle.rule_check.proofs.outlines.overlaps.Goals as goal

pub crowded-requires-clause-few : goal.crowded-requires-clause-few
crowded-requires-clause-few c =
    let few : length c.args.judged.now < 2 ^ 32 = rw (← c.shapes.ensures.is) c.shapes.ensures.few in
    let made : length c.as_slice.result.now ≡ length (members_from (outline_member c.args.rules.now) 0 c.args.judged.now) =
    ap length (c.as_slice.ensures.value ∙ c.in_ok-members.ensures) in
    let less : length (members_from (outline_member c.args.rules.now) 0 c.args.judged.now) ≤ length c.args.judged.now =
    members-fewer (outline_member c.args.rules.now) 0 c.args.judged.now in
    omega arith

pub crowded-requires-clause-reach : goal.crowded-requires-clause-reach
crowded-requires-clause-reach c =
    let P : List Member → Type 0 = λ members. All KeepsInReach members in
    subst P (sym (c.as_slice.ensures.value ∙ c.in_ok-members.ensures)) (overlap-reach c.args.rules.now c.args.judged.now (rw (← c.shapes.ensures.is) c.shapes.ensures.reach))

pub returns : goal.returns
returns c =
    let same : crowds_of c.as_slice.result.now ≡ failing_pairs (do_overlap c.args.rules.now) c.args.judged.now =
    ap crowds_of (c.as_slice.ensures.value ∙ c.in_ok-members.ensures) ∙ overlap-failing c.args.rules.now c.args.judged.now in
    rw (← same) c.crowded.ensures
