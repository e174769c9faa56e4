use Rattle.rule_check.proofs.outlines.out_of_row.Goals as goal
use Rattle.std.proofs.Common.{◌<◌, ◌^◌, ◌≡◌, ◌≤◌, ◌∙◌, All, List, ℕ, ap, sym, subst, length, arith}
use Rattle.std.specs.List.{zip}
use Rattle.close_rects.specs.Crowds.{KeepsInReach, crowds_of}
use Rattle.close_rects.specs.declared.member.Member.{Member}
use Rattle.rule_check.specs.Crowded.{are_out_of_row}
use Rattle.rule_check.specs.Failing.{failing_pairs}
use Rattle.rule_check.specs.Members.{members_from, row_member}
use Rattle.rule_check.proofs.Crowding.{members-fewer}
use Rattle.rule_check.proofs.OutlineLaws.{row-failing, row-members-reach}
use Rattle.std_laws.proofs.Zips.{length-zip}

-- the members that are handed on
made : (c : goal.After-as_slice-2)
    → c.as_slice-2.result.now ≡ members_from (row_member c.args.rules.now) 0 (zip c.in_ok-numbers.numbers.items c.args.judged.now)
made c =
    c.as_slice-2.ensures.value ∙ c.in_ok-members.ensures
    ∙ ap (λ (numbers : List ℕ). members_from (row_member c.args.rules.now) 0 (zip numbers c.args.judged.now)) c.as_slice.ensures.value

pub crowded-requires-clause-few : goal.crowded-requires-clause-few
crowded-requires-clause-few c =
    let few : length c.args.judged.now < 2 ^ 32 = rw (← c.shapes.ensures.is) c.shapes.ensures.few in
    let count : length c.as_slice-2.result.now ≡ length (members_from (row_member c.args.rules.now) 0 (zip c.in_ok-numbers.numbers.items c.args.judged.now)) =
    ap length (made c) in
    let less : length (members_from (row_member c.args.rules.now) 0 (zip c.in_ok-numbers.numbers.items c.args.judged.now))
    ≤ length (zip c.in_ok-numbers.numbers.items c.args.judged.now) =
    members-fewer (row_member c.args.rules.now) 0 (zip c.in_ok-numbers.numbers.items c.args.judged.now) in
    let all : length (zip c.in_ok-numbers.numbers.items c.args.judged.now) ≡ length c.args.judged.now =
    length-zip c.in_ok-numbers.numbers.items c.args.judged.now c.in_ok-numbers.ensures.each in
    omega arith

pub crowded-requires-clause-reach : goal.crowded-requires-clause-reach
crowded-requires-clause-reach c =
    let P : List Member → Type 0 = λ members. All KeepsInReach members in
    subst P (sym (made c)) (row-members-reach c.args.rules.now c.args.judged.now c.in_ok-numbers.numbers.items (rw (← c.shapes.ensures.is) c.shapes.ensures.reach))

pub returns : goal.returns
returns c =
    let same : crowds_of c.as_slice-2.result.now ≡ failing_pairs (are_out_of_row c.args.rules.now) c.args.judged.now =
    ap crowds_of (c.as_slice-2.ensures.value ∙ c.in_ok-members.ensures
    ∙ ap (λ (numbers : List ℕ). members_from (row_member c.args.rules.now) 0 (zip numbers c.args.judged.now)) c.as_slice.ensures.value)
    ∙ row-failing c.args.rules.now c.args.judged.now c.in_ok-numbers.numbers.items c.in_ok-numbers.ensures in
    rw (← same) c.crowded.ensures
