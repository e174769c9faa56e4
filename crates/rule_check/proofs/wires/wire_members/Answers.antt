use Rattle.rule_check.proofs.wires.wire_members.Goals as goal
use Rattle.std.proofs.Common.{ap, sym, ◌∙◌, ◌≡◌, Some, get_or, length, refl, arith}
use Rattle.std.specs.List.{slice_get, zip}
use Rattle.std.proofs.lemmas.Option.{slice_get-get_or, slice_get_read}
use Rattle.rule_check.specs.Members.{members_from, wire_member}
use Rattle.rule_check.proofs.Crowding.{members-all, members-more}
use Rattle.std_laws.proofs.Zips.{length-zip, zip-at}

pub loop-k-preserved : goal.loop-k-preserved
loop-k-preserved c =
    let same = ap length c.shapes-shapes.ensures.is in
    let shape : slice_get c.shapes-shapes.result.now c.loop-k.k ≡ Some c.index-shapes-k.result =
    slice_get_read c.shapes-shapes.result.now (length c.shapes-shapes.result.now) c.loop-k.k c.index-shapes-k.result refl c.loop-k-test.true c.index-shapes-k.is in
    let class : slice_get c.args.classes.now c.loop-k.k ≡ Some (get_or c.args.classes.now c.loop-k.k 0) =
    slice_get-get_or c.args.classes.now c.loop-k.k 0 (omega arith) in
    members-more (wire_member c.args.rules.now) (zip c.args.classes.now c.shapes-shapes.result.now) c.loop-k.k
    (get_or c.args.classes.now c.loop-k.k 0, c.index-shapes-k.result) c.loop-k.members.items c.push_made.new.members.items
    (members_from (wire_member c.args.rules.now) 0 (zip c.args.classes.now c.shapes-shapes.result.now))
    (zip-at c.args.classes.now c.shapes-shapes.result.now c.loop-k.k _ _ class shape) (rw (← c.wire_member-made.ensures) c.in_ok-push_made.ensures) c.loop-k.invariant

pub returns : goal.returns
returns c =
    let same = ap length c.shapes-shapes.ensures.is in
    rw (← c.shapes-shapes.ensures.is)
    (let len : length (zip c.args.classes.now c.shapes-shapes.result.now) ≡ length c.shapes-shapes.result.now =
    length-zip c.args.classes.now c.shapes-shapes.result.now (c.requires ∙ sym same) in
    members-all (wire_member c.args.rules.now) (zip c.args.classes.now c.shapes-shapes.result.now) c.loop-k.k c.loop-k.members.items
    (members_from (wire_member c.args.rules.now) 0 (zip c.args.classes.now c.shapes-shapes.result.now)) (omega arith) c.loop-k.invariant)
