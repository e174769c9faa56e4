use Rattle.close_rects.proofs.crowding.add_pairs.Goals as goal
use Rattle.std.proofs.Common.{◌≡◌, ◌∙◌, ap, length, take, ◌++◌, rules, map, ◌-◌, min}
use Rattle.std.specs.List.{slice_index}
use Rattle.std.proofs.lemmas.List.{take_all}
use Rattle.close_rects.specs.declared.member.Member.{Member}
use Rattle.close_rects.specs.Kins.{pairs_of}
use Rattle.close_rects.proofs.Gathering.{pairs_of-more}
use Rattle.std_laws.proofs.Slices.{take-room}

pub loop-place-preserved : goal.loop-place-preserved
loop-place-preserved c = pairs_of-more _ _ _ _ _ _ c.loop-place.place-index c.at.result c.loop-place-test.true c.at.ensures.is
    c.in_ok-push.ensures.items c.loop-place.invariant

pub returns : goal.returns
returns c =
    let all : take c.loop-place.place-index (take c.min-count.result c.args.places.now) ≡ take c.min-count.result c.args.places.now =
    take_all _ _ c.loop-place-test.false in
    let count : c.min-count.result ≡ min (length c.args.places.now) (c.args.most - length c.args.pairs.now.items) = search rules in
    c.loop-place.invariant ∙ ap (λ t. c.args.pairs.now.items ++ pairs_of c.args.members.now c.args.number t) all
    ∙ take-room c.args.most c.min-count.result (λ place. (c.args.number, slice_index (map (λ (m : Member). m.number) c.args.members.now) place))
    c.args.pairs.now.items c.args.places.now c.requires.room count
