use Rattle.std.proofs.Common.{◌≡◌, arith, All, length, rules, sym, subst, ap, ◌∙◌, List, ℕ}
use Rattle.std.proofs.lemmas.List.{take_all}
use Rattle.channel_model.specs.declared.reach.Reach.{Reach}
use Rattle.channel_model.specs.Density.{spans_of}
use Rattle.channel_model.specs.Reach.{IsReach}
use Rattle.channel_model.proofs.DensityLaws.{spans_of-step, spans_of-within, length-spans_of}
use Rattle.channel_model.proofs.ListingLaws.{listed_top, listed_bottom}
use Rattle.channel_model.proofs.spans.spans_of.Goals as goal

pub reaches-requires-clause-listed : goal.reaches-requires-clause-listed
reaches-requires-clause-listed c = listed_top c.args.channel.now c.args.nets.now c.items.result.now (cc) c.requires

pub reaches-requires-clause-positive : goal.reaches-requires-clause-positive
reaches-requires-clause-positive c = λ net member. (c.requires.standing net member).0

pub reaches-requires-2-clause-listed : goal.reaches-requires-2-clause-listed
reaches-requires-2-clause-listed c = listed_bottom c.args.channel.now c.args.nets.now c.items-2.result.now (cc) c.requires

pub reaches-requires-2-clause-positive : goal.reaches-requires-2-clause-positive
reaches-requires-2-clause-positive c = λ net member. (c.requires.standing net member).0

pub loop-place-preserved : goal.loop-place-preserved
loop-place-preserved c =
    rw (c.in_ok-push_span.ensures, c.loop-place.invariant, c.joined.ensures)
    (spans_of-step c.args.channel.now c.args.nets.now c.items.result.now c.items-2.result.now c.loop-place.place c.in_ok-tops.tops.items
    c.in_ok-bottoms.bottoms.items c.index.result.now c.index-in-loop-place.result.now (cc) (cc) c.loop-place-test.true c.in_ok-tops.ensures
    c.in_ok-bottoms.ensures c.index.ensures c.index-in-loop-place.ensures)

pub returns-clause-within : goal.returns-clause-within
returns-clause-within c =
    let whole : c.loop-place.spans.items ≡ spans_of c.args.channel.now c.args.nets.now =
    c.loop-place.invariant ∙ ap (λ (l : List ℕ). spans_of c.args.channel.now l) (take_all c.loop-place.place c.args.nets.now (omega arith)) in
    subst (λ (l : List Reach). All (IsReach (length c.args.channel.now.top)) l) (sym whole)
    (spans_of-within c.args.channel.now c.args.nets.now (search rules))

pub returns-clause-few : goal.returns-clause-few
returns-clause-few c =
    let whole : c.loop-place.spans.items ≡ spans_of c.args.channel.now c.args.nets.now =
    c.loop-place.invariant ∙ ap (λ (l : List ℕ). spans_of c.args.channel.now l) (take_all c.loop-place.place c.args.nets.now (omega arith)) in
    omega (arith, ap (λ (l : List Reach). length l) whole, length-spans_of c.args.channel.now c.args.nets.now)
