use Rattle.std.proofs.Common.{◌≡◌, ◌∙◌, SFits, w64, Some, sym, subst, arith, drop, ◌+◌}
use Rattle.std.proofs.lemmas.Int.{ints, to_z-of_z}
use Rattle.close_rects.specs.Crowds.{places_from}
use Rattle.close_rects.specs.declared.member.Member.{Member}
use Rattle.close_rects.proofs.Placing.{found-more, found-all, places-sorted}
use Rattle.close_rects.proofs.crowding.places_after.Goals as goal

pub loop-found-preserved : goal.loop-found-preserved
loop-found-preserved c =
    let here = rw c.members.ensures.is at c.at-member.ensures.is in
    let there = rw c.items.ensures at c.at.ensures.is in
    let fits : SFits w64 c.at-member.result.reach = omega (arith, ints, c.at-member.ensures.reach) in
    let window = simp to_z-of_z at c.near-window.ensures in
    record {
      within = omega (arith, c.in-Some.ensures.first.within);
      rest = found-more c.args.crowd.now.members c.args.crowd.now.items c.args.row c.at-member.result c.loop-found.at c.in-Some.found c.at.result
          c.loop-found.places.items _ c.members.ensures.placed here there (rw window at c.in-Some.ensures.first)
          c.in_ok-push_later.ensures c.loop-found.invariant.rest;
    }

pub returns : goal.returns
returns c a is =
    let here = rw c.members.ensures.is at c.at-member.ensures.is in
    let fits : SFits w64 c.at-member.result.reach = omega (arith, ints, c.at-member.ensures.reach) in
    let window = simp to_z-of_z at c.near-window.ensures in
    let one : Some c.at-member.result ≡ Some a = sym here ∙ is in
    let same : c.at-member.result ≡ a = cc in
    let found = found-all c.args.crowd.now.members c.args.crowd.now.items c.args.row c.at-member.result c.loop-found.at c.loop-found.places.items
    c.members.ensures.placed here c.loop-found.invariant.within (rw window at c.in_default.ensures.none) c.loop-found.invariant.rest in
    subst (λ (m : Member). c.sort_unstable.new.self.items ≡ places_from (c.args.row + 1) m (drop (c.args.row + 1) c.args.crowd.now.members)) same
    (places-sorted c.args.crowd.now.members c.args.crowd.now.items c.args.row c.at-member.result c.loop-found.places.items _ c.members.ensures.placed
    found c.sort_unstable.ensures.permutation c.sort_unstable.ensures.sorted)
