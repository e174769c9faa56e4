use Rattle.std.proofs.Common.{◌≡◌, ◌<◌, ◌^◌, ◌++◌, ◌∷◌, [], arith, length, rules}
use Rattle.std.proofs.lemmas.List.{length-append}
use Rattle.greedy_router.proofs.PackedLaws.{ends-push, lists-push}
use Rattle.greedy_router.proofs.packed.PackedLists.push.Goals as goal

pub invariant_of-self-2 : goal.invariant_of-self-2
invariant_of-self-2 g c =
    let items = c.self.inside.items.items in
    let long = length-append items c.args.list.now in
    let few : length (items ++ c.args.list.now) < 2 ^ 32 = search (rules, long) in
    let ends : c.push_reserved.new.self.items ≡ c.self.inside.ends.items ++ length (items ++ c.args.list.now) ∷ [] = search (rules, long, few) in
    rw (ends, c.in_ok-extend_from_slice.ensures.items) (record { cut = ends-push 0 _ _ _ c.self.invariant.cut (omega (arith, long)); few = omega (arith, long, few) })

pub returns-clause-pushed : goal.returns-clause-pushed
returns-clause-pushed g c =
    let items = c.self.inside.items.items in
    let long = length-append items c.args.list.now in
    let few : length (items ++ c.args.list.now) < 2 ^ 32 = search (rules, long) in
    let ends : c.push_reserved.new.self.items ≡ c.self.inside.ends.items ++ length (items ++ c.args.list.now) ∷ [] = search (rules, long, few) in
    rw (ends, c.in_ok-extend_from_slice.ensures.items, ← c.self.view_is) (lists-push 0 c.self.inside.ends.items items c.args.list.now c.self.invariant.cut)
