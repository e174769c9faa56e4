use Rattle.std.proofs.Common.{sym, subst, rules, List, length, ◌≡◌, ◌<◌, ◌++◌, ◌∷◌, [], Contains, Option}
use Rattle.greedy_column.specs.declared.span.Span.{Span}
use Rattle.greedy_column.specs.Uses.{next_after}
use Rattle.greedy_column.specs.Offers.{IsPicked, join_offer}
use Rattle.greedy_column.specs.Joining.{IsNextJoin, possible_joins}
use Rattle.greedy_column.proofs.PickLaws.{picked_is_option}
use Rattle.greedy_column.proofs.JoinLaws.{joins_end, possible_joins-less}
use Rattle.greedy_column.proofs.moment.Moment.join_all.Goals as goal

pub returns-in_default-clause-joins : goal.returns-in_default-clause-joins
returns-in_default-clause-joins g c =
    let may = g.C.Chooses.answers c.args.self.now.chooser.now in
    let next = next_after c.args.self.now.ahead.now.uses.items c.args.self.now.column in
    let none : possible_joins c.deref.result.now c.args.pairs.now ≡ [] =
    subst (λ (o : Option Span). IsNextJoin may next (possible_joins c.deref.result.now c.args.pairs.now) o) c.in_default.is c.in_ok-pair.ensures in
    joins_end may next c.args.pairs.now c.args.spans.now.items c.loop-joined.spans.items c.loop-joined.joined.items
    (subst (λ (l : List Span). possible_joins l c.args.pairs.now ≡ []) c.deref.ensures.value none) c.loop-joined.invariant.so_far

pub loop-joined-smaller : goal.loop-joined-smaller
loop-joined-smaller g c =
    let may = g.C.Chooses.answers c.args.self.now.chooser.now in
    let next = next_after c.args.self.now.ahead.now.uses.items c.args.self.now.column in
    let pair : Span = c.in-Some.pair in
    let joins = possible_joins c.deref.result.now c.args.pairs.now in
    let picked : IsPicked may (join_offer next) joins pair = subst (λ (o : Option Span). IsNextJoin may next joins o) c.in-Some.is c.in_ok-pair.ensures in
    let member : Contains (possible_joins c.loop-joined.spans.items c.args.pairs.now) pair =
    subst (λ (l : List Span). Contains (possible_joins l c.args.pairs.now) pair) c.deref.ensures.value (picked_is_option may (join_offer next) joins pair picked) in
    let pushed : c.push.new.self.items ≡ c.loop-joined.spans.items ++ pair ∷ [] = search rules in
    subst (λ (l : List Span). length (possible_joins l c.args.pairs.now) < length (possible_joins c.loop-joined.spans.items c.args.pairs.now)) (sym pushed)
    (possible_joins-less c.loop-joined.spans.items c.args.pairs.now pair member)
