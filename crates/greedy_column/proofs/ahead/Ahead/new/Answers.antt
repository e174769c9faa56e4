use Rattle.std.proofs.Common.{◌≡◌, refl, ◌∙◌, ap, subst, sym, rules, arith, ℕ, List, length}
use Rattle.std.specs.Ordering.{nat_cmp}
use Rattle.std.specs.List.Sorted.{IsNonDecreasingBy, IsStableByKey}
use Rattle.greedy_column.specs.declared.uses.Use.{Use}
use Rattle.greedy_column.specs.Entering.{is_ending}
use Rattle.greedy_column.specs.Uses.{AreAtEdges, AreLasts, AreSorted, next_after, uses_from}
use Rattle.greedy_column.proofs.LastLaws.{AreAtEdges-from}
use Rattle.greedy_column.proofs.UseLaws.{Rise, AreSorted-from_sort, next_after-stable, uses_from-rise, next_after-pins, next_of-parts}
use Rattle.greedy_column.proofs.ahead.Ahead.new.Goals as goal

are_sorted : (top bottom : List ℕ) (found sorted : List Use) → found ≡ uses_from top bottom 0 → IsNonDecreasingBy (λ (u : Use). u.net) sorted
    → IsStableByKey (λ (u : Use). u.net) nat_cmp found sorted → AreSorted sorted
are_sorted top bottom found sorted is rising stable =
    AreSorted-from_sort 0 found sorted (subst (λ (l : List Use). Rise 0 l) (sym is) (uses_from-rise top bottom 0)) rising stable

pub lasts_of-requires : goal.lasts_of-requires
lasts_of-requires c =
    subst (λ (l : List Use). AreAtEdges l) (sym (c.deref.ensures.value ∙ c.in_ok-uses.ensures.uses))
    (AreAtEdges-from c.args.channel.now.top c.args.channel.now.bottom 0)

pub starts_of-requires-clause-sorted : goal.starts_of-requires-clause-sorted
starts_of-requires-clause-sorted c =
    subst (λ (l : List Use). AreSorted l) (sym c.deref-2.ensures.value)
    (are_sorted c.args.channel.now.top c.args.channel.now.bottom c.in_ok-uses.uses.items c.sort_by_net.new.uses.items c.in_ok-uses.ensures.uses
    c.in_ok-sort_by_net.ensures.sorted c.in_ok-sort_by_net.ensures.stable)

pub starts_of-requires-clause-few : goal.starts_of-requires-clause-few
starts_of-requires-clause-few c =
    omega (arith, ap (λ (l : List Use). length l) c.deref-2.ensures.value, c.in_ok-sort_by_net.ensures.long, c.in_ok-uses.ensures.few)

pub invariant_of-result : goal.invariant_of-result
invariant_of-result c = record {
  sorted = are_sorted c.args.channel.now.top c.args.channel.now.bottom c.in_ok-uses.uses.items c.sort_by_net.new.uses.items c.in_ok-uses.ensures.uses
      c.in_ok-sort_by_net.ensures.sorted c.in_ok-sort_by_net.ensures.stable;
  begun = search rules;
  ended = λ column net.
      subst (λ (l : List Use). AreLasts l c.in_ok-lasts.lasts.items) c.deref.ensures.value c.in_ok-lasts.ensures column net
      ∙ ap is_ending (sym (next_after-stable c.in_ok-uses.uses.items c.sort_by_net.new.uses.items column net c.in_ok-sort_by_net.ensures.stable));
}

pub returns : goal.returns
returns c = λ column net.
    next_after-stable c.in_ok-uses.uses.items c.sort_by_net.new.uses.items column net c.in_ok-sort_by_net.ensures.stable
    ∙ ap (λ (l : List Use). next_after l column net) c.in_ok-uses.ensures.uses
    ∙ next_after-pins c.args.channel.now.top c.args.channel.now.bottom column net
    ∙ next_of-parts c.args.channel.now c.args.channel.now.top c.args.channel.now.bottom column net refl refl
