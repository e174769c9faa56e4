use Rattle.std.proofs.Common.{◌≡◌, ◌∷◌, ◌&&◌, ◌∙◌, [], leb, List, ℕ, get_or, sym, ap, subst, rules}
use Rattle.std.proofs.lemmas.List.{nil_from_length}
use Rattle.greedy_column.specs.declared.uses.Use.{Use}
use Rattle.greedy_column.specs.Entering.{is_ending}
use Rattle.greedy_column.specs.Uses.{AreAtEdges, next_after}
use Rattle.greedy_column.proofs.LastLaws.{lasts_all, lasts_more, lasts_none}
use Rattle.greedy_column.proofs.lasts.lasts_of.Goals as goal

pub loop-used-init : goal.loop-used-init
loop-used-init c = record {
  edges = c.requires;
  so_far = λ column net. lasts_none c.args.uses.now column net c.new-lasts.result.items c.new-lasts.ensures.items;
}

pub loop-used-preserved : goal.loop-used-preserved
loop-used-preserved c =
    let used : Use = c.in-Some.used.now in
    let others : List Use = c.in-Some.others.now in
    let was : List ℕ = c.loop-used.lasts.items in
    let cut : c.loop-used.rest.now ≡ used ∷ others = search rules in
    let are : AreAtEdges (used ∷ others) = subst (λ (l : List Use). AreAtEdges l) cut c.loop-used.invariant.edges in
    record {
      edges = are.1;
      so_far = lasts_more used others c.args.uses.now was c.note_use.new.lasts.items are.0 c.in_ok-note_use.ensures
          (λ column net. ap (λ (l : List Use). leb (get_or was net 0) column && is_ending (next_after l column net)) (sym cut)
          ∙ c.loop-used.invariant.so_far column net);
    }

pub returns : goal.returns
returns c =
    let none : c.loop-used.rest.now ≡ [] = nil_from_length c.loop-used.rest.now c.in_default.ensures.cases in
    λ column net. lasts_all c.loop-used.rest.now c.args.uses.now c.loop-used.lasts.items column net none (c.loop-used.invariant.so_far column net)
