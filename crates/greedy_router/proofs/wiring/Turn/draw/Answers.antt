use Rattle.std.proofs.Common.{ℕ, List, length, ap, arith, rules, sym, ◌∙◌}
use Rattle.greedy_router.specs.Tables.{HasAll}
use Rattle.greedy_router.proofs.wiring.Turn.draw.Goals as goal

pub returns-clause-all : goal.returns-clause-all
returns-clause-all c =
    let marked = c.mark.ensures in
    let since = ap (λ (l : List ℕ). length l) marked.since in
    let all : HasAll c.args.self.now.order.now c.mark.new.self = record {
      within = λ id member. let less = c.requires.all.within id member in omega (arith, less, since);
      nets = ap (λ (l : List ℕ). length l) marked.nets ∙ c.requires.all.nets ∙ sym since;
      laters = ap (λ (l : List ℕ). length l) marked.laters ∙ c.requires.all.laters ∙ sym since;
      lefts = marked.lefts_long ∙ c.requires.all.lefts ∙ sym since;
      ends = marked.ends_long ∙ c.requires.all.ends ∙ sym since;
    } in
    search (rules, all)

pub invariant_of-moment : goal.invariant_of-moment
invariant_of-moment c = record {
  left = λ id member. c.mark.ensures.lefts id (let less = c.requires.all.within id member in omega (arith, less, c.requires.all.lefts));
  ended = λ id member. c.mark.ensures.ends id (let less = c.requires.all.within id member in omega (arith, less, c.requires.all.ends));
}
