use Rattle.greedy_column.proofs.joining.join_offers.Goals as goal
use Rattle.std.proofs.Common.{◌≡◌, ◌∷◌, ◌++◌, ◌∙◌, [], List, ap, map, rules, subst, sym, Contains, append_assoc}
use Rattle.choose_core.specs.declared.candidate.Candidate.{Candidate}
use Rattle.greedy_column.specs.declared.span.Span.{Span}
use Rattle.greedy_column.specs.Uses.{next_after}
use Rattle.greedy_column.specs.Offers.{join_offer}
use Rattle.std_laws.proofs.Members.{member-head, member-tail}

pub loop-pair-init : goal.loop-pair-init
loop-pair-init c = record {
  above = λ pair member. c.list-rest.ensures.are.above pair (subst (λ (l : List Span). Contains l pair) c.list-rest.ensures.list member);
  so_far = search rules;
}

pub join_offer-requires : goal.join_offer-requires
join_offer-requires c =
    let pair = c.in-Some.pair.now in
    let cut : c.loop-pair.rest.now ≡ pair ∷ c.in-Some.later.now = search rules in
    c.loop-pair.invariant.above pair (subst (λ (l : List Span). Contains l pair) (sym cut) (member-head pair c.in-Some.later.now))

pub loop-pair-preserved : goal.loop-pair-preserved
loop-pair-preserved c =
    let pair = c.in-Some.pair.now in
    let later = c.in-Some.later.now in
    let cut : c.loop-pair.rest.now ≡ pair ∷ later = search rules in
    let offered : Span → Candidate = join_offer (next_after c.args.ahead.now.uses.items c.args.column) in
    let pushed : c.push.new.self.items ≡ c.loop-pair.offers.items ++ c.join_offer.result ∷ [] = search rules in
    let told : c.push.new.self.items ≡ c.loop-pair.offers.items ++ offered pair ∷ [] =
    pushed ∙ ap (λ (o : Candidate). c.loop-pair.offers.items ++ o ∷ []) c.join_offer.ensures in
    record {
      above = λ other member. c.loop-pair.invariant.above other (subst (λ (l : List Span). Contains l other) (sym cut) (member-tail pair later other member));
      so_far = ap (λ (l : List Candidate). l ++ map offered later) told ∙ append_assoc c.loop-pair.offers.items (offered pair ∷ []) (map offered later)
          ∙ (rw cut at c.loop-pair.invariant).so_far;
    }
