use Rattle.std.proofs.Common.{◌≡◌, ◌≢◌, inl, inr, not, eqb, ℕ, List, [], ◌∷◌, Bool, true, false, length, map, get_or, refl, sym, subst, ap, Contains, eq-eqb}
use Rattle.std.proofs.lemmas.Bool.{ne_eqb}
use Rattle.std.proofs.lemmas.List.Elements.{Contains-append_cases, Contains-append_left, Contains-append_right}
use Rattle.choose_core.specs.declared.candidate.Candidate.{Candidate}
use Rattle.choose_core.specs.declared.candidate.Next.{Next}
use Rattle.greedy_column.specs.declared.column.Track.{Track}
use Rattle.greedy_column.specs.declared.span.Span.{Span}
use Rattle.greedy_column.specs.Lines.{net_on, own_lines}
use Rattle.greedy_column.specs.Offers.{offer, keep_question}
use Rattle.greedy_column.specs.Ending.{EndsFollow, EndsOf, EndsButOne, outside, chain_from, next_on, gives_up}
use Rattle.greedy_column.proofs.PickLaws.{picked_is_option}
use Rattle.greedy_column.proofs.IdLaws.{Apart}
use Rattle.std_laws.proofs.Members.{member-none, member-only, member-head, member-tail, member-cases, filter-member, filter-from}

-- of a group all lines end but one
pub record KeepsOne (group these : List ℕ) : Type 0 where
  pub kept : ℕ
  pub member : Contains group kept
  pub goes_on : Contains these kept → ⊥
  pub others : (line : ℕ) → Contains group line → line ≢ kept → Contains these line

-- the lines of a group's net
abbrev pub owned : List Track → List ℕ → List ℕ
owned now group = own_lines (net_on now (get_or group 0 0)) now

module _ (may : List Candidate → ℕ → Type 0) where
  all_but_one : (tracks : ℕ) (next : Next) (own group these : List ℕ) (line : ℕ) → Contains group line → EndsButOne may tracks next own group these → KeepsOne group these
  all_but_one tracks next own [] these line member ends = absurd (member-none line member)
  all_but_one tracks next own (one ∷ []) these line member none = record {
    kept = one;
    member = member-head one [];
    goes_on = λ there. member-none one (subst (λ l. Contains l one) none there);
    others = λ l there other. absurd (other (sym (member-only one l there)));
  }
  all_but_one tracks next own (one ∷ (two ∷ group)) these line member (kept, by, is) = record {
    kept = kept;
    member = picked_is_option may (offer (keep_question tracks next) (outside (one ∷ (two ∷ group)) own)) (one ∷ (two ∷ group)) kept by;
    goes_on = λ there. let test = (filter-from (λ l. not (eqb l kept)) (one ∷ (two ∷ group)) kept (subst (λ l. Contains l kept) is there)).1 in
        cc (ap not (eq-eqb kept kept refl), test);
    others = λ l there other. subst (λ m. Contains m l) (sym is)
        (filter-member (λ m. not (eqb m kept)) (one ∷ (two ∷ group)) l there (ap not (ne_eqb l kept other)));
  }

  pub ends_kept : (tracks : ℕ) (next : Next) (own : List ℕ) (given : Bool) (group these : List ℕ) (line : ℕ) → given ≡ false → Contains group line
      → EndsOf may tracks next own given group these → KeepsOne group these
  ends_kept tracks next own true group these line is member ends = absurd (cc is)
  ends_kept tracks next own false group these line is member ends = all_but_one tracks next own group these line member ends

  pub ends_given : (tracks : ℕ) (next : Next) (own : List ℕ) (given : Bool) (group these : List ℕ) → given ≡ true → EndsOf may tracks next own given group these → these ≡ group
  ends_given tracks next own true group these is ends = ends
  ends_given tracks next own false group these is ends = absurd (cc is)

  -- what ends of a group is in it
  but_one_within : (tracks : ℕ) (next : Next) (own group these : List ℕ) (line : ℕ) → EndsButOne may tracks next own group these → Contains these line → Contains group line
  but_one_within tracks next own [] these line none member = absurd (member-none line (subst (λ l. Contains l line) none member))
  but_one_within tracks next own (one ∷ []) these line none member = absurd (member-none line (subst (λ l. Contains l line) none member))
  but_one_within tracks next own (one ∷ (two ∷ group)) these line (kept, by, is) member =
      (filter-from (λ l. not (eqb l kept)) (one ∷ (two ∷ group)) line (subst (λ l. Contains l line) is member)).0

  ends_within : (tracks : ℕ) (next : Next) (own : List ℕ) (given : Bool) (group these : List ℕ) (line : ℕ) → EndsOf may tracks next own given group these → Contains these line
      → Contains group line
  ends_within tracks next own true group these line is member = subst (λ l. Contains l line) is member
  ends_within tracks next own false group these line ends member = but_one_within tracks next own group these line ends member

  module _ (next : ℕ → Next) (now : List Track) (spans joined : List Span) where
    -- what ends is in a group
    pub ended_in : (lines ending : List ℕ) (line : ℕ) → EndsFollow may next now spans (map (chain_from joined) lines) ending → Contains ending line
        → (first : ℕ) × Contains lines first × Contains (chain_from joined first) line
    ended_in [] ending line none member = absurd (member-none line (subst (λ l. Contains l line) none member))
    ended_in (one ∷ lines) ending line (these, (others, here, follow, is)) member =
        elim (Contains-append_cases these others line (subst (λ l. Contains l line) is member)) [
          | inl own ↦ (
            one,
            member-head one lines,
            ends_within (length now) (next_on next now (chain_from joined one)) (owned now (chain_from joined one)) (gives_up next now spans (chain_from joined one)) (chain_from joined one) these line here own,
          )
          | inr later ↦ let rest = ended_in lines others line follow later in (rest.0, member-tail one lines rest.0 rest.1, rest.2)
        ]

    -- the lines of a group that end, and no other line of it does
    pub record EndsIn (ending group : List ℕ) : Type 0 where
      pub these : List ℕ
      pub ends : EndsOf may (length now) (next_on next now group) (owned now group) (gives_up next now spans group) group these
      pub all : (line : ℕ) → Contains these line → Contains ending line
      pub only : (line : ℕ) → Contains group line → Contains ending line → Contains these line

    pub ends_in : (lines ending : List ℕ) (first : ℕ) → Apart lines
        → ((one two line : ℕ) → Contains lines one → Contains lines two → Contains (chain_from joined one) line → Contains (chain_from joined two) line → one ≡ two)
        → EndsFollow may next now spans (map (chain_from joined) lines) ending → Contains lines first → EndsIn ending (chain_from joined first)
    ends_in [] ending first apart divided follow member = absurd (member-none first member)
    ends_in (one ∷ lines) ending first apart divided (these, (others, here, follow, is)) member = elim (member-cases one lines first member) [
      | inl same ↦ subst (λ f. EndsIn ending (chain_from joined f)) same (record {
        these = these;
        ends = here;
        all = λ line own. subst (λ l. Contains l line) (sym is) (Contains-append_left these others line own);
        only = λ line inside ended. elim (Contains-append_cases these others line (subst (λ l. Contains l line) is ended)) [
          | inl own ↦ own
          | inr later ↦
              let other = ended_in lines others line follow later in
              let equal : one ≡ other.0 = divided one other.0 line (member-head one lines) (member-tail one lines other.0 other.1) inside other.2 in
              absurd (apart.0 (subst (λ l. Contains lines l) (sym equal) other.1))
        ];
      })
      | inr behind ↦
          let rest = ends_in lines others first apart.1
          (λ f g line a b m n. divided f g line (member-tail one lines f a) (member-tail one lines g b) m n) follow behind in
          record {
            these = rest.these;
            ends = rest.ends;
            all = λ line own. subst (λ l. Contains l line) (sym is) (Contains-append_right these others line (rest.all line own));
            only = λ line inside ended. elim (Contains-append_cases these others line (subst (λ l. Contains l line) is ended)) [
              | inr later ↦ rest.only line inside later
              | inl own ↦
                  let there = ends_within (length now) (next_on next now (chain_from joined one)) (owned now (chain_from joined one)) (gives_up next now spans (chain_from joined one)) (chain_from joined one) these line here own in
                  let equal : one ≡ first = divided one first line (member-head one lines) member there inside in
                  absurd (apart.0 (subst (λ l. Contains lines l) (sym equal) behind))
            ];
          }
    ]
