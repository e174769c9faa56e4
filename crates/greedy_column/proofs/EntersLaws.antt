use Rattle.std.proofs.Common.{◌≡◌, ◌≢◌, inl, inr, ◌<◌, ◌+◌, eqb, ltb, ℕ, List, [], ◌∷◌, cond, length, sym, subst, ap, ◌∙◌, arith, Contains, eq-eqb}
use Rattle.std.proofs.lemmas.Bool.{ne_eqb, cases_eq, ltb-true}
use Rattle.choose_core.specs.declared.candidate.Candidate.{Candidate}
use Rattle.choose_core.specs.declared.plan.Manner.{Manner}
use Rattle.greedy_column.specs.declared.column.Track.{Track}
use Rattle.greedy_column.specs.declared.entering.EnteringPin.{EnteringPin}
use Rattle.greedy_column.specs.declared.entering.Entries.{Entries}
use Rattle.greedy_column.specs.declared.entering.PinKind.{PinKind}
use Rattle.greedy_column.specs.declared.entering.PinKind.TheVariants.{NoPins, BottomAlone, TopAlone, EqualPins, TwoPins}
use Rattle.greedy_column.specs.declared.entering.Newcomer.{Newcomer}
use Rattle.greedy_column.specs.declared.entering.Newcomer.TheVariants.{TopPin, BottomPin, BothPins}
use Rattle.greedy_column.specs.Tracks.{ids, line_of}
use Rattle.greedy_column.specs.Lines.{below_line, id_on, own_lines, holds_track}
use Rattle.greedy_column.specs.Offers.{offer}
use Rattle.greedy_column.specs.State.{AreNumbered}
use Rattle.greedy_column.specs.Entering.{EntersPair, EntersNew, newcomer_of, pin_kind, top_question, bottom_question}
use Rattle.greedy_column.proofs.PickLaws.{picked_is_option}
use Rattle.greedy_column.proofs.IdLaws.{Apart-from}
use Rattle.greedy_column.proofs.TableLaws.{line_of-line, id_on-member}
use Rattle.greedy_column.proofs.EntryLaws.{IsOpenLine, IsOpen-from, MayBeEntered}
use Rattle.std_laws.proofs.Members.{member-head, member-tail, filter-from}

-- what a column's kind tells of the nets of its pins
abbrev pub KindSays : ℕ → ℕ → PinKind → Type 0
KindSays a b NoPins = (a ≡ 0) × (b ≡ 0)
KindSays a b BottomAlone = (a ≡ 0) × (0 < b)
KindSays a b TopAlone = (0 < a) × (b ≡ 0)
KindSays a b EqualPins = (0 < a) × (a ≡ b)
KindSays a b TwoPins = (0 < a) × (0 < b) × (a ≢ b)

pub kind_says : (a b : ℕ) → KindSays a b (pin_kind a b)
kind_says a b = elim (cases_eq a b) [
  | inl same ↦ subst (λ c. KindSays a b (cond c (cond (eqb a 0) NoPins EqualPins) (cond (eqb a 0) BottomAlone (cond (eqb b 0) TopAlone TwoPins)))) (sym (eq-eqb a b same))
      (elim (cases_eq a 0) [
        | inl none ↦ subst (λ c. KindSays a b (cond c NoPins EqualPins)) (sym (eq-eqb a 0 none)) (none, sym same ∙ none)
        | inr some ↦ subst (λ c. KindSays a b (cond c NoPins EqualPins)) (sym (ne_eqb a 0 some)) (omega arith, same)
      ])
  | inr other ↦ subst (λ c. KindSays a b (cond c (cond (eqb a 0) NoPins EqualPins) (cond (eqb a 0) BottomAlone (cond (eqb b 0) TopAlone TwoPins)))) (sym (ne_eqb a b other))
      (elim (cases_eq a 0) [
        | inl none ↦ subst (λ c. KindSays a b (cond c BottomAlone (cond (eqb b 0) TopAlone TwoPins))) (sym (eq-eqb a 0 none)) (none, omega arith)
        | inr some ↦ subst (λ c. KindSays a b (cond c BottomAlone (cond (eqb b 0) TopAlone TwoPins))) (sym (ne_eqb a 0 some))
            (elim (cases_eq b 0) [
              | inl gone ↦ subst (λ c. KindSays a b (cond c TopAlone TwoPins)) (sym (eq-eqb b 0 gone)) (omega arith, gone)
              | inr there ↦ subst (λ c. KindSays a b (cond c TopAlone TwoPins)) (sym (ne_eqb b 0 there)) (omega arith, omega arith, other)
            ])
      ])
]

-- two pins enter different tracks, each open to its net or made
pub record EnterBoth (before : List Track) (a b : ℕ) (entries : Entries) : Type 0 where
  pub top : MayBeEntered before entries.made a entries.top
  pub bottom : MayBeEntered before entries.made b entries.bottom
  pub apart : entries.top ≢ entries.bottom

module _ (manner : Manner) (may : List Candidate → ℕ → Type 0) (before : List Track) (fresh : ℕ) (numbered : AreNumbered fresh before) where
  old_id : (net line : ℕ) → IsOpenLine before net line → id_on before line ≢ fresh
  old_id net line is same = let less = numbered.below (id_on before line) (id_on-member before line is.begins is.within) in omega (arith, less, same)

  pub new_both : (top bottom : EnteringPin) (uppers lowers : List ℕ) (new : Newcomer) (entries : Entries) → 0 < top.net → 0 < bottom.net
      → ((line : ℕ) → Contains uppers line → IsOpenLine before top.net line) → ((line : ℕ) → Contains lowers line → IsOpenLine before bottom.net line)
      → EntersNew manner may top bottom before fresh uppers lowers new entries → EnterBoth before top.net bottom.net entries
  new_both top bottom uppers lowers TopPin entries some too above below (line, by, is) =
      let own = below line (picked_is_option may (offer (bottom_question bottom) (own_lines bottom.net before)) lowers line by) in
      subst (λ (e : Entries). EnterBoth before top.net bottom.net e) (sym is) (record {
        top = inr (member-head fresh []);
        bottom = inl (IsOpen-from before bottom.net line (Apart-from (ids before) numbered.distinct) too own);
        apart = λ same. old_id bottom.net line own (sym same);
      })
  new_both top bottom uppers lowers BottomPin entries some too above below (line, by, is) =
      let own = above line (picked_is_option may (offer (top_question top (length before)) (own_lines top.net before)) uppers line by) in
      subst (λ (e : Entries). EnterBoth before top.net bottom.net e) (sym is) (record {
        top = inl (IsOpen-from before top.net line (Apart-from (ids before) numbered.distinct) some own);
        bottom = inr (member-head fresh []);
        apart = λ same. old_id top.net line own same;
      })
  new_both top bottom uppers lowers BothPins entries some too above below is =
      subst (λ (e : Entries). EnterBoth before top.net bottom.net e) (sym is) (record {
        top = inr (member-tail fresh ((fresh + 1) ∷ []) (fresh + 1) (member-head (fresh + 1) []));
        bottom = inr (member-head fresh ((fresh + 1) ∷ []));
        apart = λ same. omega (arith, same);
      })

  pub pair_both : (top bottom : EnteringPin) (uppers lowers partnered : List ℕ) (entries : Entries) → 0 < top.net → 0 < bottom.net
      → ((line : ℕ) → Contains partnered line → Contains uppers line)
      → ((line : ℕ) → Contains uppers line → IsOpenLine before top.net line) → ((line : ℕ) → Contains lowers line → IsOpenLine before bottom.net line)
      → EntersPair manner may top bottom before fresh uppers lowers partnered entries → EnterBoth before top.net bottom.net entries
  pair_both top bottom uppers lowers [] entries some too within above below enters =
      new_both top bottom uppers lowers (newcomer_of manner (holds_track before top.net) (holds_track before bottom.net) uppers lowers) entries some too above below enters
  pair_both top bottom uppers lowers (first ∷ others) entries some too within above below (line, by, (partner, at, is)) =
      let upper = above line (within line (picked_is_option may (offer (top_question top (length before)) (own_lines top.net before)) (first ∷ others) line by)) in
      let found = filter-from (λ l. ltb l line) lowers partner (picked_is_option may (offer (bottom_question bottom) (own_lines bottom.net before)) (below_line line lowers) partner at) in
      let lower = below partner found.0 in
      let order : partner < line = ltb-true partner line found.1 in
      let apart = Apart-from (ids before) numbered.distinct in
      subst (λ (e : Entries). EnterBoth before top.net bottom.net e) (sym is) (record {
        top = inl (IsOpen-from before top.net line apart some upper);
        bottom = inl (IsOpen-from before bottom.net partner apart too lower);
        apart = λ same.
            let first_line = line_of-line before line apart upper.begins upper.within in
            let second_line = line_of-line before partner apart lower.begins lower.within in
            omega (arith, order, first_line, second_line, ap (line_of (ids before)) same);
      })
