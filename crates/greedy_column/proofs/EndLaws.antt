use Rattle.std.proofs.Common.{◌≡◌, ◌≢◌, ◌≤◌, ◌++◌, eqb, not, ℕ, List, [], ◌∷◌, Bool, true, false, cond, filter, length, map, get_or, refl, sym, subst, ap, ◌∙◌, arith, append_assoc, eq-eqb}
use Rattle.std.proofs.lemmas.Bool.{ne_eqb}
use Rattle.std.proofs.lemmas.List.{append-nil}
use Rattle.choose_core.specs.declared.candidate.Candidate.{Candidate}
use Rattle.choose_core.specs.declared.candidate.Next.{Next}
use Rattle.greedy_column.specs.declared.column.Track.{Track}
use Rattle.greedy_column.specs.declared.span.Span.{Span}
use Rattle.greedy_column.specs.Lines.{held_lines, net_on, own_lines}
use Rattle.greedy_column.specs.Joining.{neighbours}
use Rattle.greedy_column.specs.Ending.{AddsEnds, EndsButOne, EndsFollow, EndsOf, chain_from, groups, is_given_up, is_joined_above, is_joined_below, is_split, joined_pairs, others_of, outside}
use Rattle.greedy_column.specs.Offers.{IsPicked, keep_question, offer}
use Rattle.greedy_column.proofs.PairLaws.{chain_from-alone, chain_from-first}

-- of a group of more than one line, whose net has more to do, all end but one that is picked
pub ends_but_one : (may : List Candidate → ℕ → Type 0) (tracks : ℕ) (next : Next) (own others group : List ℕ) (kept : ℕ) (ending : List ℕ)
    → 2 ≤ length group → others ≡ outside group own
    → IsPicked may (offer (keep_question tracks next) others) group kept → ending ≡ others_of group kept → EndsButOne may tracks next own group ending
ends_but_one may tracks next own others [] kept ending long beside by is = absurd (omega arith)
ends_but_one may tracks next own others (one ∷ []) kept ending long beside by is = absurd (omega arith)
ends_but_one may tracks next own others (one ∷ (two ∷ group)) kept ending long beside by is = (
  kept,
  subst (λ l. IsPicked may (offer (keep_question tracks next) l) (one ∷ (two ∷ group)) kept) beside by,
  is,
)

-- the lines of a group that end, with each part as it was found
pub ends_same : (may : List Candidate → ℕ → Type 0) (tracks : ℕ) (ahead next : Next) (own lines : List ℕ) (gives given_up : Bool) (group chain ending : List ℕ)
    → ahead ≡ next → own ≡ lines → gives ≡ given_up → group ≡ chain → EndsOf may tracks ahead own gives group ending
    → EndsOf may tracks next lines given_up chain ending
ends_same may tracks ahead next own lines gives given_up group chain ending ahead_is own_is gives_is group_is ends =
    subst (λ n. EndsOf may tracks n lines given_up chain ending) ahead_is
    (subst (λ l. EndsOf may tracks ahead l given_up chain ending) own_is
    (subst (λ b. EndsOf may tracks ahead own b chain ending) gives_is
    (subst (λ l. EndsOf may tracks ahead own gives l ending) group_is ends)))

-- a group of one line
pub ends_single : (may : List Candidate → ℕ → Type 0) (tracks : ℕ) (next : Next) (own : List ℕ) (line : ℕ) (given_up : Bool)
    → EndsOf may tracks next own given_up (line ∷ []) (cond given_up (line ∷ []) [])
ends_single may tracks next own line true = refl
ends_single may tracks next own line false = refl

-- the lines that end of some groups and then of others
pub ends_append : (may : List Candidate → ℕ → Type 0) (next : ℕ → Next) (tracks : List Track) (spans : List Span) (groups others : List (List ℕ)) (xs ys : List ℕ)
    → EndsFollow may next tracks spans groups xs → EndsFollow may next tracks spans others ys → EndsFollow may next tracks spans (groups ++ others) (xs ++ ys)
ends_append may next tracks spans [] others xs ys none follow = subst (λ (l : List ℕ). EndsFollow may next tracks spans others (l ++ ys)) (sym none) follow
ends_append may next tracks spans (group ∷ groups) others xs ys (these, (rest, ends, later, is)) follow = (
  these,
  (
    rest ++ ys,
    ends,
    ends_append may next tracks spans groups others rest ys later follow,
    ap (λ l. l ++ ys) is ∙ append_assoc these rest ys,
  ),
)

pub groups-append : (joined : List Span) (xs ys : List ℕ) → groups joined (xs ++ ys) ≡ groups joined xs ++ groups joined ys
groups-append joined [] ys = refl
groups-append joined (x ∷ xs) ys = step (not (is_joined_below joined x)) (groups-append joined xs ys) where
  step : (b : Bool) → groups joined (xs ++ ys) ≡ groups joined xs ++ groups joined ys
      → map (chain_from joined) (cond b (x ∷ filter (λ line. not (is_joined_below joined line)) (xs ++ ys)) (filter (λ line. not (is_joined_below joined line)) (xs ++ ys)))
      ≡ map (chain_from joined) (cond b (x ∷ filter (λ line. not (is_joined_below joined line)) xs) (filter (λ line. not (is_joined_below joined line)) xs)) ++ groups joined ys
  step true later = ap (λ l. chain_from joined x ∷ l) later
  step false later = later

module _ (may : List Candidate → ℕ → Type 0) (next : ℕ → Next) (tracks : List Track) (spans joined : List Span) where
  -- of a free line, or of one that is joined to one below it, none is added
  pub adds_free : (net line : ℕ) (before : List ℕ) → net ≡ 0
      → AddsEnds may next tracks spans (groups joined (cond (not (eqb net 0)) (line ∷ []) [])) before before
  adds_free net line before free =
      let none : [] ≡ groups joined (cond (not (eqb net 0)) (line ∷ []) []) = ap (λ b. groups joined (cond (not b) (line ∷ []) [])) (sym (eq-eqb net 0 free)) in
      subst (λ l. AddsEnds may next tracks spans l before before) none (record { these = []; follow = refl; added = sym (append-nil before) })

  line_held : (net line : ℕ) (b : Bool) → net ≢ 0 → is_joined_below joined line ≡ b
      → groups joined (cond (not (eqb net 0)) (line ∷ []) []) ≡ map (chain_from joined) (cond (not b) (line ∷ []) [])
  line_held net line b held is =
      ap (λ t. groups joined (cond (not t) (line ∷ []) [])) (ne_eqb net 0 held)
      ∙ ap (λ t. map (chain_from joined) (cond (not t) (line ∷ []) [])) is

  pub adds_joined : (net line : ℕ) (before : List ℕ) → net ≢ 0 → is_joined_below joined line ≡ true
      → AddsEnds may next tracks spans (groups joined (cond (not (eqb net 0)) (line ∷ []) [])) before before
  adds_joined net line before held is =
      subst (λ l. AddsEnds may next tracks spans l before before) (sym (line_held net line true held is))
      (record { these = []; follow = refl; added = sym (append-nil before) })

  -- of a line that begins a group, those of the group are
  pub adds_begun : (net line : ℕ) (before after : List ℕ) → net ≢ 0 → is_joined_below joined line ≡ false
      → AddsEnds may next tracks spans (chain_from joined line ∷ []) before after
      → AddsEnds may next tracks spans (groups joined (cond (not (eqb net 0)) (line ∷ []) [])) before after
  adds_begun net line before after held is adds = subst (λ l. AddsEnds may next tracks spans l before after) (sym (line_held net line false held is)) adds

  -- a line that is joined to no other
  pub adds_alone : (line : ℕ) (split : Bool) (before after : List ℕ) → split ≡ is_split spans (neighbours tracks) (net_on tracks line)
      → is_joined_above joined line ≡ false → after ≡ before ++ cond (is_given_up (next (net_on tracks line)) split) (line ∷ []) []
      → AddsEnds may next tracks spans (chain_from joined line ∷ []) before after
  adds_alone line split before after split_is none is =
      let gives : Bool = is_given_up (next (net_on tracks line)) (is_split spans (neighbours tracks) (net_on tracks line)) in
      let these : List ℕ = cond gives (line ∷ []) [] in
      record {
        these = these;
        follow = subst (λ (g : List ℕ). EndsFollow may next tracks spans (g ∷ []) these) (sym (chain_from-alone joined line none)) (
          these,
          (
            [],
            ends_single may (length tracks) (next (net_on tracks line)) (own_lines (net_on tracks line) tracks) line gives,
            refl,
            sym (append-nil these),
          ),
        );
        added = is ∙ ap (λ (b : Bool). before ++ cond (is_given_up (next (net_on tracks line)) b) (line ∷ []) []) split_is;
      }

  -- a line that is joined to others above it
  pub adds_chain : (line : ℕ) (split : Bool) (before these after : List ℕ) → split ≡ is_split spans (neighbours tracks) (net_on tracks line)
      → EndsOf may (length tracks) (next (net_on tracks line)) (own_lines (net_on tracks line) tracks)
      (is_given_up (next (net_on tracks line)) split) (chain_from joined line) these
      → after ≡ before ++ these → AddsEnds may next tracks spans (chain_from joined line ∷ []) before after
  adds_chain line split before these after split_is ends is =
      let first : net_on tracks line ≡ net_on tracks (get_or (chain_from joined line) 0 0) = sym (ap (net_on tracks) (chain_from-first joined line)) in
      let here : EndsOf may (length tracks) (next (net_on tracks (get_or (chain_from joined line) 0 0))) (own_lines (net_on tracks (get_or (chain_from joined line) 0 0)) tracks)
      (is_given_up (next (net_on tracks (get_or (chain_from joined line) 0 0))) (is_split spans (neighbours tracks) (net_on tracks (get_or (chain_from joined line) 0 0))))
      (chain_from joined line) these =
      ends_same may (length tracks) _ _ _ _ _ _ (chain_from joined line) (chain_from joined line) these (ap next first) (ap (λ n. own_lines n tracks) first)
      (ap (is_given_up (next (net_on tracks line))) split_is
      ∙ ap (λ n. is_given_up (next n) (is_split spans (neighbours tracks) n)) first) refl ends in
      record { these = these; follow = (these, ([], here, refl, sym (append-nil these))); added = is }

  -- the lines that end of the groups of some lines, before the rest of those that are held
  pub record EndsSoFar (rest ending : List ℕ) : Type 0 where
    pub front : List ℕ
    pub left : front ++ rest ≡ held_lines tracks
    pub follow : EndsFollow may next tracks spans (groups joined front) ending

  pub so_far_none : (rest : List ℕ) → rest ≡ held_lines tracks → EndsSoFar rest []
  so_far_none rest all = record { front = []; left = all; follow = refl }

  pub so_far_more : (here later ending more : List ℕ) → EndsSoFar (here ++ later) ending → AddsEnds may next tracks spans (groups joined here) ending more
      → EndsSoFar later more
  so_far_more here later ending more so_far adds = record {
    front = so_far.front ++ here;
    left = append_assoc so_far.front here later ∙ so_far.left;
    follow = subst (λ (l : List ℕ). EndsFollow may next tracks spans (groups joined (so_far.front ++ here)) l) (sym adds.added)
        (subst (λ (l : List (List ℕ)). EndsFollow may next tracks spans l (ending ++ adds.these)) (sym (groups-append joined so_far.front here))
        (ends_append may next tracks spans (groups joined so_far.front) (groups joined here) ending adds.these so_far.follow adds.follow));
  }

  pub so_far_all : (rest ending : List ℕ) (pairs : List Span) → rest ≡ [] → joined ≡ joined_pairs spans pairs → pairs ≡ neighbours tracks → EndsSoFar rest ending
      → EndsFollow may next tracks spans (groups (joined_pairs spans (neighbours tracks)) (held_lines tracks)) ending
  so_far_all rest ending pairs none joined_are pairs_are so_far =
      subst (λ (l : List Span). EndsFollow may next tracks spans (groups l (held_lines tracks)) ending) (joined_are ∙ ap (joined_pairs spans) pairs_are)
      (subst (λ (l : List ℕ). EndsFollow may next tracks spans (groups joined l) ending)
      (sym (append-nil so_far.front) ∙ ap (λ l. so_far.front ++ l) (sym none) ∙ so_far.left) so_far.follow)
