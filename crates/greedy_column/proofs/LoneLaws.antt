use Rattle.std.proofs.Common.{◌≡◌, ◌+◌, ◌-◌, ◌++◌, ◌&&◌, ◌∙◌, not, eqb, leb, ℕ, suc, List, [], ◌∷◌, Bool, true, false, cond, length, map, get_or, refl, sym, subst, ap, arith, append_assoc}
use Rattle.std.proofs.lemmas.List.{append-nil}
use Rattle.choose_core.specs.declared.candidate.Candidate.{Candidate}
use Rattle.choose_core.specs.declared.candidate.Next.{Next}
use Rattle.greedy_column.specs.declared.column.Track.{Track}
use Rattle.greedy_column.specs.declared.span.Span.{Span}
use Rattle.greedy_column.specs.Lines.{is_held, lines_from, net_on, own_lines}
use Rattle.greedy_column.specs.Joining.{neighbours}
use Rattle.greedy_column.specs.Desk.{is_marked}
use Rattle.greedy_column.specs.Entering.{is_ending}
use Rattle.greedy_column.specs.Ending.{EndsFollow, ends_alone, groups, is_given_up, is_split}
use Rattle.greedy_column.proofs.EndLaws.{ends_append, ends_single, groups-append}

-- the net of a track behind others
net_behind : (front above : List Track) (t : Track) → get_or (map (λ (u : Track). u.net) (front ++ t ∷ above)) (length front) 0 ≡ t.net
net_behind [] above t = refl
net_behind (u ∷ front) above t = net_behind front above t

pub net_on-behind : (front above tracks : List Track) (t : Track) (line : ℕ) → front ++ t ∷ above ≡ tracks → line ≡ length front + 1 → net_on tracks line ≡ t.net
net_on-behind front above tracks t line cut is =
    let place : line - 1 ≡ length front = omega arith in
    ap (λ k. get_or (map (λ (u : Track). u.net) tracks) k 0) place
    ∙ ap (λ (l : List Track). get_or (map (λ (u : Track). u.net) l) (length front) 0) (sym cut) ∙ net_behind front above t

module _ (may : List Candidate → ℕ → Type 0) (next : ℕ → Next) (tracks : List Track) (spans : List Span) where
  -- a line alone ends where its net gives up all its tracks
  one_alone : (line : ℕ) (gives : Bool) → gives ≡ is_given_up (next (net_on tracks line)) (is_split spans (neighbours tracks) (net_on tracks line))
      → EndsFollow may next tracks spans ((line ∷ []) ∷ []) (cond gives (line ∷ []) [])
  one_alone line gives is =
      let given : Bool = is_given_up (next (net_on tracks line)) (is_split spans (neighbours tracks) (net_on tracks line)) in
      subst (λ (b : Bool). EndsFollow may next tracks spans ((line ∷ []) ∷ []) (cond b (line ∷ []) [])) (sym is) (
        cond given (line ∷ []) [],
        (
          [],
          ends_single may (length tracks) (next (net_on tracks line)) (own_lines (net_on tracks line) tracks) line given,
          refl,
          sym (append-nil (cond given (line ∷ []) [])),
        ),
      )

  -- the lines that end of groups of one line
  module _ (lasts marks : List ℕ) (column : ℕ) (last : (net : ℕ) → leb (get_or lasts net 0) column ≡ is_ending (next net))
      (split : (net : ℕ) → is_marked marks net ≡ is_split spans (neighbours tracks) net) where
    gives_from : (net line : ℕ) → net_on tracks line ≡ net
        → (leb (get_or lasts net 0) column && eqb (get_or marks net 0) 0) ≡ is_given_up (next (net_on tracks line)) (is_split spans (neighbours tracks) (net_on tracks line))
    gives_from net line is =
        ap (λ b. b && eqb (get_or marks net 0) 0) (last net)
        ∙ ap (λ b. is_ending (next net) && b) (twice (eqb (get_or marks net 0) 0) ∙ ap (λ b. not b) (split net))
        ∙ ap (λ n. is_given_up (next n) (is_split spans (neighbours tracks) n)) (sym is) where
          twice : (b : Bool) → b ≡ not (not b)
          twice true = refl
          twice false = refl

    one_follows : (t : Track) (line : ℕ) → net_on tracks line ≡ t.net
        → EndsFollow may next tracks spans (groups [] (cond (is_held t) (line ∷ []) [])) (cond (ends_alone lasts marks column t) (line ∷ []) [])
    one_follows t line is = step (is_held t) (leb (get_or lasts t.net 0) column && eqb (get_or marks t.net 0) 0) (gives_from t.net line is) where
      step : (held gives : Bool) → gives ≡ is_given_up (next (net_on tracks line)) (is_split spans (neighbours tracks) (net_on tracks line))
          → EndsFollow may next tracks spans (groups [] (cond held (line ∷ []) [])) (cond (held && gives) (line ∷ []) [])
      step true gives given = one_alone line gives given
      step false gives given = refl

    pub lone_follow : (front rest : List Track) (line : ℕ) → front ++ rest ≡ tracks → line ≡ length front + 1
        → EndsFollow may next tracks spans (groups [] (lines_from is_held line rest)) (lines_from (ends_alone lasts marks column) line rest)
    lone_follow front [] line cut is = refl
    lone_follow front (t ∷ above) line cut is =
        let here : List ℕ = cond (is_held t) (line ∷ []) [] in
        let later = lone_follow (front ++ t ∷ []) above (suc line) (append_assoc front (t ∷ []) above ∙ cut) (longer front t line is) in
        subst (λ (g : List (List ℕ)). EndsFollow may next tracks spans g (lines_from (ends_alone lasts marks column) line (t ∷ above)))
        (sym (groups-append [] here (lines_from is_held (suc line) above)))
        (ends_append may next tracks spans (groups [] here) (groups [] (lines_from is_held (suc line) above)) (cond (ends_alone lasts marks column t) (line ∷ []) [])
        (lines_from (ends_alone lasts marks column) (suc line) above) (one_follows t line (net_on-behind front above tracks t line cut is)) later) where
          longer : (front : List Track) (t : Track) (line : ℕ) → line ≡ length front + 1 → suc line ≡ length (front ++ t ∷ []) + 1
          longer front t line is = omega (arith, grow front t, is) where
            grow : (front : List Track) (t : Track) → length (front ++ t ∷ []) ≡ length front + 1
            grow [] t = refl
            grow (u ∷ front) t = omega (arith, grow front t)
