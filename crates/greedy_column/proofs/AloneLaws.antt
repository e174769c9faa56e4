use Rattle.std.proofs.Common.{◌≡◌, inl, inr, ◌<◌, ◌+◌, ◌-◌, ◌++◌, eqb, not, ℕ, zero, suc, List, [], ◌∷◌, Bool, true, false, cond, length, get_or, refl, sym, subst, ap, ◌∙◌, arith, Contains, eq-eqb}
use Rattle.std.proofs.lemmas.List.Elements.{Contains-append_left, Contains-append_right}
use Rattle.std.proofs.lemmas.List.Sums.{sum_by-cons}
use Rattle.std.specs.List.{count_by}
use Rattle.greedy_column.specs.declared.column.Track.{Track}
use Rattle.greedy_column.specs.Lines.{lines_from, net_on, own_lines}
use Rattle.greedy_column.specs.Moving.{without}
use Rattle.greedy_column.proofs.TableLaws.{nets}
use Rattle.std_laws.proofs.Members.{member-none, member-head, member-cases}

abbrev own_from : ℕ → ℕ → List Track → List ℕ
own_from net first tracks = lines_from (λ (t : Track). eqb t.net net) first tracks

-- a net has as many lines as it holds tracks
own_count : (net first : ℕ) (tracks : List Track) → length (own_from net first tracks) ≡ count_by (λ (t : Track). eqb t.net net) tracks
own_count net first [] = refl
own_count net first (t ∷ tracks) = step (eqb t.net net) (own_count net (suc first) tracks) ∙ sym (sum_by-cons (λ (u : Track). cond (eqb u.net net) 1 0) t tracks) where
  step : (b : Bool) → length (own_from net (suc first) tracks) ≡ count_by (λ (u : Track). eqb u.net net) tracks
      → length (cond b (first ∷ []) [] ++ own_from net (suc first) tracks) ≡ cond b 1 0 + count_by (λ (u : Track). eqb u.net net) tracks
  step true later = omega (arith, later)
  step false later = omega (arith, later)

-- the place of a track is listed for its net
pub own_at : (net first k : ℕ) (tracks : List Track) → 0 < net → get_or (nets tracks) k 0 ≡ net → Contains (own_from net first tracks) (first + k)
own_at net first k [] some held = absurd (omega (arith, some, held))
own_at net first zero (t ∷ tracks) some held =
    let e : first ≡ first + zero = omega arith in
    subst (λ l. Contains (own_from net first (t ∷ tracks)) l) e
    (Contains-append_left (cond (eqb t.net net) (first ∷ []) []) (own_from net (suc first) tracks) first
    (subst (λ b. Contains (cond b (first ∷ []) []) first) (sym (eq-eqb t.net net held)) (member-head first [])))
own_at net first (suc k) (t ∷ tracks) some held =
    let e : suc first + k ≡ first + suc k = omega arith in
    subst (λ l. Contains (own_from net first (t ∷ tracks)) l) e
    (Contains-append_right (cond (eqb t.net net) (first ∷ []) []) (own_from net (suc first) tracks) (suc first + k) (own_at net (suc first) k tracks some held))

-- nothing is left of a list of one once this is taken
left_of_one : (line : ℕ) (lines : List ℕ) → length lines ≡ 1 → Contains lines line → without line lines ≡ []
left_of_one line [] long member = absurd (member-none line member)
left_of_one line (one ∷ (two ∷ lines)) long member = absurd (omega (arith, long))
left_of_one line (one ∷ []) long member = elim (member-cases one [] line member) [
  | inl same ↦ ap (λ b. cond (not b) (one ∷ []) []) (eq-eqb one line same)
  | inr later ↦ absurd (member-none line later)
]

-- a net that holds one track, on this line, has no other line
pub none_beside : (net line : ℕ) (tracks : List Track) → 0 < line → 0 < net → net_on tracks line ≡ net
    → count_by (λ (t : Track). eqb t.net net) tracks ≡ 1 → without line (own_lines net tracks) ≡ []
none_beside net line tracks begins some held one =
    let e : 1 + (line - 1) ≡ line = omega (arith, begins) in
    left_of_one line (own_lines net tracks) (own_count net 1 tracks ∙ one)
    (subst (λ l. Contains (own_lines net tracks) l) e (own_at net 1 (line - 1) tracks some held))
