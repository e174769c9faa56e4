use Rattle.std.proofs.Common.{◌≡◌, ◌≢◌, inl, inr, ◌<◌, ◌+◌, eqb, ℕ, zero, suc, List, [], ◌∷◌, Bool, true, false, cond, Option, Some, None, length, get_or, refl, sym, subst, ap, ◌∙◌, arith, Contains, eqb-true, eq-eqb}
use Rattle.std.proofs.lemmas.Bool.{cond-true, cond-false, ne_eqb, eqb-false, cases_eq}
use Rattle.std.proofs.lemmas.List.Elements.{Contains-append_left, Contains-append_right, Contains-append_cases}
use Rattle.greedy_column.specs.declared.column.Track.{Track}
use Rattle.greedy_column.specs.declared.span.Span.{Span}
use Rattle.greedy_column.specs.Joining.{next_line, pair_of, neighbours_from}
use Rattle.greedy_column.proofs.TableLaws.{nets}
use Rattle.std_laws.proofs.Members.{member-none, member-head, member-only}

-- two places of a net, and none of the net between them
pub record AreNext (tracks : List Track) (net i j : ℕ) : Type 0 where
  pub some : 0 < net
  pub order : i < j
  pub within : j < length tracks
  pub lower : get_or (nets tracks) i 0 ≡ net
  pub upper : get_or (nets tracks) j 0 ≡ net
  pub between : (k : ℕ) → i < k → k < j → get_or (nets tracks) k 0 ≢ net

next_line-is : (tracks : List Track) (net first k : ℕ) → k < length tracks → get_or (nets tracks) k 0 ≡ net
    → ((j : ℕ) → j < k → get_or (nets tracks) j 0 ≢ net) → next_line net first tracks ≡ Some (first + k)
next_line-is [] net first k within at none = absurd (omega arith)
next_line-is (t ∷ tracks) net first zero within at none =
    cond-true (eqb t.net net) (Some first) (next_line net (suc first) tracks) (eq-eqb t.net net at) ∙ ap (λ n. Some n) (omega arith)
next_line-is (t ∷ tracks) net first (suc k) within at none =
    cond-false (eqb t.net net) (Some first) (next_line net (suc first) tracks) (ne_eqb t.net net (none 0 (omega arith)))
    ∙ next_line-is tracks net (suc first) k (omega arith) at (λ j below. none (suc j) (omega arith)) ∙ ap (λ n. Some n) (omega arith)

pair_of-some : (net line above : ℕ) → 0 < net → pair_of net line (Some above) ≡ record { net = net; low = line; high = above } ∷ []
pair_of-some net line above some =
    cond-false {A = List Span} (eqb net 0) [] (record { net = net; low = line; high = above } ∷ []) (ne_eqb net 0 (λ none. omega (arith, none, some)))

-- all of them are listed
pub listed_from : (tracks : List Track) (net first i j : ℕ) → AreNext tracks net i j
    → Contains (neighbours_from first tracks) (record { net = net; low = first + i; high = first + j })
listed_from [] net first i j next = absurd (omega (arith, next.within))
listed_from (t ∷ tracks) net first zero zero next = absurd (omega (arith, next.order))
listed_from (t ∷ tracks) net first zero (suc j) next =
    let same : t.net ≡ net = next.lower in
    let found : next_line net (suc first) tracks ≡ Some (suc first + j) =
    next_line-is tracks net (suc first) j (omega (arith, next.within)) next.upper (λ k below. next.between (suc k) (omega arith) (omega arith)) in
    let pair : pair_of t.net first (next_line t.net (suc first) tracks) ≡ record { net = net; low = first; high = suc first + j } ∷ [] =
    ap (λ n. pair_of n first (next_line n (suc first) tracks)) same ∙ ap (pair_of net first) found ∙ pair_of-some net first (suc first + j) next.some in
    let member : Contains (pair_of t.net first (next_line t.net (suc first) tracks)) (record { net = net; low = first; high = suc first + j }) =
    subst (λ (l : List Span). Contains l (record { net = net; low = first; high = suc first + j })) (sym pair) (member-head (record { net = net; low = first; high = suc first + j }) []) in
    let low : first ≡ first + 0 = omega arith in
    let high : suc first + j ≡ first + suc j = omega arith in
    let here : Contains (neighbours_from first (t ∷ tracks)) (record { net = net; low = first; high = suc first + j }) =
    Contains-append_left (pair_of t.net first (next_line t.net (suc first) tracks)) (neighbours_from (suc first) tracks) _ member in
    subst (λ h. Contains (neighbours_from first (t ∷ tracks)) (record { net = net; low = first + 0; high = h })) high
    (subst (λ l. Contains (neighbours_from first (t ∷ tracks)) (record { net = net; low = l; high = suc first + j })) low here)
listed_from (t ∷ tracks) net first (suc i) zero next = absurd (omega (arith, next.order))
listed_from (t ∷ tracks) net first (suc i) (suc j) next =
    let rest : AreNext tracks net i j = record {
      some = next.some;
      order = omega (arith, next.order);
      within = omega (arith, next.within);
      lower = next.lower;
      upper = next.upper;
      between = λ k above below. next.between (suc k) (omega arith) (omega arith);
    } in
    let later = listed_from tracks net (suc first) i j rest in
    let low : suc first + i ≡ first + suc i = omega arith in
    let high : suc first + j ≡ first + suc j = omega arith in
    let there = Contains-append_right (pair_of t.net first (next_line t.net (suc first) tracks)) (neighbours_from (suc first) tracks) _ later in
    subst (λ h. Contains (neighbours_from first (t ∷ tracks)) (record { net = net; low = first + suc i; high = h })) high
    (subst (λ l. Contains (neighbours_from first (t ∷ tracks)) (record { net = net; low = l; high = suc first + j })) low there)

-- where the next track of a net is found, and what lies before it
next_line-back : (tracks : List Track) (net first above : ℕ) → next_line net first tracks ≡ Some above
    → (k : ℕ) × (k < length tracks) × (above ≡ first + k) × (get_or (nets tracks) k 0 ≡ net) × ((j : ℕ) → j < k → get_or (nets tracks) j 0 ≢ net)
next_line-back [] net first above found = absurd (cc found)
next_line-back (t ∷ tracks) net first above found = step (eqb t.net net) refl found (λ h. next_line-back tracks net (suc first) above h) where
  step : (b : Bool) → eqb t.net net ≡ b → cond b (Some first) (next_line net (suc first) tracks) ≡ Some above
      → (next_line net (suc first) tracks ≡ Some above
      → (k : ℕ) × (k < length tracks) × (above ≡ suc first + k) × (get_or (nets tracks) k 0 ≡ net) × ((j : ℕ) → j < k → get_or (nets tracks) j 0 ≢ net))
      → (k : ℕ) × (k < length (t ∷ tracks)) × (above ≡ first + k) × (get_or (nets (t ∷ tracks)) k 0 ≡ net) × ((j : ℕ) → j < k → get_or (nets (t ∷ tracks)) j 0 ≢ net)
  step true is found later = let same : first ≡ above = cc found in
      (0, omega arith, omega (arith, same), eqb-true t.net net is, λ j below. absurd (omega arith))
  step false is found later = let rest = later found in
      (suc rest.0, omega (arith, rest.1), omega (arith, rest.2), rest.3, before rest.0 rest.4 is) where
        before : (k : ℕ) → ((j : ℕ) → j < k → get_or (nets tracks) j 0 ≢ net) → eqb t.net net ≡ false → (j : ℕ) → j < suc k → get_or (nets (t ∷ tracks)) j 0 ≢ net
        before k none other zero below = eqb-false t.net net other
        before k none other (suc j) below = none j (omega arith)

-- and nothing else is listed
pub next_from : (tracks : List Track) (first : ℕ) (pair : Span) → Contains (neighbours_from first tracks) pair
    → (i : ℕ) × ((j : ℕ) × (pair.low ≡ first + i) × (pair.high ≡ first + j) × AreNext tracks pair.net i j)
next_from [] first pair member = absurd (member-none pair member)
next_from (t ∷ tracks) first pair member =
    elim (Contains-append_cases (pair_of t.net first (next_line t.net (suc first) tracks)) (neighbours_from (suc first) tracks) pair member) [
      | inl here ↦ begin (next_line t.net (suc first) tracks) (λ above found. next_line-back tracks t.net (suc first) above found) here
      | inr later ↦ let rest = next_from tracks (suc first) pair later in shift rest
    ] where
      begin : (o : Option ℕ)
          → ((above : ℕ) → o ≡ Some above → (k : ℕ) × (k < length tracks) × (above ≡ suc first + k) × (get_or (nets tracks) k 0 ≡ t.net) × ((j : ℕ) → j < k → get_or (nets tracks) j 0 ≢ t.net))
          → Contains (pair_of t.net first o) pair
          → (i : ℕ) × ((j : ℕ) × (pair.low ≡ first + i) × (pair.high ≡ first + j) × AreNext (t ∷ tracks) pair.net i j)
      begin None found here = absurd (member-none pair here)
      begin (Some above) found here = elim (cases_eq t.net 0) [
        | inl none ↦ absurd (member-none pair (subst (λ (l : List Span). Contains l pair)
            (cond-true {A = List Span} (eqb t.net 0) [] (record { net = t.net; low = first; high = above } ∷ []) (eq-eqb t.net 0 none)) here))
        | inr some ↦
            let positive : 0 < t.net = omega arith in
            let at = found above refl in
            let is : record { net = t.net; low = first; high = above } ≡ pair =
            member-only (record { net = t.net; low = first; high = above }) pair (subst (λ (l : List Span). Contains l pair) (pair_of-some t.net first above positive) here) in (
              0,
              (
                suc at.0,
                sym (ap (λ (s : Span). s.low) is) ∙ omega arith,
                sym (ap (λ (s : Span). s.high) is) ∙ omega (arith, at.2),
                subst (λ n. AreNext (t ∷ tracks) n 0 (suc at.0)) (ap (λ (s : Span). s.net) is) (record {
                  some = positive;
                  order = omega arith;
                  within = omega (arith, at.1);
                  lower = refl;
                  upper = at.3;
                  between = between at.0 at.4;
                }),
              ),
            )
      ] where
        between : (k : ℕ) → ((j : ℕ) → j < k → get_or (nets tracks) j 0 ≢ t.net) → (m : ℕ) → 0 < m → m < suc k → get_or (nets (t ∷ tracks)) m 0 ≢ t.net
        between k none zero above below = absurd (omega arith)
        between k none (suc m) above below = none m (omega arith)

      shift : ((i : ℕ) × ((j : ℕ) × (pair.low ≡ suc first + i) × (pair.high ≡ suc first + j) × AreNext tracks pair.net i j))
          → (i : ℕ) × ((j : ℕ) × (pair.low ≡ first + i) × (pair.high ≡ first + j) × AreNext (t ∷ tracks) pair.net i j)
      shift (i, (j, low, high, next)) = (
        suc i,
        (
          suc j,
          omega (arith, low),
          omega (arith, high),
          record {
            some = next.some;
            order = omega (arith, next.order);
            within = omega (arith, next.within);
            lower = next.lower;
            upper = next.upper;
            between = between i j next.between;
          },
        ),
      ) where
        between : (i j : ℕ) → ((k : ℕ) → i < k → k < j → get_or (nets tracks) k 0 ≢ pair.net) → (k : ℕ) → suc i < k → k < suc j → get_or (nets (t ∷ tracks)) k 0 ≢ pair.net
        between i j none zero above below = absurd (omega arith)
        between i j none (suc k) above below = none k (omega arith) (omega arith)
