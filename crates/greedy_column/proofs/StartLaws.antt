use Rattle.std.proofs.Common.{◌≡◌, ◌⊎◌, inl, inr, ◌≢◌, ◌<◌, ◌≤◌, ◌+◌, ◌-◌, ◌*◌, ◌++◌, ◌&&◌, eqb, ltb, ℕ, zero, suc, List, [], ◌∷◌, Bool, true, false, cond, length, take, drop, replicate, get_or, refl, sym, subst, ap, ◌∙◌, arith, length-append}
use Rattle.std.proofs.lemmas.Bool.{cases_lt, cond-false}
use Rattle.std.proofs.lemmas.List.{get_or-take, get_or-drop, get_or_append_left, get_or-append_right, get_or-replicate, get_or_default, length-replicate, length-take, length-drop}
use Rattle.choose_core.specs.declared.candidate.Next.{Next}
use Rattle.choose_core.specs.declared.candidate.Next.TheVariants.{Ends, Top, Bottom, Both}
use Rattle.greedy_column.specs.declared.uses.Use.{Use}
use Rattle.greedy_column.specs.Uses.{AreSorted, ArePlaces, AreStarts, IsBefore, next_after, use_at, uses_at, uses_from}
use Rattle.greedy_column.proofs.AheadLaws.{none_of_net, other_test}

-- the places of the nets of the uses before this place
pub record HaveStarts (uses : List Use) (place : ℕ) (starts : List ℕ) : Type 0 where
  pub places : ArePlaces uses starts
  pub met : (k : ℕ) (d : Use) → k < place → (get_or uses k d).net < length starts

-- a net's place among those that were there, or that of the nets that are added
place_of : (starts : List ℕ) (more place net : ℕ) → net < length (starts ++ replicate more place)
    → ((net < length starts) × (get_or (starts ++ replicate more place) net 0 ≡ get_or starts net 0))
    ⊎ ((length starts ≤ net) × (net < length starts + more) × (get_or (starts ++ replicate more place) net 0 ≡ place))
place_of starts more place net within = elim (cases_lt net (length starts)) [
  | inl there ↦ inl (there, get_or_append_left starts (replicate more place) 0 net there)
  | inr added ↦
      let long : net < length starts + more = omega (arith, length-append starts (replicate more place), length-replicate more place) in
      inr (
        added,
        long,
        get_or-append_right starts (replicate more place) (length starts) net 0 refl added
            ∙ get_or-replicate more (net - length starts) place 0 (omega (arith, long, added)),
      )
]

-- nets that are added and are not above that of the use at their place
ArePlaces-more : (uses : List Use) (starts : List ℕ) (place more : ℕ) → ArePlaces uses starts → place ≤ length uses
    → ((k : ℕ) (d : Use) → k < place → (get_or uses k d).net < length starts)
    → ((net k : ℕ) (d : Use) → length starts ≤ net → net < length starts + more → place ≤ k → k < length uses → net ≤ (get_or uses k d).net)
    → ArePlaces uses (starts ++ replicate more place)
ArePlaces-more uses starts place more places inside met least = record {
  within = λ net small. elim (place_of starts more place net small) [
    | inl old ↦ omega (arith, old.1, places.within net old.0)
    | inr new ↦ omega (arith, new.2)
  ];
  lesser = λ net k d small before. elim (place_of starts more place net small) [
    | inl old ↦ places.lesser net k d old.0 (omega (arith, old.1, before))
    | inr new ↦ omega (arith, met k d (omega (arith, new.2, before)), new.0)
  ];
  others = λ net k d small behind there. elim (place_of starts more place net small) [
    | inl old ↦ places.others net k d old.0 (omega (arith, old.1, behind)) there
    | inr new ↦ least net k d new.0 new.1 (omega (arith, new.2, behind)) there
  ];
}

pub starts_more : (uses : List Use) (place net : ℕ) (d : Use) (starts : List ℕ) → AreSorted uses → place < length uses → net ≡ (get_or uses place d).net
    → HaveStarts uses place starts → HaveStarts uses (place + 1) (starts ++ replicate (net + 1 - length starts) place)
starts_more uses place net d starts sorted inside is have = record {
  places = ArePlaces-more uses starts place (net + 1 - length starts) have.places (omega arith) have.met
      (λ other k e above below behind there.
      let least : (get_or uses place e).net ≤ (get_or uses k e).net = (sorted place k e behind there).nets in
      let same : net ≡ (get_or uses place e).net = is ∙ ap (λ (u : Use). u.net) (get_or_default uses place d e inside) in
      omega (arith, least, same, above, below));
  met = λ k e before. elim (cases_lt k place) [
    | inl earlier ↦ omega (arith, have.met k e earlier, length-append starts (replicate (net + 1 - length starts) place))
    | inr there ↦
        let here : k ≡ place = omega (arith, there, before) in
        let same : net ≡ (get_or uses k e).net =
        is ∙ ap (λ (u : Use). u.net) (get_or_default uses place d e inside) ∙ ap (λ n. (get_or uses n e).net) (sym here) in
        omega (
          arith,
          same,
          length-append starts (replicate (net + 1 - length starts) place),
          length-replicate (net + 1 - length starts) place,
        )
  ];
}

pub starts_all : (uses : List Use) (place : ℕ) (starts : List ℕ) → place ≡ length uses → HaveStarts uses place starts
    → AreStarts uses (starts ++ place ∷ [])
starts_all uses place starts end have = record {
  places = ArePlaces-more uses starts place 1 have.places (omega (arith, end)) have.met
      (λ other k e above below behind there. absurd (omega (arith, end, behind, there)));
  all = λ k d there. omega (arith, have.met k d (omega (arith, end, there)), length-append starts (place ∷ []));
}

-- the uses in front of a net's own ones, and those behind them, tell nothing of the net
next_after-drop : (uses : List Use) (n column net : ℕ) → ((k : ℕ) (d : Use) → k < n → k < length uses → (get_or uses k d).net ≢ net)
    → next_after (drop n uses) column net ≡ next_after uses column net
next_after-drop uses zero column net other = refl
next_after-drop [] (suc n) column net other = refl
next_after-drop (u ∷ uses) (suc n) column net other =
    next_after-drop uses n column net (λ k d before there. other (suc k) d (omega arith) (omega arith))
    ∙ sym (cond-false (eqb u.net net && ltb column u.column) u.next (next_after uses column net)
    (other_test u.net net column u.column (other 0 u (omega arith) (omega arith))))

next_after-take : (uses : List Use) (n column net : ℕ) → ((k : ℕ) (d : Use) → n ≤ k → k < length uses → (get_or uses k d).net ≢ net)
    → next_after (take n uses) column net ≡ next_after uses column net
next_after-take uses zero column net other = sym (none_of_net uses column net (λ k d there. other k d (omega arith) there))
next_after-take [] (suc n) column net other = refl
next_after-take (u ∷ uses) (suc n) column net other =
    ap (λ next. cond (eqb u.net net && ltb column u.column) u.next next)
    (next_after-take uses n column net (λ k d behind there. other (suc k) d (omega arith) (omega arith)))

module _ (uses : List Use) (starts : List ℕ) (are : AreStarts uses starts) (net : ℕ) where
  -- a net's uses lie between its place and the next one
  pub own-bounds : net + 1 < length starts → (get_or starts net 0 ≤ get_or starts (net + 1) 0) × (get_or starts (net + 1) 0 ≤ length uses)
  own-bounds small = (
    elim (cases_lt (get_or starts (net + 1) 0) (get_or starts net 0)) [
      | inl below ↦
          let one : Use = record { net = 0; column = 0; next = Ends } in
          let k : ℕ = get_or starts (net + 1) 0 in
          let lesser = are.places.lesser net k one (omega arith) below in
          let other = are.places.others (net + 1) k one small (omega arith) (omega (arith, below, are.places.within net (omega arith))) in
          absurd (omega (arith, lesser, other))
      | inr order ↦ order
    ],
    are.places.within (net + 1) small,
  )

  -- they alone tell its next pins
  pub own-tell : (column : ℕ) → net + 1 < length starts
      → next_after (take (get_or starts (net + 1) 0 - get_or starts net 0) (drop (get_or starts net 0) uses)) column net ≡ next_after uses column net
  own-tell column small =
      let first : ℕ = get_or starts net 0 in
      let past : ℕ = get_or starts (net + 1) 0 in
      next_after-take (drop first uses) (past - first) column net
      (λ k d behind there same.
      let inside : first + k < length uses = omega (arith, length-drop first uses, there) in
      let at : (get_or uses (first + k) d).net ≡ net = ap (λ (u : Use). u.net) (sym (get_or-drop first uses k d)) ∙ same in
      let above = are.places.others (net + 1) (first + k) d small (omega (arith, behind)) inside in
      omega (arith, at, above))
      ∙ next_after-drop uses first column net
      (λ k d before there same. let lesser = are.places.lesser net k d (omega arith) before in omega (arith, lesser, same))

  pub none-tell : (column : ℕ) → length starts ≤ net + 1 → Ends ≡ next_after uses column net
  none-tell column past = sym (none_of_net uses column net (λ k d there same. let within = are.all k d there in omega (arith, within, same, past)))

-- a part of sorted uses is sorted
pub AreSorted-part : (uses : List Use) (first count : ℕ) → AreSorted uses → AreSorted (take count (drop first uses))
AreSorted-part uses first count sorted i j d order within =
    let few : j < count = omega (arith, within, length-take count (drop first uses)) in
    let inside : first + j < length uses = omega (arith, within, length-take count (drop first uses), length-drop first uses) in
    let at : (k : ℕ) → k < count → get_or (take count (drop first uses)) k d ≡ get_or uses (first + k) d =
    λ k small. get_or-take count (drop first uses) k d small ∙ get_or-drop first uses k d in
    subst (λ (u : Use). IsBefore u (get_or (take count (drop first uses)) j d)) (sym (at i (omega (arith, order, few))))
    (subst (λ (u : Use). IsBefore (get_or uses (first + i) d) u) (sym (at j few)) (sorted (first + i) (first + j) d (omega (arith, order)) inside))

-- there are at most two uses for each column
use_at-few : (net column : ℕ) (next : Next) → length (use_at net column next) ≤ 1
use_at-few net column next = choose (eqb net 0) where
  choose : (b : Bool) → length {A = Use} (cond b [] (record { net = net; column = column; next = next } ∷ [])) ≤ 1
  choose true = omega arith
  choose false = omega arith

uses_at-few : (a b column : ℕ) → length (uses_at a b column) ≤ 2
uses_at-few a b column = choose (eqb a b) where
  choose : (same : Bool) → length (cond same (use_at a column Both) (use_at a column Top ++ use_at b column Bottom)) ≤ 2
  choose true = omega (arith, use_at-few a column Both)
  choose false =
      omega (
        arith,
        length-append (use_at a column Top) (use_at b column Bottom),
        use_at-few a column Top,
        use_at-few b column Bottom,
      )

pub uses_from-few : (top bottom : List ℕ) (column : ℕ) → length (uses_from top bottom column) ≤ 2 * length top
uses_from-few [] bottom column = omega arith
uses_from-few (a ∷ top) [] column = omega arith
uses_from-few (a ∷ top) (b ∷ bottom) column =
    omega (
      arith,
      length-append (uses_at a b column) (uses_from top bottom (suc column)),
      uses_at-few a b column,
      uses_from-few top bottom (suc column),
    )
