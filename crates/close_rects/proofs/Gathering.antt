use Rattle.std.proofs.Common.{◌≡◌, ◌+◌, ◌<◌, ℕ, suc, List, [], ◌∷◌, ◌++◌, Bool, true, false, if◌then◌else◌, length, map, take, drop, get_or, Some, refl, ap, sym, ◌∙◌, arith, ◌-◌, append_assoc}
use Rattle.std.specs.Option.{option_map}
use Rattle.std.specs.List.{slice_get, slice_index}
use Rattle.std.proofs.lemmas.List.{map-append, take_more}
use Rattle.std.proofs.lemmas.Option.{get_or_from_slice_get, slice_get-map}
use Rattle.close_rects.specs.declared.member.Member.{Member}
use Rattle.close_rects.specs.Crowds.{crowd_of, crowds_of, is_crowded, places_from}
use Rattle.close_rects.specs.Kins.{pairs_of}
use Rattle.close_rects.proofs.Placing.{StandFrom, StandFrom-drop, StandFrom-first, StandFrom-later}
use Rattle.std_laws.proofs.Places.{drop-here}
use Rattle.std_laws.proofs.Slices.{take-twice}

-- the number of a member by its place
pub number-at : (members : List Member) (n : ℕ) (b : Member) → slice_get members n ≡ Some b
    → slice_index (map (λ (m : Member). m.number) members) n ≡ b.number
number-at members n b is =
    get_or_from_slice_get (map (λ (m : Member). m.number) members) n b.number 0
    (slice_get-map (λ (m : Member). m.number) members n ∙ ap (option_map (λ (m : Member). m.number)) is)

-- the places of those that crowd a member give its pairs
pub pairs_of-places : (members : List Member) (n : ℕ) (a : Member) (bs : List Member) → StandFrom members n bs
    → pairs_of members a.number (places_from n a bs) ≡ crowd_of a bs
pairs_of-places members n a [] stand = refl
pairs_of-places members n a (b ∷ bs) stand =
    cases (is_crowded a b) (pairs_of-places members (n + 1) a bs (StandFrom-later members n b bs stand))
  where
    number : slice_index (map (λ (m : Member). m.number) members) n ≡ b.number
    number = number-at members n b (StandFrom-first members n b bs stand)

    cases : (t : Bool) → pairs_of members a.number (places_from (n + 1) a bs) ≡ crowd_of a bs
        → pairs_of members a.number (if t then n ∷ places_from (n + 1) a bs else places_from (n + 1) a bs)
        ≡ (if t then (a.number, b.number) ∷ crowd_of a bs else crowd_of a bs)
    cases true later = ap (λ k. (a.number, k) ∷ pairs_of members a.number (places_from (n + 1) a bs)) number ∙ ap (λ t. (a.number, b.number) ∷ t) later
    cases false later = later

-- one more pair
pub pairs_of-more : (members : List Member) (number : ℕ) (old pairs pushed : List (ℕ × ℕ)) (places : List ℕ) (i : ℕ) (m : Member) → i < length places
    → slice_get members (get_or places i 0) ≡ Some m → pushed ≡ pairs ++ (number, m.number) ∷ []
    → pairs ≡ old ++ pairs_of members number (take i places) → pushed ≡ old ++ pairs_of members number (take (i + 1) places)
pairs_of-more members number old pairs pushed places i m within here is before =
    let one : (number, m.number) ≡ (number, slice_index (map (λ (m : Member). m.number) members) (get_or places i 0)) =
    ap (λ n. (number, n)) (sym (number-at members (get_or places i 0) m here)) in
    let more : pairs_of members number (take (i + 1) places)
    ≡ pairs_of members number (take i places) ++ (number, slice_index (map (λ (m : Member). m.number) members) (get_or places i 0)) ∷ [] =
    ap (pairs_of members number) (take_more places i 0 within)
    ∙ map-append (λ place. (number, slice_index (map (λ (m : Member). m.number) members) place)) (take i places) (get_or places i 0 ∷ []) in
    is
    ∙ ap (λ t. t ++ (number, m.number) ∷ []) before
    ∙ append_assoc old (pairs_of members number (take i places)) ((number, m.number) ∷ [])
    ∙ ap (λ t. old ++ t) (ap (λ p. pairs_of members number (take i places) ++ p ∷ []) one ∙ sym more)

-- a row's pairs are gathered, as many as there is room for
pub rows-more : (members : List Member) (most row : ℕ) (a : Member) (pairs gathered : List (ℕ × ℕ)) → slice_get members row ≡ Some a
    → gathered ≡ take most (pairs ++ pairs_of members a.number (places_from (row + 1) a (drop (row + 1) members)))
    → take most (pairs ++ crowds_of (drop row members)) ≡ take most (crowds_of members)
    → take most (gathered ++ crowds_of (drop (row + 1) members)) ≡ take most (crowds_of members)
rows-more members most row a pairs gathered here is rest =
    let step : suc row ≡ row + 1 = omega arith in
    let first : crowds_of (drop row members) ≡ crowd_of a (drop (row + 1) members) ++ crowds_of (drop (row + 1) members) =
    ap crowds_of (drop-here members row a here)
    ∙ ap (λ k. crowd_of a (drop k members) ++ crowds_of (drop k members)) step in
    ap (λ t. take most (t ++ crowds_of (drop (row + 1) members)))
    (is ∙ ap (λ t. take most (pairs ++ t)) (pairs_of-places members (row + 1) a (drop (row + 1) members) (StandFrom-drop members (row + 1))))
    ∙ take-twice most (pairs ++ crowd_of a (drop (row + 1) members)) (crowds_of (drop (row + 1) members))
    ∙ ap (take most) (append_assoc pairs (crowd_of a (drop (row + 1) members)) (crowds_of (drop (row + 1) members)))
    ∙ ap (λ t. take most (pairs ++ t)) (sym first)
    ∙ rest
