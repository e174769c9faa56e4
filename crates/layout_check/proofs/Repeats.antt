use Rattle.std.proofs.Common.{◌≡◌, ◌<◌, ◌+◌, ℕ, List, [], Bool, true, not, eqb, length, map, Some, ap, subst, sym, ◌∙◌, inl, inr, arith}
use Rattle.std.specs.Prelude.{slice_index}
use Rattle.std.specs.List.{IsDistinct, list_any, range_with_len, slice_get}
use Rattle.std.specs.Option.{option_map}
use Rattle.std.specs.Str.{bytes_eq}
use Rattle.std.proofs.lemmas.Bool.{cases_Bool, eq-eqb, false_from_ne_true, ne_eqb}
use Rattle.std.proofs.lemmas.List.{length-map}
use Rattle.std.proofs.lemmas.List.FromFn.{get_or-range_with_len, length-range_with_len}
use Rattle.std.proofs.lemmas.Map.Keys.{IsDistinct-from_apart}
use Rattle.std.proofs.lemmas.Option.{get_or_from_slice_get, slice_get-get_or, slice_get-map, slice_get_within}
use Rattle.list_facts.specs.Names.{mentions, place_among}
use Rattle.list_facts.proofs.Different.{place-get}
use Rattle.list_facts.proofs.Mentioned.{any-mentions, get-place}
use Rattle.layout_check.specs.Groups.{differing_pairs, first_of, firsts_of}
use Rattle.layout_check.specs.NetFaults.{pairs_of_firsts}
use Rattle.layout_check.proofs.Alike.{alike-none, none-alike}
use Rattle.layout_check.proofs.Firsts.{AreGrouped, firsts-differing}
use Rattle.std_laws.proofs.Searches.{any-get, place-map, place-same}
use Rattle.std_laws.proofs.Bytes.{bytes_one, bytes_same}

module _ (names : List (List ℕ)) where
  -- the number of a name
  abbrev number : List ℕ → ℕ
  number name = place_among (mentions names) name

  abbrev every : List ℕ → List ℕ → Bool
  every name other = true

  among : (i : ℕ) (name : List ℕ) → slice_get names i ≡ Some name → list_any (bytes_eq name) (mentions names) ≡ true
  among i name is = any-mentions [] names name ∙ any-get names i name is

  -- names have the same number where they are the same
  numbers-same : (i j : ℕ) (v w : List ℕ) → slice_get names i ≡ Some v → slice_get names j ≡ Some w → eqb (number v) (number w) ≡ bytes_eq v w
  numbers-same i j v w v_is w_is = elim (cases_Bool (bytes_eq v w)) [
    | inl same ↦ eq-eqb (number v) (number w) (ap number (bytes_one v w same)) ∙ sym same
    | inr apart ↦
        ne_eqb (number v) (number w) (λ equal.
        let first = get-place (mentions names) v (among i v v_is) in
        let second = get-place (mentions names) w (among j w w_is) in
        let one : v ≡ w = cc (first, second) in
        let never : bytes_eq v w ≡ true = subst (λ (u : List ℕ). bytes_eq v u ≡ true) one (bytes_same v) in
        cc)
        ∙ sym apart
  ]

  pub names-grouped : AreGrouped (λ (name : List ℕ). name) bytes_eq bytes_one bytes_same every names (firsts_of (map number names)) (range_with_len 0 (length names))
  names-grouped = record {
    long_firsts = length-map (map number names) (first_of (map number names)) ∙ length-map names number;
    long_kinds = length-range_with_len 0 (length names);
    reads = λ j y is.
        let read : slice_get (firsts_of (map number names)) j ≡ Some (first_of (map number names) (number y)) =
        slice_get-map (first_of (map number names)) (map number names) j
        ∙ ap (option_map (first_of (map number names))) (slice_get-map number names j ∙ ap (option_map number) is) in
        get_or_from_slice_get (firsts_of (map number names)) j (first_of (map number names) (number y)) 0 read
        ∙ place-map number (λ (g : ℕ). eqb (number y) g) names
        ∙ place-same (λ (z : List ℕ). eqb (number y) (number z)) (bytes_eq y) names (λ i z at. numbers-same j i y z is at);
    agrees = λ i j x y less x_is y_is same.
        let long : j < length names = slice_get_within names j y y_is in
        let first : slice_index (range_with_len 0 (length names)) i ≡ 0 + i = get_or-range_with_len 0 (length names) i 0 (omega arith) in
        let second : slice_index (range_with_len 0 (length names)) j ≡ 0 + j = get_or-range_with_len 0 (length names) j 0 long in
        ap not (sym (ne_eqb (slice_index (range_with_len 0 (length names)) j) (slice_index (range_with_len 0 (length names)) i) (λ equal. absurd (omega arith))));
  }

  -- which names are repeated is told by the firsts of their numbers
  pub repeated-differing : pairs_of_firsts bytes_eq (λ name other. true) names ≡ differing_pairs (firsts_of (map (place_among (mentions names)) names)) (range_with_len 0 (length names))
  repeated-differing =
      firsts-differing (λ (name : List ℕ). name) bytes_eq bytes_one bytes_same every names (firsts_of (map number names)) (range_with_len 0 (length names)) names-grouped

  -- no name is repeated just where all are different
  pub none-repeated : pairs_of_firsts bytes_eq (λ name other. true) names ≡ [] → IsDistinct bytes_eq names
  none-repeated none =
      IsDistinct-from_apart bytes_eq names (λ i j d less within.
      false_from_ne_true _ (λ same.
      let first : slice_get names i ≡ Some _ = slice_get-get_or names i d (omega arith) in
      let second : slice_get names j ≡ Some _ = slice_get-get_or names j d within in
      let equal : slice_index (range_with_len 0 (length names)) i ≡ slice_index (range_with_len 0 (length names)) j =
      none-alike (λ (name : List ℕ). name) bytes_eq bytes_one bytes_same every names (firsts_of (map number names)) (range_with_len 0 (length names)) names-grouped none
      i j _ _ first second (bytes_one _ _ same) in
      let at_i : slice_index (range_with_len 0 (length names)) i ≡ 0 + i = get_or-range_with_len 0 (length names) i 0 (omega arith) in
      let at_j : slice_index (range_with_len 0 (length names)) j ≡ 0 + j = get_or-range_with_len 0 (length names) j 0 within in
      absurd (omega arith)))

  pub different-none : IsDistinct bytes_eq names → pairs_of_firsts bytes_eq (λ name other. true) names ≡ []
  different-none different =
      alike-none (λ (name : List ℕ). name) bytes_eq bytes_one bytes_same every names (firsts_of (map number names)) (range_with_len 0 (length names)) names-grouped
      (λ i j x y x_is y_is same.
      let first : place_among names x ≡ i = place-get names i x different x_is in
      let second : place_among names y ≡ j = place-get names j y different y_is in
      let one : i ≡ j = sym first ∙ ap (place_among names) same ∙ second in
      ap (slice_index (range_with_len 0 (length names))) one)
