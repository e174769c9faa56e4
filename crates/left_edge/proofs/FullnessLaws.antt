use Rattle.std.proofs.Common.{◌≡◌, ◌<◌, ◌≤◌, ◌+◌, ◌-◌, Bool, true, false, cond, eqb, ltb, ℕ, suc, List, inl, inr, refl, sym, ap, subst, ◌∙◌, arith, get_or, length, map, count_by, max, All, Contains, add-one}
use Rattle.std.proofs.lemmas.Bool.{cases_lt, cond-true, cond-false, ne_eqb, both_ways}
use Rattle.std.proofs.lemmas.Bool.Decides.{nat_tests}
use Rattle.std.proofs.lemmas.List.Sums.{length-filter}
use Rattle.std.specs.List.{IsDistinct}
use Rattle.channel_model.specs.declared.reach.Reach.{Reach}
use Rattle.channel_model.specs.Pins.{Pins, IsChannel}
use Rattle.channel_model.specs.Nets.{nets_of}
use Rattle.channel_model.specs.Reach.{IsReach}
use Rattle.channel_model.specs.Density.{is_over, spans_of, greatest, density_of}
use Rattle.channel_model.proofs.NetsOf.{nets-are}
use Rattle.channel_model.proofs.DensityLaws.{is_carried, swept, spans_of-within}
use Rattle.left_edge.specs.Columns.{IsUnconstrained, net_at}
use Rattle.left_edge.specs.Spans.{span, nets_over, IsFullest}
use Rattle.left_edge.specs.Tracks.{begins, ends}
use Rattle.left_edge.proofs.ColumnLaws.{stands_at}
use Rattle.left_edge.proofs.SpanLaws.{has_span}
use Rattle.left_edge.proofs.TrackLaws.{begins-true, begins-from, ends-true, ends-from, lasts-few}
use Rattle.left_edge.proofs.ListLaws.{greatest-bound}
use Rattle.left_edge.proofs.CountLaws.{spans_of-nets, count-map, count_over, over_from}
use Rattle.std.proofs.lemmas.List.Elements.{Contains-get_or}
use Rattle.left_edge.proofs.SingleLaws.{tracks-density}
use Rattle.std_laws.proofs.Increasing.{increasing-distinct}
use Rattle.std_laws.proofs.Distinct.{filter-one}
use Rattle.std_laws.proofs.Counts.{counted-same, counted-none}
use Rattle.std_laws.proofs.Tests.{eqb-agree}

-- the greatest value of a function below a number, and the first place of it
pub record IsFirstMost (f : ℕ → ℕ) (n most column : ℕ) : Type 0 where
  pub greatest : most ≡ greatest f n
  pub reached : 0 < most → (column < n) × (f column ≡ most)
  pub before : (k : ℕ) → k < column → f k < most
  pub none : most ≡ 0 → column ≡ 0

pub first_most-none : (f : ℕ → ℕ) → IsFirstMost f 0 0 0
first_most-none f = record {
  greatest = refl;
  reached = λ some. absurd (omega arith);
  before = λ k below. absurd (omega arith);
  none = λ is. refl;
}

pub first_most-more : (f : ℕ → ℕ) (n most column : ℕ) → IsFirstMost f n most column
    → IsFirstMost f (suc n) (max most (f n)) (cond (ltb most (f n)) n column)
first_most-more f n most column was =
    elim (cases_lt most (f n)) [
      | inl more ↦
          rw (cond-true (ltb most (f n)) n column (less most (f n) more))
          (record {
            greatest = omega (arith, was.greatest);
            reached = λ some. (omega arith, omega arith);
            before = λ k below. let le = greatest-bound f n k below in omega (arith, was.greatest);
            none = λ is. absurd (omega arith);
          })
      | inr same ↦
          rw (cond-false (ltb most (f n)) n column (not_less most (f n) same))
          (record {
            greatest = omega (arith, was.greatest);
            reached = λ some. let at = was.reached (omega arith) in (omega (arith, at.0), omega (arith, at.1));
            before = λ k below. omega (arith, was.before k below);
            none = λ is. was.none (omega arith);
          })
    ]
  where
    less : (a b : ℕ) → a < b → ltb a b ≡ true
    less a b h = grind (arith, nat_tests)

    not_less : (a b : ℕ) → b ≤ a → ltb a b ≡ false
    not_less a b h = grind (arith, nat_tests)

-- of different numbers at most one has a value that only one may have
count_one : (f : ℕ → ℕ) (c m : ℕ) (xs : List ℕ) (b : Bool) → IsDistinct eqb xs → ((x : ℕ) → Contains xs x → f x ≡ c → (x ≡ m) × (b ≡ true))
    → (b ≡ true → Contains xs m × (f m ≡ c)) → count_by (λ x. eqb (f x) c) xs ≡ cond b 1 0
count_one f c m xs true different only there =
    let at = there refl in
    counted-same (λ x. eqb (f x) c) (λ x. eqb x m) xs (λ x member. eqb-agree (f x) c x m (λ same. (only x member same).0) (λ same. ap f same ∙ at.1))
    ∙ sym (length-filter (λ x. eqb x m) xs) ∙ ap length (filter-one xs m different at.0)
count_one f c m xs false different only there =
    counted-same (λ x. eqb (f x) c) (λ x. false) xs (λ x member. ne_eqb (f x) c (λ same. both_ways false refl (only x member same).1)) ∙ counted-none xs

module _ (pins : Pins) (channel : IsChannel pins) (free : IsUnconstrained pins) where
  abbrev spans : List Reach
  spans = map (span pins) (nets_of pins)

  different : IsDistinct eqb (nets_of pins)
  different = increasing-distinct (nets_of pins) (nets-are pins).ascending

  -- one net begins in a column, or none
  pub count_begins : (column : ℕ) → count_by (λ s. eqb s.first column) spans ≡ cond (begins pins column) 1 0
  count_begins column =
      count-map pins channel free (λ s. eqb s.first column) (nets_of pins)
      ∙ count_one (λ n. (span pins n).first) column (net_at pins column) (nets_of pins) (begins pins column) different
      (λ net member first.
      let stands = (nets-are pins).standing net member in
      let at : net_at pins column ≡ net = ap (net_at pins) (sym first) ∙ (has_span pins channel free net stands).1.starts in
      (sym at, begins-from pins column (rw at stands.0) (ap (λ n. (span pins n).first) at ∙ first)))
      (λ is.
      let at = begins-true pins column is in
      ((nets-are pins).listed (net_at pins column) (stands_at pins column (net_at pins column) at.0 refl), at.1))

  -- and one ends there, or none
  pub count_ends : (column : ℕ) → count_by (λ s. eqb s.last column) spans ≡ cond (ends pins column) 1 0
  count_ends column =
      count-map pins channel free (λ s. eqb s.last column) (nets_of pins)
      ∙ count_one (λ n. (span pins n).last) column (net_at pins column) (nets_of pins) (ends pins column) different
      (λ net member last.
      let stands = (nets-are pins).standing net member in
      let at : net_at pins column ≡ net = ap (net_at pins) (sym last) ∙ (has_span pins channel free net stands).1.stops in
      (sym at, ends-from pins column (rw at stands.0) (ap (λ n. (span pins n).last) at ∙ last)))
      (λ is.
      let at = ends-true pins column is in
      ((nets-are pins).listed (net_at pins column) (stands_at pins column (net_at pins column) at.0 refl), at.1))

  all_within : All (IsReach (length pins.top)) spans
  all_within = subst (All (IsReach (length pins.top))) (spans_of-nets pins channel free) (spans_of-within pins (nets_of pins) channel.matched)

  -- the nets over a column are those that go on from the one before and those that begin
  pub swept_column : (column going : ℕ) → going ≡ count_by (is_carried column) spans
      → (going + cond (begins pins column) 1 0 ≡ count_by (is_over column) spans)
      × (cond (ends pins column) 1 0 ≤ going + cond (begins pins column) 1 0)
      × (going + cond (begins pins column) 1 0 - cond (ends pins column) 1 0 ≡ count_by (is_carried (column + 1)) spans)
  swept_column column going was =
      swept (length pins.top) column spans going (cond (begins pins column) 1 0) (cond (ends pins column) 1 0) all_within was
      (sym (count_begins column)) (sym (count_ends column))

  -- there are not many
  pub over_few : (column : ℕ) → column < length pins.top → count_by (is_over column) spans ≤ 4000000
  over_few column within =
      let most = greatest-bound (λ c. count_by (is_over c) (spans_of pins (nets_of pins))) (length pins.top) column within in
      let same = ap (λ (l : List Reach). count_by (is_over column) l) (spans_of-nets pins channel free) in
      let dense = tracks-density pins channel free in
      let few = lasts-few pins (length pins.top) in
      let short = channel.within in
      omega arith

  -- the first column of the most nets
  pub fullest_from : (most column : ℕ) → IsFirstMost (λ c. count_by (is_over c) spans) (length pins.top) most column
      → (0 < density_of pins → IsFullest pins column) × (density_of pins ≡ 0 → column ≡ 0)
  fullest_from most column is =
      let list : spans_of pins (nets_of pins) ≡ spans = spans_of-nets pins channel free in
      let all : density_of pins ≡ most =
      ap (λ (l : List Reach). greatest (λ c. count_by (is_over c) l) (length pins.top)) list ∙ sym is.greatest in
      let over = λ (c : ℕ). sym (count_over pins channel free c) ∙ ap (λ (l : List Reach). count_by (is_over c) l) list in (
        λ some.
            let at = is.reached (omega arith) in
            record {
              within = at.0;
              most = over column ∙ at.1 ∙ sym all;
              first = λ k below. rw (over k) (omega (arith, is.before k below));
            },
        λ none. is.none (omega arith),
      )

-- one column of the sweep
pub record Step (list : List Reach) (column going : ℕ) (begins ends : Bool) : Type 0 where
  pub room : going + 1 < 4294967296
  pub ended : ◌≤◌ (cond ends 1 0) (going + cond begins 1 0)
  pub over : going + cond begins 1 0 ≡ count_by (is_over column) list
  pub next : going + cond begins 1 0 - cond ends 1 0 ≡ count_by (is_carried (column + 1)) list

pub step_of : (pins : Pins) → IsChannel pins → IsUnconstrained pins → (nets : List ℕ) (list : List Reach) (column going : ℕ) (b e : Bool)
    → nets ≡ nets_of pins → list ≡ map (span pins) nets → column < length pins.top → going ≡ count_by (is_carried column) list
    → b ≡ begins pins column → e ≡ ends pins column → Step list column going b e
step_of pins channel free nets list column going b e are lists within was begun ended =
    let is : list ≡ map (span pins) (nets_of pins) = rw are at lists in
    let step = swept_column pins channel free column going (rw is at was) in
    let few = over_few pins channel free column within in
    rw (is, begun, ended) (record { room = omega (arith, step.0, few); ended = step.1; over = step.0; next = step.2 })

-- and of its most
pub most_of : (list : List Reach) (column going most first : ℕ) (b e : Bool) → Step list column going b e
    → IsFirstMost (λ c. count_by (is_over c) list) column most first
    → IsFirstMost (λ c. count_by (is_over c) list) (column + 1) (max most (going + cond b 1 0)) (cond (ltb most (going + cond b 1 0)) column first)
most_of list column going most first b e step was = rw (add-one, step.over) (first_most-more (λ c. count_by (is_over c) list) column most first was)

pub fullest_of : (pins : Pins) → IsChannel pins → IsUnconstrained pins → (nets : List ℕ) (list : List Reach) (most column : ℕ)
    → nets ≡ nets_of pins → list ≡ map (span pins) nets → IsFirstMost (λ c. count_by (is_over c) list) (length pins.top) most column
    → (0 < density_of pins → IsFullest pins column) × (density_of pins ≡ 0 → column ≡ 0)
fullest_of pins channel free nets list most column are lists is =
    let spans_are : list ≡ map (span pins) (nets_of pins) = rw are at lists in
    fullest_from pins channel free most column (subst (λ (l : List Reach). IsFirstMost (λ c. count_by (is_over c) l) (length pins.top) most column) spans_are is)

-- no column has more nets over it than the density
over_bound : (pins : Pins) → IsChannel pins → IsUnconstrained pins → (column : ℕ) → length (nets_over pins column) ≤ density_of pins
over_bound pins channel free column =
    elim (cases_lt column (length pins.top)) [
      | inl within ↦
          let least = greatest-bound (λ c. count_by (is_over c) (spans_of pins (nets_of pins))) (length pins.top) column within in
          omega (arith, count_over pins channel free column)
      | inr outside ↦ elim (cases_lt 0 (length (nets_over pins column))) [
        | inl some ↦
            let net = get_or (nets_over pins column) 0 0 in
            let covers = over_from pins channel free column net (Contains-get_or (nets_over pins column) 0 0 some) in
            let reach = (has_span pins channel free net covers.0).1 in
            absurd (omega (arith, covers.2, reach.within))
        | inr none ↦ omega arith
      ]
    ]

-- over the fullest column are as many nets as there are tracks
pub over_fullest : (pins : Pins) → IsChannel pins → IsUnconstrained pins → (column : ℕ) → (0 < density_of pins → IsFullest pins column)
    → length (nets_over pins column) ≡ density_of pins
over_fullest pins channel free column fullest =
    elim (cases_lt 0 (density_of pins)) [
      | inl some ↦ (fullest some).most
      | inr none ↦ omega (arith, over_bound pins channel free column)
    ]
