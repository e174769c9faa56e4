use Rattle.std.proofs.Common.{◌≡◌, ◌≢◌, ◌+◌, ◌<◌, ◌+ℤ◌, ◌↔◌, ℕ, ℤ, pos, List, [], Bool, true, false, ◌&&◌, not, Some, refl, ap, subst, sym, ◌∙◌, inl, inr, arith}
use Rattle.std.specs.Prelude.{All, Contains, int_le}
use Rattle.std.specs.List.{slice_get}
use Rattle.std.specs.Ordering.{int_eq}
use Rattle.std.proofs.lemmas.Bool.{both_ways, and_from, and_parts, cases_order, false_from_ne_true, not-false, or_from, or_parts}
use Rattle.std.proofs.lemmas.Bool.Decides.{Decides-int_eq}
use Rattle.std.proofs.lemmas.Slice.Eq.{bytes_eq-Decides}
use Rattle.geom_core.specs.Extent.{Extent}
use Rattle.geom_core.specs.Rectangles.{Apart, HasSides, IsSquare, grown}
use Rattle.geom_core.specs.declared.layout.Layout.{Layout}
use Rattle.geom_core.specs.declared.layout.Shape.{Shape}
use Rattle.close_rects.specs.ClosePairs.{is_close}
use Rattle.close_rects.specs.Items.{HasInside}
use Rattle.tech_rules.specs.InRows.{InRows}
use Rattle.tech_rules.specs.Lengths.{length_in}
use Rattle.tech_rules.specs.Rules.{RuleValues}
use Rattle.tech_rules.specs.Wide.{IsCovered, Wide}
use Rattle.rule_check.specs.Crowded.{are_out_of_row, do_overlap}
use Rattle.rule_check.specs.Failing.{failing, failing_pairs}
use Rattle.rule_check.specs.Narrow.{encloses, has_sides, is_bare, is_covered, is_narrow, is_on, is_square}
use Rattle.rule_check.proofs.RowGaps.{AreRows, apart-back, apart-close, close-apart, level-rows, rows-back, rows-level}
use Rattle.rule_check.proofs.Holding.{encloses-true, true-encloses}
use Rattle.rule_check.proofs.FailingLaws.{IsFailing, IsFailingPair, failing_from-member, failing_pairs_from-member, member-failing_from, member-failing_pairs_from, none-empty}
use Rattle.std_laws.proofs.Members.{all-get, get-contains, any-member, member-place, any-cases, empty-none}
use Rattle.std_laws.proofs.Integers.{le-true, true-le}

-- what the definitions mean for those who check a layout by them

-- the numbers of those that fail
pub failing-contains : {A : Type 0} (fails : A → Bool) (xs : List A) (k : ℕ) → Contains (failing fails xs) k ↔ IsFailing fails xs k
failing-contains {A} fails xs k = (
  λ among. from (failing_from-member fails 0 xs k among),
  λ found. member-failing_from fails 0 xs k k found (omega arith),
)
  where
    from : (j : ℕ) × (k ≡ 0 + j) × IsFailing fails xs j → IsFailing fails xs k
    from (j, sum, found) = let same : j ≡ k = omega arith in subst (IsFailing fails xs) same found

-- the pairs of those that fail with each other
pub failing_pairs-contains : {A : Type 0} (fails : A → A → Bool) (xs : List A) (i j : ℕ)
    → Contains (failing_pairs fails xs) (i, j) ↔ IsFailingPair fails xs i j
failing_pairs-contains {A} fails xs i j = (
  λ among. from (failing_pairs_from-member fails 0 xs (i, j) among),
  λ found. member-failing_pairs_from fails 0 xs i j (i, j) found (omega arith) (omega arith),
)
  where
    from : (h k : ℕ) × (i ≡ 0 + h) × (j ≡ 0 + k) × IsFailingPair fails xs h k → IsFailingPair fails xs i j
    from (h, k, left, right, found) =
        let first : h ≡ i = omega arith in
        let second : k ≡ j = omega arith in
        subst (λ m. IsFailingPair fails xs m j) first (subst (IsFailingPair fails xs h) second found)

-- none fails just where no place has one that fails
pub failing-none : {A : Type 0} (fails : A → Bool) (xs : List A)
    → (failing fails xs ≡ []) ↔ ((k : ℕ) (x : A) → slice_get xs k ≡ Some x → fails x ≡ false)
failing-none fails xs = (
  λ empty k x is. false_from_ne_true (fails x)
      (λ does. none-empty (failing fails xs) k empty ((failing-contains fails xs k).1 (record { value = x; is = is; does = does }))),
  λ none. empty-none (failing fails xs) (λ k among.
      let found : IsFailing fails xs k = (failing-contains fails xs k).0 among in
      both_ways (fails found.value) (none k found.value found.is) found.does),
)

pub failing_pairs-none : {A : Type 0} (fails : A → A → Bool) (xs : List A)
    → (failing_pairs fails xs ≡ [])
    ↔ ((i j : ℕ) (x y : A) → i < j → slice_get xs i ≡ Some x → slice_get xs j ≡ Some y → fails x y ≡ false)
failing_pairs-none fails xs = (
  λ empty i j x y order x_is y_is. false_from_ne_true (fails x y)
      (λ does. none-empty (failing_pairs fails xs) (i, j) empty ((failing_pairs-contains fails xs i j).1 (record {
        order = order;
        first = x;
        second = y;
        first_is = x_is;
        second_is = y_is;
        fail = does;
      }))),
  λ none. empty-none (failing_pairs fails xs) (λ p among.
      let found : IsFailingPair fails xs p.0 p.1 = (failing_pairs-contains fails xs p.0 p.1).0 among in
      both_ways (fails found.first found.second) (none p.0 p.1 found.first found.second found.order found.first_is found.second_is) found.fail),
)

on-layer : (layer : List ℕ) (s : Shape) → is_on layer s ≡ true → s.layer ≡ layer
on-layer layer s is = (bytes_eq-Decides s.layer layer).0 is

layer-on : (layer : List ℕ) (s : Shape) → s.layer ≡ layer → is_on layer s ≡ true
layer-on layer s is = (bytes_eq-Decides s.layer layer).1 is

sides-true : (d : ℤ) (e : Extent) → HasSides d e → has_sides d e ≡ true
sides-true d e sides = and_from _ _ (le-true (e.x0 +ℤ d) e.x1 sides.across) (le-true (e.y0 +ℤ d) e.y1 sides.up)

true-sides : (d : ℤ) (e : Extent) → has_sides d e ≡ true → HasSides d e
true-sides d e is =
    let both : (int_le (e.x0 +ℤ d) e.x1 ≡ true) × (int_le (e.y0 +ℤ d) e.y1 ≡ true) = and_parts _ _ is in
    record { across = true-le (e.x0 +ℤ d) e.x1 both.0; up = true-le (e.y0 +ℤ d) e.y1 both.1 }

square-true : (d : ℤ) (e : Extent) → IsSquare d e → is_square d e ≡ true
square-true d e square =
    and_from _ _ ((Decides-int_eq (e.x0 +ℤ d) e.x1).1 square.across) ((Decides-int_eq (e.y0 +ℤ d) e.y1).1 square.up)

true-square : (d : ℤ) (e : Extent) → is_square d e ≡ true → IsSquare d e
true-square d e is =
    let both : (int_eq (e.x0 +ℤ d) e.x1 ≡ true) × (int_eq (e.y0 +ℤ d) e.y1 ≡ true) = and_parts _ _ is in
    record { across = (Decides-int_eq (e.x0 +ℤ d) e.x1).0 both.0; up = (Decides-int_eq (e.y0 +ℤ d) e.y1).0 both.1 }

-- a test that is asked of one layer alone
asked-false : (on does : Bool) → (on ≡ true → does ≡ true) → (on && not does) ≡ false
asked-false true does told = ap not (told refl)
asked-false false does told = refl

false-asked : (on does : Bool) → (on && not does) ≡ false → on ≡ true → does ≡ true
false-asked true does is on = not-false does is
false-asked false does is on = let never : ⊥ = cc in absurd never

-- a cut lies in a shape of the layer just where the test finds one
covered-true : (r : RuleValues) (l : Layout) (layer : List ℕ) (cut : Shape) → IsCovered r l layer cut → is_covered r l.shapes layer cut ≡ true
covered-true r l layer cut covered =
    any-member _ l.shapes covered.cover covered.is_shape
    (and_from _ _ (layer-on layer covered.cover covered.on_layer) (encloses-true covered.cover.rect _ covered.encloses))

true-covered : (r : RuleValues) (l : Layout) (layer : List ℕ) (cut : Shape) → is_covered r l.shapes layer cut ≡ true → IsCovered r l layer cut
true-covered r l layer cut is =
    let found : (s : Shape) × Contains l.shapes s × ((is_on layer s && encloses s.rect (grown (length_in r r.cut.enclose) cut.rect)) ≡ true) =
    any-cases (λ (s : Shape). is_on layer s && encloses s.rect (grown (length_in r r.cut.enclose) cut.rect)) l.shapes is in
    let both : (is_on layer found.0 ≡ true) × (encloses found.0.rect (grown (length_in r r.cut.enclose) cut.rect) ≡ true) = and_parts _ _ found.2 in
    record {
      cover = found.0;
      is_shape = found.1;
      on_layer = on-layer layer found.0 both.0;
      encloses = true-encloses found.0.rect _ both.1;
    }

-- a layout is wide just where no shape is too narrow and no cut bare
pub wide-failing : (r : RuleValues) (l : Layout)
    → Wide r l ↔ ((failing (is_narrow r) l.shapes ≡ []) × (failing (is_bare r l.shapes) l.shapes ≡ []))
wide-failing r l = (
  λ wide. (
    (failing-none (is_narrow r) l.shapes).1 (λ k s is.
        let among : Contains l.shapes s = get-contains l.shapes k s is in
        or_from _ _
        (or_from _ _
        (asked-false (is_on r.horizontal.layer s) (has_sides (length_in r r.horizontal.width) s.rect)
        (λ on. sides-true _ s.rect (wide.horizontal s among (on-layer r.horizontal.layer s on))))
        (asked-false (is_on r.vertical.layer s) (has_sides (length_in r r.vertical.width) s.rect)
        (λ on. sides-true _ s.rect (wide.vertical s among (on-layer r.vertical.layer s on)))))
        (asked-false (is_on r.cut.layer s) (is_square (length_in r r.cut.size) s.rect)
        (λ on. square-true _ s.rect (wide.cut s among (on-layer r.cut.layer s on))))),
    (failing-none (is_bare r l.shapes) l.shapes).1 (λ k s is.
        let among : Contains l.shapes s = get-contains l.shapes k s is in
        asked-false (is_on r.cut.layer s) (is_covered r l.shapes r.horizontal.layer s && is_covered r l.shapes r.vertical.layer s)
        (λ on. and_from _ _ (covered-true r l r.horizontal.layer s (wide.in_horizontal s among (on-layer r.cut.layer s on)))
        (covered-true r l r.vertical.layer s (wide.in_vertical s among (on-layer r.cut.layer s on))))),
  ),
  λ none. record {
    horizontal = λ s among on. true-sides _ s.rect
        (false-asked (is_on r.horizontal.layer s) _ (or_parts _ _ (or_parts _ _ (narrow none.0 s among)).0).0 (layer-on r.horizontal.layer s on));
    vertical = λ s among on. true-sides _ s.rect
        (false-asked (is_on r.vertical.layer s) _ (or_parts _ _ (or_parts _ _ (narrow none.0 s among)).0).1 (layer-on r.vertical.layer s on));
    cut = λ s among on. true-square _ s.rect
        (false-asked (is_on r.cut.layer s) _ (or_parts _ _ (narrow none.0 s among)).1 (layer-on r.cut.layer s on));
    in_horizontal = λ s among on. true-covered r l r.horizontal.layer s (covered none.1 s among on).0;
    in_vertical = λ s among on. true-covered r l r.vertical.layer s (covered none.1 s among on).1;
  },
)
  where
    narrow : failing (is_narrow r) l.shapes ≡ [] → (s : Shape) → Contains l.shapes s → is_narrow r s ≡ false
    narrow none s among =
        let at : (k : ℕ) × (slice_get l.shapes k ≡ Some s) = member-place l.shapes s among in
        (failing-none (is_narrow r) l.shapes).0 none at.0 s at.1

    covered : failing (is_bare r l.shapes) l.shapes ≡ [] → (s : Shape) → Contains l.shapes s → s.layer ≡ r.cut.layer
        → (is_covered r l.shapes r.horizontal.layer s ≡ true) × (is_covered r l.shapes r.vertical.layer s ≡ true)
    covered none s among on =
        let at : (k : ℕ) × (slice_get l.shapes k ≡ Some s) = member-place l.shapes s among in
        and_parts _ _ (false-asked (is_on r.cut.layer s) _ ((failing-none (is_bare r l.shapes) l.shapes).0 none at.0 s at.1) (layer-on r.cut.layer s on))

-- a test of two outlines
of-outlines : (r : RuleValues) (s t : Shape) (test : Bool) → (s.layer ≡ r.outline.layer → t.layer ≡ r.outline.layer → test ≡ false)
    → ((is_on r.outline.layer s && is_on r.outline.layer t) && test) ≡ false
of-outlines r s t test told = cases (is_on r.outline.layer s) refl (is_on r.outline.layer t) refl
  where
    cases : (p : Bool) → is_on r.outline.layer s ≡ p → (q : Bool) → is_on r.outline.layer t ≡ q → ((p && q) && test) ≡ false
    cases true first true second = told (on-layer r.outline.layer s first) (on-layer r.outline.layer t second)
    cases true first false second = refl
    cases false first q second = refl

outlines-of : (r : RuleValues) (s t : Shape) (test : Bool) → ((is_on r.outline.layer s && is_on r.outline.layer t) && test) ≡ false
    → s.layer ≡ r.outline.layer → t.layer ≡ r.outline.layer → test ≡ false
outlines-of r s t test is first second =
    let both : (is_on r.outline.layer s && is_on r.outline.layer t) ≡ true =
    and_from _ _ (layer-on r.outline.layer s first) (layer-on r.outline.layer t second) in
    sym (ap (λ p. p && test) both) ∙ is

-- the outlines of a layout are in rows just where none overlap and none are out of row
pub rows-failing : (r : RuleValues) (l : Layout) → All (λ (s : Shape). HasInside s.rect) l.shapes
    → (InRows r l ↔ ((failing_pairs (do_overlap r) l.shapes ≡ []) × (failing_pairs (are_out_of_row r) l.shapes ≡ [])))
rows-failing r l inside = (
  λ rows. (
    (failing_pairs-none (do_overlap r) l.shapes).1 (λ i j s t order s_is t_is.
        let differ : i ≢ j = omega arith in
        of-outlines r s t (is_close (pos 0) s.rect t.rect) (λ first second. apart-close s.rect t.rect (rows.apart i j s t differ s_is t_is first second))),
    (failing_pairs-none (are_out_of_row r) l.shapes).1 (λ i j s t order s_is t_is.
        let differ : i ≢ j = omega arith in
        of-outlines r s t _ (λ first second. rows-level s.rect t.rect (rows.rows i j s t differ s_is t_is first second))),
  ),
  λ none. record {
    rows = λ i j s t differ s_is t_is first second. elim (cases_order i j) [
      | inl same ↦ absurd (differ same)
      | inr apart ↦ elim apart [
        | inl less ↦ in-rows none.1 i j s t less s_is t_is first second
        | inr more ↦ rows-back t.rect s.rect (in-rows none.1 j i t s more t_is s_is second first)
      ]
    ];
    apart = λ i j s t differ s_is t_is first second. elim (cases_order i j) [
      | inl same ↦ absurd (differ same)
      | inr apart ↦ elim apart [
        | inl less ↦ no-overlap none.0 i j s t less s_is t_is first second
        | inr more ↦ apart-back t.rect s.rect (no-overlap none.0 j i t s more t_is s_is second first)
      ]
    ];
  },
)
  where
    inside-at : (k : ℕ) (s : Shape) → slice_get l.shapes k ≡ Some s → HasInside s.rect
    inside-at k s is = all-get (λ (s : Shape). HasInside s.rect) l.shapes k s inside is

    in-rows : failing_pairs (are_out_of_row r) l.shapes ≡ [] → (i j : ℕ) (s t : Shape) → i < j → slice_get l.shapes i ≡ Some s
        → slice_get l.shapes j ≡ Some t → s.layer ≡ r.outline.layer → t.layer ≡ r.outline.layer → AreRows s.rect t.rect
    in-rows none i j s t order s_is t_is first second =
        level-rows s.rect t.rect (inside-at i s s_is) (inside-at j t t_is)
        (outlines-of r s t _ ((failing_pairs-none (are_out_of_row r) l.shapes).0 none i j s t order s_is t_is) first second)

    no-overlap : failing_pairs (do_overlap r) l.shapes ≡ [] → (i j : ℕ) (s t : Shape) → i < j → slice_get l.shapes i ≡ Some s
        → slice_get l.shapes j ≡ Some t → s.layer ≡ r.outline.layer → t.layer ≡ r.outline.layer → Apart (pos 0) s.rect t.rect
    no-overlap none i j s t order s_is t_is first second =
        close-apart s.rect t.rect (inside-at i s s_is) (inside-at j t t_is)
        (outlines-of r s t (is_close (pos 0) s.rect t.rect) ((failing_pairs-none (do_overlap r) l.shapes).0 none i j s t order s_is t_is) first second)
