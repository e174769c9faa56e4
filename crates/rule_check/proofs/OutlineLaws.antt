use Rattle.std.proofs.Common.{◌≡◌, ◌+◌, ◌<◌, ◌↔◌, ℕ, ℤ, pos, List, [], ◌∷◌, ◌++◌, Bool, true, false, if◌then◌else◌, ◌&&◌, not, eqb, Some, None, length, map, refl, ap, subst, sym, ◌∙◌, inl, inr, arith}
use Rattle.std.specs.Prelude.{All, int_lt}
use Rattle.std.specs.List.{slice_get, slice_index, zip}
use Rattle.std.specs.Ordering.{int_eq}
use Rattle.std.proofs.lemmas.List.{get_or_append_left, get_or_push}
use Rattle.std.proofs.lemmas.Bool.{cases_lt, eqb-false, eqb-true, false_from_ne_true, ne_eqb}
use Rattle.std.proofs.lemmas.Bool.Decides.{Decides-int_eq}
use Rattle.std.proofs.lemmas.Int.{ints}
use Rattle.std.proofs.lemmas.Option.{get_or_from_slice_get}
use Rattle.geom_core.specs.Extent.{Extent}
use Rattle.geom_core.specs.Reach.{IsShapeInReach}
use Rattle.geom_core.specs.Rectangles.{gap}
use Rattle.geom_core.specs.declared.layout.Shape.{Shape}
use Rattle.close_rects.specs.ClosePairs.{is_close}
use Rattle.close_rects.specs.Crowds.{KeepsInReach, crowds_of}
use Rattle.close_rects.specs.declared.member.Member.{Member}
use Rattle.tech_rules.specs.Rules.{RuleValues}
use Rattle.rule_check.specs.Crowded.{are_out_of_row, do_overlap}
use Rattle.rule_check.specs.Failing.{failing_from, failing_pairs, failing_pairs_from}
use Rattle.rule_check.specs.Rows.{AreNumbersOf}
use Rattle.rule_check.specs.Members.{flat, members_from, outline_member, row_member}
use Rattle.rule_check.specs.Narrow.{is_on}
use Rattle.rule_check.proofs.Crowding.{crowds-failing, do_crowd, members-reach}
use Rattle.std_laws.proofs.Members.{all-get}
use Rattle.std_laws.proofs.Zips.{at-zip}
use Rattle.std_laws.proofs.Tests.{not-and}

-- two outlines overlap exactly where their members crowd
overlap-members : (r : RuleValues) (n m : ℕ) (s t : Shape) → n < m
    → do_overlap r s t ≡ do_crowd (outline_member r n s) (outline_member r m t)
overlap-members r n m s t less = cases (is_on r.outline.layer s) (is_on r.outline.layer t)
  where
    apart : eqb n m ≡ false
    apart = ne_eqb n m (λ same. omega arith)

    cases : (p q : Bool) → ((p && q) && is_close (pos 0) s.rect t.rect)
        ≡ do_crowd (if p then Some (record { number = n; class = n; rect = s.rect; reach = pos 0 }) else None)
        (if q then Some (record { number = m; class = m; rect = t.rect; reach = pos 0 }) else None)
    cases false q = refl
    cases true false = refl
    cases true true = sym (ap (λ b. if b then false else is_close (pos 0) s.rect t.rect) apart)

outline-own : (r : RuleValues) (n : ℕ) (s : Shape) (member : Member) → outline_member r n s ≡ Some member → member.number ≡ n
outline-own r n s member is = cases (is_on r.outline.layer s) is
  where
    cases : (p : Bool) → (if p then Some (record { number = n; class = n; rect = s.rect; reach = pos 0 }) else None) ≡ Some member → member.number ≡ n
    cases true some =
        let made : Member = record { number = n; class = n; rect = s.rect; reach = pos 0 } in
        let same : made ≡ member = cc in
        sym (ap (λ (m : Member). m.number) same)
    cases false none = let never : ⊥ = cc in absurd never

outline-reach : (r : RuleValues) (n : ℕ) (s : Shape) (member : Member) → IsShapeInReach s → outline_member r n s ≡ Some member → KeepsInReach member
outline-reach r n s member reach is = cases (is_on r.outline.layer s) is
  where
    made : Member
    made = record { number = n; class = n; rect = s.rect; reach = pos 0 }

    keeps : KeepsInReach made
    keeps = record {
      wide = record {
        left = omega (arith, ints, reach.x0.low);
        low = omega (arith, ints, reach.y0.low);
        right = omega (arith, ints, reach.x1.high);
        high = omega (arith, ints, reach.y1.high);
      };
      low = omega (arith, ints);
      high = omega (arith, ints);
    }

    cases : (p : Bool) → (if p then Some made else None) ≡ Some member → KeepsInReach member
    cases true some = let same : made ≡ member = cc in subst KeepsInReach same keeps
    cases false none = let never : ⊥ = cc in absurd never

-- the outlines that overlap are the members that crowd
pub overlap-failing : (r : RuleValues) (shapes : List Shape)
    → crowds_of (members_from (outline_member r) 0 shapes) ≡ failing_pairs (do_overlap r) shapes
overlap-failing r shapes =
    crowds-failing (outline_member r) (do_overlap r) 0 shapes (outline-own r)
    (λ i j x y less x_is y_is. overlap-members r (0 + i) (0 + j) x y (omega arith))

pub overlap-reach : (r : RuleValues) (shapes : List Shape) → All IsShapeInReach shapes → All KeepsInReach (members_from (outline_member r) 0 shapes)
overlap-reach r shapes reach =
    members-reach (outline_member r) 0 shapes (λ k x a x_is is. outline-reach r (0 + k) x a (all-get IsShapeInReach shapes k x reach x_is) is)

-- rows whose numbers are equal just where their heights are
level-numbers : (a b : Extent) (n m : ℕ) → ((n ≡ m) ↔ (a.y0 ≡ b.y0)) → int_eq a.y0 b.y0 ≡ eqb n m
level-numbers a b n m exact = go (eqb n m) refl
  where
    go : (t : Bool) → eqb n m ≡ t → int_eq a.y0 b.y0 ≡ t
    go true same = (Decides-int_eq a.y0 b.y0).1 (exact.0 (eqb-true n m same))
    go false apart = false_from_ne_true (int_eq a.y0 b.y0) (λ level. eqb-false n m apart (exact.1 ((Decides-int_eq a.y0 b.y0).0 level)))

-- two outlines are out of row exactly where their heights crowd
row-members : (r : RuleValues) (n m : ℕ) (a b : ℕ × Shape)
    → (is_on r.outline.layer a.1 ≡ true → is_on r.outline.layer b.1 ≡ true → (a.0 ≡ b.0) ↔ (a.1.rect.y0 ≡ b.1.rect.y0))
    → are_out_of_row r a.1 b.1 ≡ do_crowd (row_member r n a) (row_member r m b)
row-members r n m a b exact = cases (is_on r.outline.layer a.1) refl (is_on r.outline.layer b.1) refl
  where
    cases : (p : Bool) → is_on r.outline.layer a.1 ≡ p → (q : Bool) → is_on r.outline.layer b.1 ≡ q
        → ((p && q) && (not (int_eq a.1.rect.y0 b.1.rect.y0) && int_lt (gap a.1.rect b.1.rect).1 (pos 0)))
        ≡ do_crowd (if p then Some (record { number = n; class = a.0; rect = flat a.1.rect; reach = pos 0 }) else None)
        (if q then Some (record { number = m; class = b.0; rect = flat b.1.rect; reach = pos 0 }) else None)
    cases false first q second = refl
    cases true first false second = refl
    cases true first true second =
        not-and (int_eq a.1.rect.y0 b.1.rect.y0) (int_lt (gap a.1.rect b.1.rect).1 (pos 0))
        ∙ ap (λ t. if t then false else int_lt (gap a.1.rect b.1.rect).1 (pos 0)) (level-numbers a.1.rect b.1.rect a.0 b.0 (exact first second))

row-own : (r : RuleValues) (n : ℕ) (a : ℕ × Shape) (member : Member) → row_member r n a ≡ Some member → member.number ≡ n
row-own r n a member is = cases (is_on r.outline.layer a.1) is
  where
    cases : (p : Bool) → (if p then Some (record { number = n; class = a.0; rect = flat a.1.rect; reach = pos 0 }) else None) ≡ Some member
        → member.number ≡ n
    cases true some =
        let made : Member = record { number = n; class = a.0; rect = flat a.1.rect; reach = pos 0 } in
        let same : made ≡ member = cc in
        sym (ap (λ (m : Member). m.number) same)
    cases false none = let never : ⊥ = cc in absurd never

row-reach : (r : RuleValues) (n : ℕ) (a : ℕ × Shape) (member : Member) → IsShapeInReach a.1 → row_member r n a ≡ Some member → KeepsInReach member
row-reach r n a member reach is = cases (is_on r.outline.layer a.1) is
  where
    made : Member
    made = record { number = n; class = a.0; rect = flat a.1.rect; reach = pos 0 }

    keeps : KeepsInReach made
    keeps = record {
      wide = record {
        left = omega (arith, ints);
        low = omega (arith, ints, reach.y0.low);
        right = omega (arith, ints);
        high = omega (arith, ints, reach.y1.high);
      };
      low = omega (arith, ints);
      high = omega (arith, ints);
    }

    cases : (p : Bool) → (if p then Some made else None) ≡ Some member → KeepsInReach member
    cases true some = let same : made ≡ member = cc in subst KeepsInReach same keeps
    cases false none = let never : ⊥ = cc in absurd never

-- what fails behind its number fails
failing_from-zip : {X Y : Type 0} (fails : Y → Bool) (n : ℕ) (xs : List X) (ys : List Y) → length xs ≡ length ys
    → failing_from (λ (p : X × Y). fails p.1) n (zip xs ys) ≡ failing_from fails n ys
failing_from-zip fails n [] [] same = refl
failing_from-zip fails n [] (y ∷ ys) same = absurd (omega arith)
failing_from-zip fails n (x ∷ xs) [] same = absurd (omega arith)
failing_from-zip fails n (x ∷ xs) (y ∷ ys) same =
    let later : length xs ≡ length ys = omega arith in
    ap (λ t. if fails y then n ∷ t else t) (failing_from-zip fails (n + 1) xs ys later)

failing_pairs-zip : {X Y : Type 0} (fails : Y → Y → Bool) (n : ℕ) (xs : List X) (ys : List Y) → length xs ≡ length ys
    → failing_pairs_from (λ (p q : X × Y). fails p.1 q.1) n (zip xs ys) ≡ failing_pairs_from fails n ys
failing_pairs-zip fails n [] [] same = refl
failing_pairs-zip fails n [] (y ∷ ys) same = absurd (omega arith)
failing_pairs-zip fails n (x ∷ xs) [] same = absurd (omega arith)
failing_pairs-zip {X} {Y} fails n (x ∷ xs) (y ∷ ys) same =
    let later : length xs ≡ length ys = omega arith in
    ap (λ t. map (λ later. (n, later)) t ++ failing_pairs_from (λ (p q : X × Y). fails p.1 q.1) (n + 1) (zip xs ys))
    (failing_from-zip (fails y) (n + 1) xs ys later)
    ∙ ap (λ t. map (λ later. (n, later)) (failing_from (fails y) (n + 1) ys) ++ t) (failing_pairs-zip fails (n + 1) xs ys later)

-- the outlines that are out of row are the members that crowd
pub row-failing : (r : RuleValues) (shapes : List Shape) (numbers : List ℕ) → AreNumbersOf r.outline.layer shapes numbers
    → crowds_of (members_from (row_member r) 0 (zip numbers shapes)) ≡ failing_pairs (are_out_of_row r) shapes
row-failing r shapes numbers are =
    crowds-failing (row_member r) (λ (a b : ℕ × Shape). are_out_of_row r a.1 b.1) 0 (zip numbers shapes) (row-own r)
    (λ i j x y less x_is y_is. row-members r (0 + i) (0 + j) x y (exact i j x y x_is y_is))
    ∙ failing_pairs-zip (are_out_of_row r) 0 numbers shapes are.each
  where
    exact : (i j : ℕ) (x y : ℕ × Shape) → slice_get (zip numbers shapes) i ≡ Some x → slice_get (zip numbers shapes) j ≡ Some y
        → is_on r.outline.layer x.1 ≡ true → is_on r.outline.layer y.1 ≡ true → (x.0 ≡ y.0) ↔ (x.1.rect.y0 ≡ y.1.rect.y0)
    exact i j x y x_is y_is first second =
        let x_at : (slice_get numbers i ≡ Some x.0) × (slice_get shapes i ≡ Some x.1) = at-zip numbers shapes i x x_is in
        let y_at : (slice_get numbers j ≡ Some y.0) × (slice_get shapes j ≡ Some y.1) = at-zip numbers shapes j y y_is in
        let x_number : slice_index numbers i ≡ x.0 = get_or_from_slice_get numbers i x.0 0 x_at.0 in
        let y_number : slice_index numbers j ≡ y.0 = get_or_from_slice_get numbers j y.0 0 y_at.0 in
        let told : (slice_index numbers i ≡ slice_index numbers j) ↔ (x.1.rect.y0 ≡ y.1.rect.y0) =
        are.same i j x.1 y.1 x_at.1 y_at.1 first second in (
          λ same. told.0 (x_number ∙ same ∙ sym y_number),
          λ level. sym x_number ∙ told.1 level ∙ y_number,
        )

pub row-members-reach : (r : RuleValues) (shapes : List Shape) (numbers : List ℕ) → All IsShapeInReach shapes
    → All KeepsInReach (members_from (row_member r) 0 (zip numbers shapes))
row-members-reach r shapes numbers reach =
    members-reach (row_member r) 0 (zip numbers shapes)
    (λ k x a x_is is. row-reach r (0 + k) x a (all-get IsShapeInReach shapes k x.1 reach (at-zip numbers shapes k x x_is).1) is)

-- one more number is told
pub told-more : (P : ℕ → Shape → ℕ → Type 0) (shapes : List Shape) (numbers pushed : List ℕ) (k number : ℕ) (shape : Shape) → length numbers ≡ k
    → pushed ≡ numbers ++ number ∷ [] → slice_get shapes k ≡ Some shape → P k shape number
    → ((i : ℕ) (s : Shape) → i < k → slice_get shapes i ≡ Some s → P i s (slice_index numbers i))
    → (i : ℕ) (s : Shape) → i < k + 1 → slice_get shapes i ≡ Some s → P i s (slice_index pushed i)
told-more P shapes numbers pushed k number shape len is here told before i s below at = elim (cases_lt i k) [
  | inl less ↦
      let same : slice_index numbers i ≡ slice_index pushed i =
      sym (ap (λ t. slice_index t i) is ∙ get_or_append_left numbers (number ∷ []) 0 i (omega arith)) in
      subst (P i s) same (before i s less at)
  | inr last ↦
      let there : k ≡ i = omega arith in
      let one : Some shape ≡ Some s = sym here ∙ ap (slice_get shapes) there ∙ at in
      let it : shape ≡ s = cc in
      let same : number ≡ slice_index pushed i =
      sym (ap (λ t. slice_index t i) is ∙ get_or_push numbers number 0 i (len ∙ there)) in
      subst (λ j. P j s (slice_index pushed i)) there (subst (λ t. P k t (slice_index pushed i)) it (subst (P k shape) same told))
]
