use Rattle.std.proofs.Common.{◌≡◌, ◌⊎◌, ◌<◌, ◌≤ℤ◌, ◌<ℤ◌, ◌+ℤ◌, ◌↔◌, ℕ, ℤ, pos, List, [], Bool, true, false, ◌&&◌, ◌||◌, not, eqb, Some, length, refl, ap, subst, sym, ◌∙◌, inl, inr, arith}
use Rattle.std.specs.Prelude.{All, int_lt, slice_index}
use Rattle.std.specs.List.{slice_get, zip}
use Rattle.std.specs.Str.{bytes_eq}
use Rattle.std.proofs.lemmas.Bool.{and_cases, and_left, and_right, and_from, cases_Bool, cases_order, eq-eqb, false_from_ne_true, ne_eqb, not_from_false, or_from, or_parts}
use Rattle.std.proofs.lemmas.Int.{by_lt_z, ints}
use Rattle.std.proofs.lemmas.Option.{get_or_from_slice_get, slice_get_within, slice_get-get_or}
use Rattle.geom_core.specs.Extent.{Extent}
use Rattle.geom_core.specs.Rectangles.{Apart, gap_between}
use Rattle.geom_core.specs.Rectangles.Apart.{left_of, right_of, under, above}
use Rattle.geom_core.specs.declared.layout.Layout.{Layout}
use Rattle.geom_core.specs.declared.layout.Shape.{Shape}
use Rattle.close_rects.specs.ClosePairs.{is_close}
use Rattle.close_rects.specs.Items.{HasInside}
use Rattle.tech_rules.specs.Lengths.{length_in}
use Rattle.tech_rules.specs.Rules.{RuleValues}
use Rattle.design_model.specs.Good.{KeepSpace, Spaced}
use Rattle.design_model.specs.Joined.{Joined}
use Rattle.design_model.specs.Joined.Joined.{here}
use Rattle.design_model.specs.Netlist.{Netlist}
use Rattle.geom_extract.specs.Extracts.{IsExtract}
use Rattle.geom_extract.specs.declared.joined.Extract.{Extract}
use Rattle.rule_check.specs.Crowded.{are_too_close, is_crowded_on}
use Rattle.rule_check.specs.Failing.{failing_pairs}
use Rattle.rule_check.proofs.Laws.{failing_pairs-none}
use Rattle.std_laws.proofs.Members.{all-get}
use Rattle.std_laws.proofs.Bytes.{bytes_one, bytes_same}
use Rattle.std_laws.proofs.Zips.{at-zip, zip-at}

-- stretches whose gap is not below d lie that far apart
gap-apart : (d low high other_low other_high : ℤ) → pos 0 ≤ℤ d → low <ℤ high → other_low <ℤ other_high
    → int_lt (gap_between low high other_low other_high) d ≡ false → ((high +ℤ d) ≤ℤ other_low) ⊎ ((other_high +ℤ d) ≤ℤ low)
gap-apart d low high other_low other_high some inside other_inside wide =
    by_lt_z other_low (high +ℤ d) (λ less. inr (gap-above d low high other_low other_high some inside other_inside wide less)) (λ apart. inl apart)
  where
    gap-above : (d low high other_low other_high : ℤ) → pos 0 ≤ℤ d → low <ℤ high → other_low <ℤ other_high
        → int_lt (gap_between low high other_low other_high) d ≡ false → other_low <ℤ (high +ℤ d) → (other_high +ℤ d) ≤ℤ low
    gap-above d low high other_low other_high some inside other_inside wide less = grind (arith, ints)

apart-gap : (d low high other_low other_high : ℤ) → (high +ℤ d) ≤ℤ other_low → int_lt (gap_between low high other_low other_high) d ≡ false
apart-gap d low high other_low other_high apart = grind (arith, ints)

apart-gap-below : (d low high other_low other_high : ℤ) → (other_high +ℤ d) ≤ℤ low → int_lt (gap_between low high other_low other_high) d ≡ false
apart-gap-below d low high other_low other_high apart = grind (arith, ints)

-- rectangles that lie apart are not close
apart-far : (d : ℤ) (a b : Extent) → Apart d a b → is_close d a b ≡ false
apart-far d a b (left_of beside) = and_left _ _ (apart-gap d a.x0 a.x1 b.x0 b.x1 beside)
apart-far d a b (right_of beside) = and_left _ _ (apart-gap-below d a.x0 a.x1 b.x0 b.x1 beside)
apart-far d a b (under below) = and_right _ _ (apart-gap d a.y0 a.y1 b.y0 b.y1 below)
apart-far d a b (above over) = and_right _ _ (apart-gap-below d a.y0 a.y1 b.y0 b.y1 over)

far-apart : (d : ℤ) (a b : Extent) → pos 0 ≤ℤ d → HasInside a → HasInside b → is_close d a b ≡ false → Apart d a b
far-apart d a b some first second far = elim (and_cases _ _ far) [
  | inl across ↦ elim (gap-apart d a.x0 a.x1 b.x0 b.x1 some first.across second.across across) [
    | inl left ↦ left_of left
    | inr right ↦ right_of right
  ]
  | inr up ↦ elim (gap-apart d a.y0 a.y1 b.y0 b.y1 some first.up second.up up) [
    | inl low ↦ under low
    | inr high ↦ above high
  ]
]

apart-back : (d : ℤ) (a b : Extent) → Apart d a b → Apart d b a
apart-back d a b (left_of beside) = right_of beside
apart-back d a b (right_of beside) = left_of beside
apart-back d a b (under below) = above below
apart-back d a b (above over) = under over

some-length : (r : RuleValues) (units : ℕ) → pos 0 ≤ℤ length_in r units
some-length r units = omega (arith, ints)

-- a test that is asked of shapes of one layer alone
on-crowded : (r : RuleValues) (layer : List ℕ) (space : ℕ) (s t : Shape)
    → (s.layer ≡ layer → t.layer ≡ layer → is_close (length_in r space) s.rect t.rect ≡ false) → is_crowded_on r layer space s t ≡ false
on-crowded r layer space s t far =
    false_from_ne_true _ (λ is. by (bytes_eq s.layer layer) (bytes_eq t.layer layer) refl refl is)
  where
    by : (a b : Bool) → bytes_eq s.layer layer ≡ a → bytes_eq t.layer layer ≡ b → ((a && b) && is_close (length_in r space) s.rect t.rect) ≡ true → ⊥
    by false b first second is = let never : ⊥ = cc in never
    by true false first second is = let never : ⊥ = cc in never
    by true true first second is =
        let close : is_close (length_in r space) s.rect t.rect ≡ false = far (bytes_one s.layer layer first) (bytes_one t.layer layer second) in
        let never : ⊥ = cc in
        never

crowded-on : (r : RuleValues) (layer : List ℕ) (space : ℕ) (s t : Shape) → is_crowded_on r layer space s t ≡ false → s.layer ≡ layer → t.layer ≡ layer
    → is_close (length_in r space) s.rect t.rect ≡ false
crowded-on r layer space s t none first second =
    let on_first : bytes_eq s.layer layer ≡ true = subst (λ (name : List ℕ). bytes_eq s.layer name ≡ true) first (bytes_same s.layer) in
    let on_second : bytes_eq t.layer layer ≡ true = subst (λ (name : List ℕ). bytes_eq t.layer name ≡ true) second (bytes_same t.layer) in
    sym (ap (λ u. u && is_close (length_in r space) s.rect t.rect) (and_from (bytes_eq s.layer layer) (bytes_eq t.layer layer) on_first on_second)) ∙ none

module _ (r : RuleValues) (d : Netlist) (l : Layout) (e : Extract) (extract : IsExtract r d l e) (inside : All (λ (s : Shape). HasInside s.rect) l.shapes) where
  abbrev class : ℕ → ℕ
  class i = slice_index e.shapes.items i

  -- no two shapes are too close
  abbrev pub NoneClose : Type 0
  NoneClose = (i j : ℕ) (x y : ℕ × Shape) → i < j → slice_get (zip e.shapes.items l.shapes) i ≡ Some x → slice_get (zip e.shapes.items l.shapes) j ≡ Some y
      → are_too_close r x y ≡ false

  of-shape : (i : ℕ) (s : Shape) → slice_get l.shapes i ≡ Some s → slice_get (zip e.shapes.items l.shapes) i ≡ Some (class i, s)
  of-shape i s is =
      let within : i < length l.shapes = slice_get_within l.shapes i s is in
      zip-at e.shapes.items l.shapes i (class i) s (slice_get-get_or e.shapes.items i 0 (omega (arith, extract.all_shapes))) is

  -- two shapes of which neither is joined to the other are asked for their spaces
  three-far : NoneClose → (i j : ℕ) (s t : Shape) → i < j → slice_get l.shapes i ≡ Some s → slice_get l.shapes j ≡ Some t → (class i ≡ class j → ⊥)
      → (is_crowded_on r r.horizontal.layer r.horizontal.space s t ≡ false) × (is_crowded_on r r.vertical.layer r.vertical.space s t ≡ false)
      × (is_crowded_on r r.cut.layer r.cut.space s t ≡ false)
  three-far none i j s t less s_is t_is apart =
      let far : are_too_close r (class i, s) (class j, t) ≡ false = none i j (class i, s) (class j, t) less (of-shape i s s_is) (of-shape j t t_is) in
      let all = or_parts _ (is_crowded_on r r.cut.layer r.cut.space s t)
      (sym (ap (λ u. u && (is_crowded_on r r.horizontal.layer r.horizontal.space s t || is_crowded_on r r.vertical.layer r.vertical.space s t
      || is_crowded_on r r.cut.layer r.cut.space s t)) (not_from_false (eqb (class i) (class j)) (ne_eqb (class i) (class j) apart))) ∙ far) in
      let two = or_parts (is_crowded_on r r.horizontal.layer r.horizontal.space s t) (is_crowded_on r r.vertical.layer r.vertical.space s t) all.0 in
      (two.0, two.1, all.1)

  keeps : (layer : List ℕ) (space : ℕ)
      → ((i j : ℕ) (s t : Shape) → i < j → slice_get l.shapes i ≡ Some s → slice_get l.shapes j ≡ Some t → (class i ≡ class j → ⊥) → is_crowded_on r layer space s t ≡ false)
      → KeepSpace r d l layer space
  keeps layer space none i j s t s_is t_is s_on t_on apart =
      let i_within : i < length l.shapes = slice_get_within l.shapes i s s_is in
      let j_within : j < length l.shapes = slice_get_within l.shapes j t t_is in
      let s_inside : HasInside s.rect = all-get (λ (x : Shape). HasInside x.rect) l.shapes i s inside s_is in
      let t_inside : HasInside t.rect = all-get (λ (x : Shape). HasInside x.rect) l.shapes j t inside t_is in
      elim (cases_order i j) [
        | inl same ↦ absurd (apart (subst (λ (k : ℕ). Joined r d l j k) (sym same) here))
        | inr order ↦ elim order [
          | inl less ↦
              far-apart (length_in r space) s.rect t.rect (some-length r space) s_inside t_inside
              (crowded-on r layer space s t (none i j s t less s_is t_is (λ equal. apart ((extract.shapes j i j_within i_within).0 (sym equal)))) s_on t_on)
          | inr more ↦
              apart-back (length_in r space) t.rect s.rect
              (far-apart (length_in r space) t.rect s.rect (some-length r space) t_inside s_inside
              (crowded-on r layer space t s (none j i t s more t_is s_is (λ equal. apart ((extract.shapes j i j_within i_within).0 equal))) t_on s_on))
        ]
      ]

  spaced-from : NoneClose → Spaced r d l
  spaced-from none = record {
    horizontal = keeps r.horizontal.layer r.horizontal.space (λ i j s t less s_is t_is apart. (three-far none i j s t less s_is t_is apart).0);
    vertical = keeps r.vertical.layer r.vertical.space (λ i j s t less s_is t_is apart. (three-far none i j s t less s_is t_is apart).1);
    cut = keeps r.cut.layer r.cut.space (λ i j s t less s_is t_is apart. (three-far none i j s t less s_is t_is apart).2);
  }

  none-from : Spaced r d l → NoneClose
  none-from spaced i j x y less x_is y_is =
      let x_at = at-zip e.shapes.items l.shapes i x x_is in
      let y_at = at-zip e.shapes.items l.shapes j y y_is in
      let i_within : i < length l.shapes = slice_get_within l.shapes i x.1 x_at.1 in
      let j_within : j < length l.shapes = slice_get_within l.shapes j y.1 y_at.1 in
      let x_class : class i ≡ x.0 = get_or_from_slice_get e.shapes.items i x.0 0 x_at.0 in
      let y_class : class j ≡ y.0 = get_or_from_slice_get e.shapes.items j y.0 0 y_at.0 in
      elim (cases_Bool (eqb x.0 y.0)) [
        | inl same ↦
            ap (λ u. not u && (is_crowded_on r r.horizontal.layer r.horizontal.space x.1 y.1 || is_crowded_on r r.vertical.layer r.vertical.space x.1 y.1
            || is_crowded_on r r.cut.layer r.cut.space x.1 y.1)) same
        | inr differ ↦
            let apart : Joined r d l j i → ⊥ =
            λ joined.
            let equal : class j ≡ class i = (extract.shapes j i j_within i_within).1 joined in
            let never : eqb x.0 y.0 ≡ true = eq-eqb x.0 y.0 (sym x_class ∙ sym equal ∙ y_class) in
            cc in
            and_right _ _
            (or_from _ _
            (or_from _ _
            (on-crowded r r.horizontal.layer r.horizontal.space x.1 y.1
            (λ first second. apart-far _ _ _ (spaced.horizontal i j x.1 y.1 x_at.1 y_at.1 first second apart)))
            (on-crowded r r.vertical.layer r.vertical.space x.1 y.1
            (λ first second. apart-far _ _ _ (spaced.vertical i j x.1 y.1 x_at.1 y_at.1 first second apart))))
            (on-crowded r r.cut.layer r.cut.space x.1 y.1
            (λ first second. apart-far _ _ _ (spaced.cut i j x.1 y.1 x_at.1 y_at.1 first second apart))))
      ]

  -- all shapes keep their spaces just where no two are too close
  pub spaced-failing : Spaced r d l ↔ (failing_pairs (are_too_close r) (zip e.shapes.items l.shapes) ≡ [])
  spaced-failing = (
    λ spaced. (failing_pairs-none (are_too_close r) (zip e.shapes.items l.shapes)).1 (none-from spaced),
    λ none. spaced-from ((failing_pairs-none (are_too_close r) (zip e.shapes.items l.shapes)).0 none),
  )
