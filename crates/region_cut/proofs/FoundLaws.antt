use Rattle.std.proofs.Common.{◌≡◌, ◌∙◌, ◌<◌, ◌≤◌, ◌+◌, ◌-◌, inl, inr, ℕ, List, [], ◌∷◌, ◌++◌, append_assoc, length, length-append, map, max, ap, reverse, subst, sym, arith}
use Rattle.std.proofs.lemmas.Bool.{cases_lt}
use Rattle.std.proofs.lemmas.Grind.{flat_map-append}
use Rattle.std.proofs.lemmas.List.{append-nil, length-map, length-reverse, reverse-append}
use Rattle.std.specs.List.{flat_map, range_with_len}
use Rattle.std.specs.Prelude.{slice_index, Option, None}
use Rattle.geom_core.specs.Extent.{Extent}
use Rattle.region_cut.specs.Blocks.{Block, numbers}
use Rattle.region_cut.specs.Ceilings.{AreCeilings, IsHeld, IsLeast, IsLowest}
use Rattle.region_cut.specs.Falls.{IsFall}
use Rattle.region_cut.specs.Grids.{Grid, columns, extent_of, strips}
use Rattle.region_cut.specs.Maximal.{corner_rects}
use Rattle.region_cut.proofs.GrowthLaws.{block}
use Rattle.region_cut.proofs.RowLaws.{corner-rows, numbers-first, numbers-split, rows_above}
use Rattle.region_cut.proofs.CornerLaws.{IsFloor, floor-low, rows-floor, rows-lowest, rows-more, rows-next, rows-none, top-end}

-- no list for no numbers
pub numbers-start : {X : Type 0} (f : ℕ → List X) (a b : ℕ) (old : List X) → b ≤ a → old ≡ old ++ reverse (flat_map f (numbers a b))
numbers-start {X} f a b old past =
    let none : b - a ≡ 0 = omega arith in
    sym (append-nil old) ∙ ap (λ n. old ++ reverse (flat_map f (range_with_len a n))) (sym none)

-- lists for numbers one after the other, from the last number on
pub numbers-more : {X : Type 0} (f : ℕ → List X) (a b : ℕ) (old items new : List X) → a < b → items ≡ old ++ reverse (flat_map f (numbers (a + 1) b)) → new ≡ items ++ reverse (f a)
    → new ≡ old ++ reverse (flat_map f (numbers a b))
numbers-more {X} f a b old items new less was more =
    more ∙ ap (λ (l : List X). l ++ reverse (f a)) was ∙ append_assoc old (reverse (flat_map f (numbers (a + 1) b))) (reverse (f a))
    ∙ ap (λ (l : List X). old ++ l) (sym (reverse-append (f a) (flat_map f (numbers (a + 1) b))))
    ∙ ap (λ (l : List ℕ). old ++ reverse (flat_map f l)) (sym (numbers-first a b less))

pub numbers-longer : {X : Type 0} (f : ℕ → List X) (a b c : ℕ) → a ≤ b → b ≤ c → length (flat_map f (numbers b c)) ≤ length (flat_map f (numbers a c))
numbers-longer f a b c first second =
    let split = ap length (ap (λ (l : List ℕ). flat_map f l) (numbers-split a b c first second) ∙ flat_map-append f (numbers a b) (numbers b c)) in
    omega (arith, split, length-append (flat_map f (numbers a b)) (flat_map f (numbers b c)))

-- there are as many behind a first one as it adds, and more where it is the first
pub numbers-many : {X : Type 0} (f : ℕ → List X) (a b most : ℕ) (old items : List X) → a < b → items ≡ old ++ reverse (flat_map f (numbers (a + 1) b)) → most < length items + length (f a)
    → most < length old + length (flat_map f (numbers 0 b))
numbers-many {X} f a b most old items less was many =
    let long = ap length was ∙ length-append old (reverse (flat_map f (numbers (a + 1) b))) in
    let turned = length-reverse (flat_map f (numbers (a + 1) b)) in
    let first = ap length (ap (λ (l : List ℕ). flat_map f l) (numbers-first a b less)) ∙ length-append (f a) (flat_map f (numbers (a + 1) b)) in
    let all = numbers-longer f 0 a b (omega arith) (omega arith) in
    omega (arith, long, turned, first, all, many)

module _ (g : Grid) (low : ℕ) (tops : List ℕ) (ceilings : AreCeilings g.filled (strips g) (columns g) low tops) where
  abbrev pub rects_above : ℕ → ℕ → List Extent
  rects_above left high = map (extent_of g) (rows_above g.filled (strips g) (columns g) low left high)

  corner-all : (left : ℕ) → corner_rects g low left ≡ rects_above left low
  unfolding corner_rects
  corner-all left = ap (map (extent_of g)) (corner-rows g.filled (strips g) (columns g) low left)

  -- a corner whose blocks can all grow down
  pub corner-none : (left : ℕ) (lowest : Option ℕ) (old : List Extent) → lowest ≡ None → IsLowest g.filled (columns g) low tops left lowest → old ≡ old ++ reverse (corner_rects g low left)
  corner-none left lowest old is full =
      sym (append-nil old)
      ∙ ap (λ (l : List Extent). old ++ reverse l)
      (sym (corner-all left ∙ ap (map (extent_of g)) (rows-none g.filled (strips g) (columns g) low tops ceilings left (subst (IsLowest g.filled (columns g) low tops left) is full))))

  -- before the first block
  pub corner-start : (left floor column : ℕ) (old : List Extent) → left < columns g → IsFloor low left tops floor → IsLeast g.filled (columns g) low tops left column
      → old ≡ old ++ reverse (rects_above left (max floor (slice_index tops column)))
  corner-start left floor column old within base least =
      let from = (floor-low g.filled (strips g) (columns g) low tops ceilings left floor within base).0 in
      sym (append-nil old)
      ∙ ap (λ (l : List Extent). old ++ reverse l)
      (sym (ap (map (extent_of g)) (rows-lowest g.filled (strips g) (columns g) low tops ceilings left (max floor (slice_index tops column)) column (omega arith) least (omega arith))))

  -- at the floor
  pub corner-end : (left floor column : ℕ) (old items : List Extent) → left < columns g → IsFloor low left tops floor → (column < columns g → slice_index tops column ≤ floor)
      → items ≡ old ++ reverse (rects_above left (max floor (slice_index tops column))) → items ≡ old ++ reverse (corner_rects g low left)
  corner-end left floor column old items within base past was =
      was
      ∙ ap (λ (l : List Extent). old ++ reverse l)
      (ap (λ k. rects_above left k) same
      ∙ sym (corner-all left ∙ ap (map (extent_of g)) (rows-floor g.filled (strips g) (columns g) low tops ceilings left floor within base)))
    where
      same : max floor (slice_index tops column) ≡ floor
      same = elim (cases_lt column (columns g)) [
        | inl inside ↦ let no_more = past inside in omega arith
        | inr end ↦ let none = top-end g.filled (strips g) (columns g) low tops ceilings column end in omega arith
      ]

  -- one block more
  module _ (left floor column next : ℕ) (old items : List Extent) (within : left < columns g) (held : IsHeld g.filled (columns g) low tops left column) (inside : column < columns g)
      (fall : IsFall tops column next) (base : IsFloor low left tops floor) (above : floor < slice_index tops column)
      (was : items ≡ old ++ reverse (rects_above left (max floor (slice_index tops column)))) where
    pub corner-next : (new : List Extent) → new ≡ items ++ extent_of g (block low left (slice_index tops column) next) ∷ []
        → new ≡ old ++ reverse (rects_above left (max floor (slice_index tops next)))
    corner-next new more =
        more ∙ ap (λ (l : List Extent). l ++ extent_of g (block low left (slice_index tops column) next) ∷ []) was
        ∙ append_assoc old (reverse (rects_above left (max floor (slice_index tops column)))) (extent_of g (block low left (slice_index tops column) next) ∷ [])
        ∙ ap (λ (l : List Extent). old ++ l) (sym (reverse-append (extent_of g (block low left (slice_index tops column) next) ∷ []) (rects_above left (max floor (slice_index tops column)))))
        ∙ ap (λ (l : List Block). old ++ reverse (map (extent_of g) l))
        (sym (rows-next g.filled (strips g) (columns g) low tops ceilings left floor column next held inside fall base above within))

    -- and where it is one too many
    pub corner-many : (most : ℕ) → most ≤ length items → most < length old + length (corner_rects g low left)
    corner-many most many =
        let more = rows-more g.filled (strips g) (columns g) low tops ceilings left floor column next held inside fall base above within in
        let long = ap length was ∙ length-append old (reverse (rects_above left (max floor (slice_index tops column)))) in
        let turned = length-reverse (rects_above left (max floor (slice_index tops column))) in
        let drawn = length-map (rows_above g.filled (strips g) (columns g) low left (max floor (slice_index tops column))) (extent_of g) in
        let whole = ap length (corner-all left) ∙ length-map (rows_above g.filled (strips g) (columns g) low left low) (extent_of g) in
        omega (arith, more, long, turned, drawn, whole, many)
