use Rattle.std.proofs.Common.{◌≡◌, ◌⊎◌, ◌≤ℤ◌, ◌<ℤ◌, ℤ, pos, false, ◌&&◌, not, ap, sym, inl, inr, arith}
use Rattle.std.specs.Prelude.{int_lt}
use Rattle.std.specs.Ordering.{int_eq}
use Rattle.std.proofs.lemmas.Bool.{and_cases, and_left, and_right, not-false}
use Rattle.std.proofs.lemmas.Bool.Decides.{Decides-int_eq}
use Rattle.std.proofs.lemmas.Int.{by_lt_z, ints}
use Rattle.geom_core.specs.Extent.{Extent}
use Rattle.geom_core.specs.Rectangles.{Apart, gap, gap_between}
use Rattle.geom_core.specs.Rectangles.Apart.{left_of, right_of, under, above}
use Rattle.close_rects.specs.ClosePairs.{is_close}
use Rattle.close_rects.specs.Items.{HasInside}
use Rattle.tech_rules.specs.InRows.{IsBelow, SameRow}

-- stretches whose gap is not below 0 lie apart
gap-apart : (low high other_low other_high : ℤ) → low <ℤ high → other_low <ℤ other_high
    → int_lt (gap_between low high other_low other_high) (pos 0) ≡ false → (high ≤ℤ other_low) ⊎ (other_high ≤ℤ low)
gap-apart low high other_low other_high some other_some wide =
    by_lt_z other_low high (λ less. inr (gap-above low high other_low other_high some other_some wide less)) (λ apart. inl apart)
  where
    gap-above : (low high other_low other_high : ℤ) → low <ℤ high → other_low <ℤ other_high
        → int_lt (gap_between low high other_low other_high) (pos 0) ≡ false → other_low <ℤ high → other_high ≤ℤ low
    gap-above low high other_low other_high some other_some wide less = grind (arith, ints)

apart-gap : (low high other_low other_high : ℤ) → high ≤ℤ other_low → int_lt (gap_between low high other_low other_high) (pos 0) ≡ false
apart-gap low high other_low other_high apart = grind (arith, ints)

apart-gap-below : (low high other_low other_high : ℤ) → other_high ≤ℤ low → int_lt (gap_between low high other_low other_high) (pos 0) ≡ false
apart-gap-below low high other_low other_high apart = grind (arith, ints)

-- rectangles that lie apart share no inner point
pub apart-close : (a b : Extent) → Apart (pos 0) a b → is_close (pos 0) a b ≡ false
apart-close a b (left_of beside) = and_left _ _ (apart-gap a.x0 a.x1 b.x0 b.x1 (omega (arith, ints)))
apart-close a b (right_of beside) = and_left _ _ (apart-gap-below a.x0 a.x1 b.x0 b.x1 (omega (arith, ints)))
apart-close a b (under below) = and_right _ _ (apart-gap a.y0 a.y1 b.y0 b.y1 (omega (arith, ints)))
apart-close a b (above over) = and_right _ _ (apart-gap-below a.y0 a.y1 b.y0 b.y1 (omega (arith, ints)))

pub close-apart : (a b : Extent) → HasInside a → HasInside b → is_close (pos 0) a b ≡ false → Apart (pos 0) a b
close-apart a b first second far = elim (and_cases _ _ far) [
  | inl across ↦ elim (gap-apart a.x0 a.x1 b.x0 b.x1 first.across second.across across) [
    | inl left ↦ left_of (omega (arith, ints))
    | inr right ↦ right_of (omega (arith, ints))
  ]
  | inr up ↦ elim (gap-apart a.y0 a.y1 b.y0 b.y1 first.up second.up up) [
    | inl low ↦ under (omega (arith, ints))
    | inr high ↦ above (omega (arith, ints))
  ]
]

pub apart-back : (a b : Extent) → Apart (pos 0) a b → Apart (pos 0) b a
apart-back a b (left_of beside) = right_of beside
apart-back a b (right_of beside) = left_of beside
apart-back a b (under below) = above below
apart-back a b (above over) = under over

abbrev pub AreRows : Extent → Extent → Type 0
AreRows a b = SameRow a b ⊎ IsBelow a b ⊎ IsBelow b a

pub rows-back : (a b : Extent) → AreRows a b → AreRows b a
rows-back a b (inl same) = inl (sym same)
rows-back a b (inr (inl below)) = inr (inr below)
rows-back a b (inr (inr over)) = inr (inl over)

-- rectangles of one row, or of rows apart, are not out of row
pub rows-level : (a b : Extent) → AreRows a b → (not (int_eq a.y0 b.y0) && int_lt (gap a b).1 (pos 0)) ≡ false
rows-level a b (inl same) =
    and_left _ _ (ap not ((Decides-int_eq a.y0 b.y0).1 same))
rows-level a b (inr (inl below)) = and_right _ _ (apart-gap a.y0 a.y1 b.y0 b.y1 below)
rows-level a b (inr (inr over)) = and_right _ _ (apart-gap-below a.y0 a.y1 b.y0 b.y1 over)

pub level-rows : (a b : Extent) → HasInside a → HasInside b → (not (int_eq a.y0 b.y0) && int_lt (gap a b).1 (pos 0)) ≡ false
    → AreRows a b
level-rows a b first second far = elim (and_cases _ _ far) [
  | inl level ↦ inl ((Decides-int_eq a.y0 b.y0).0 (not-false _ level))
  | inr apart ↦ elim (gap-apart a.y0 a.y1 b.y0 b.y1 first.up second.up apart) [ inl low ↦ inr (inl low) | inr high ↦ inr (inr high) ]
]
