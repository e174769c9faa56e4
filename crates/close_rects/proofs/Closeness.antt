use Rattle.std.proofs.Common.{◌≡◌, ℤ, pos, ◌+ℤ◌, ◌-ℤ◌, ◌≤ℤ◌, ◌<ℤ◌, true, ◌&&◌, ap, ◌∙◌, arith}
use Rattle.std.specs.Prelude.{int_lt}
use Rattle.std.proofs.lemmas.Int.{ints}
use Rattle.std.proofs.lemmas.Bool.{and_parts, and_from}
use Rattle.geom_core.specs.Extent.{Extent}
use Rattle.geom_core.specs.Rectangles.{Meet, gap, gap_between, grown}
use Rattle.close_rects.specs.Items.{HasInside}
use Rattle.close_rects.specs.ClosePairs.{is_close}

-- the gap between two stretches is that of the second from the first
pub gap_between-comm : (a b c d : ℤ) → gap_between a b c d ≡ gap_between c d a b
gap_between-comm a b c d = grind (arith, ints)

pub is_close-comm : (reach : ℤ) (a b : Extent) → is_close reach a b ≡ is_close reach b a
is_close-comm reach a b =
    ap (λ z. int_lt z reach && int_lt (gap a b).1 reach) (gap_between-comm a.x0 a.x1 b.x0 b.x1)
    ∙ ap (λ z. int_lt (gap b a).0 reach && int_lt z reach) (gap_between-comm a.y0 a.y1 b.y0 b.y1)

-- the gap is below the reach where neither stretch lies so far from the other
pub gap_below : (low high other_low other_high reach : ℤ) → low <ℤ high → other_low <ℤ other_high → pos 0 ≤ℤ reach
    → int_lt (gap_between low high other_low other_high) reach ≡ true
    → ((low -ℤ (reach -ℤ pos 1)) ≤ℤ other_high) × (other_low ≤ℤ (high +ℤ (reach -ℤ pos 1)))
gap_below low high other_low other_high reach some other_some reaches below = (grind (arith, ints), grind (arith, ints))

pub gap_below-from : (low high other_low other_high reach : ℤ) → low <ℤ high → other_low <ℤ other_high → pos 0 ≤ℤ reach
    → (low -ℤ (reach -ℤ pos 1)) ≤ℤ other_high → other_low ≤ℤ (high +ℤ (reach -ℤ pos 1))
    → int_lt (gap_between low high other_low other_high) reach ≡ true
gap_below-from low high other_low other_high reach some other_some reaches left right = grind (arith, ints)

-- close rectangles meet the grown one
pub Meet-close : (reach : ℤ) (a b : Extent) → HasInside a → HasInside b → pos 0 ≤ℤ reach → is_close reach a b ≡ true
    → Meet (grown (reach -ℤ pos 1) a) b
Meet-close reach a b inside other reaches close =
    let both : (int_lt (gap a b).0 reach ≡ true) × (int_lt (gap a b).1 reach ≡ true) = and_parts _ _ close in
    let across = gap_below a.x0 a.x1 b.x0 b.x1 reach inside.across other.across reaches both.0 in
    let up = gap_below a.y0 a.y1 b.y0 b.y1 reach inside.up other.up reaches both.1 in
    record { left = across.0; right = across.1; low = up.0; high = up.1 }

pub close-Meet : (reach : ℤ) (a b : Extent) → HasInside a → HasInside b → pos 0 ≤ℤ reach → Meet (grown (reach -ℤ pos 1) a) b
    → is_close reach a b ≡ true
close-Meet reach a b inside other reaches met =
    and_from _ _ (gap_below-from a.x0 a.x1 b.x0 b.x1 reach inside.across other.across reaches met.left met.right)
    (gap_below-from a.y0 a.y1 b.y0 b.y1 reach inside.up other.up reaches met.low met.high)
