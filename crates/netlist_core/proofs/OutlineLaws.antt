use Rattle.std.proofs.Common.{◌≡◌, ℕ, ◌<◌, ◌≤◌, ℤ, pos, negsuc, ◌-ℤ◌, ◌≤ℤ◌, List, [], ◌∷◌, Bool, true, false, None, Some, refl, subst, arith}
use Rattle.std.proofs.lemmas.Int.{ints}
use Rattle.std.specs.Int.{int_min}
use Rattle.std.specs.List.{AllByRecursion}
use Rattle.std.specs.Ordering.{int_eq}
use Rattle.std.specs.Prelude.{unsigned_abs, if◌then◌else◌}
use Rattle.yal_reader.specs.Kept.{IsCoordinate}
use Rattle.netlist_core.specs.Outline.{between, has_turns, outline_of}
use Rattle.netlist_core.specs.declared.outline.Outline.{Outline}
use Rattle.std.proofs.lemmas.Option.{same_Some}
use Rattle.std_laws.proofs.Integers.{int-apart, int-distance}

-- the outline that `between` makes
pub made : (x y x' y' left low : ℤ) (width height : ℕ) → int_eq x x' ≡ false → int_eq y y' ≡ false
    → left ≡ int_min x x' → low ≡ int_min y y' → width ≡ unsigned_abs (x -ℤ x') → height ≡ unsigned_abs (y -ℤ y')
    → Some (record { left = left; low = low; width = width; height = height }) ≡ between x y x' y'
unfolding between
made x y x' y' left low width height int-apart above l b w h = rw (int-apart, above, l, b, w, h) refl

-- the sides of an outline are above 0 and at most 200,000,000
pub record IsSmall (o : Outline) : Type 0 where
  pub wide : 0 < o.width
  pub width : o.width ≤ 200000000
  pub high : 0 < o.height
  pub height : o.height ≤ 200000000

near-apart : (x y : ℤ) → IsCoordinate x → IsCoordinate y → unsigned_abs (x -ℤ y) ≤ 200000000
near-apart x y hx hy =
    let a : negsuc 99999999 ≤ℤ x = hx.low in
    let b : x ≤ℤ pos 100000000 = hx.high in
    let c : negsuc 99999999 ≤ℤ y = hy.low in
    let d : y ≤ℤ pos 100000000 = hy.high in
    omega (arith, ints)

small-between : (x y x' y' : ℤ) (o : Outline) → IsCoordinate x → IsCoordinate y → IsCoordinate x' → IsCoordinate y' → between x y x' y' ≡ Some o → IsSmall o
unfolding between
small-between x y x' y' o hx hy hx' hy' = by (int_eq x x') refl (int_eq y y') refl
  where
    made-small : int_eq x x' ≡ false → int_eq y y' ≡ false → IsSmall (record { left = int_min x x'; low = int_min y y'; width = unsigned_abs (x -ℤ x'); height = unsigned_abs (y -ℤ y') })
    made-small a b = record {
      wide = int-distance x x' a;
      width = near-apart x x' hx hx';
      high = int-distance y y' b;
      height = near-apart y y' hy hy';
    }

    by : (a : Bool) → int_eq x x' ≡ a → (b : Bool) → int_eq y y' ≡ b
        → (if a then None else if b then None else Some (record { left = int_min x x'; low = int_min y y'; width = unsigned_abs (x -ℤ x'); height = unsigned_abs (y -ℤ y') })) ≡ Some o → IsSmall o
    by true ha b hb h = cc
    by false ha true hb h = cc
    by false ha false hb h = subst IsSmall (same_Some _ _ h) (made-small ha hb)

-- what an outline that corners have is
pub outline-small : (corners : List ℤ) (o : Outline) → AllByRecursion IsCoordinate corners → outline_of corners ≡ Some o → IsSmall o
outline-small (x0 ∷ y0 ∷ x1 ∷ y1 ∷ x2 ∷ y2 ∷ x3 ∷ y3 ∷ []) o near =
    by (has_turns x0 y0 x1 y1 x2 y2 x3 y3)
  where
    by : (b : Bool) → (if b then between x0 y0 x2 y2 else None) ≡ Some o → IsSmall o
    by true h = small-between x0 y0 x2 y2 o near.0 near.1.0 near.1.1.1.1.0 near.1.1.1.1.1.0 h
    by false h = cc
outline-small _ o near = λ h. cc
