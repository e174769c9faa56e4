-- the outline of a module
use Rattle.std.specs.Prelude.{◌≡◌, ◌↔◌, ℕ, ◌<◌, ℤ, pos, ◌+ℤ◌, ◌-ℤ◌, unsigned_abs, List, [], ◌∷◌, Bool, ◌&&◌, ◌||◌, if◌then◌else◌, Option, None, Some}
use Rattle.std.specs.Int.{int_min}
use Rattle.std.specs.Ordering.{int_eq}
use Rattle.netlist_core.specs.declared.outline.Outline.{Outline}

unfoldable pub are_pairs : ℤ → ℤ → ℤ → ℤ → ℤ → ℤ → ℤ → ℤ → Bool
are_pairs p p' q q' r r' s s' = int_eq p p' && int_eq q q' && int_eq r r' && int_eq s s'

-- the sides go along x and along y in turn
unfoldable pub has_turns : ℤ → ℤ → ℤ → ℤ → ℤ → ℤ → ℤ → ℤ → Bool
has_turns x0 y0 x1 y1 x2 y2 x3 y3 = are_pairs y0 y1 x1 x2 y2 y3 x3 x0 || are_pairs x0 x1 y1 y2 x2 x3 y3 y0

-- the outline between two opposite corners, which differ in x and in y
unfoldable pub between : ℤ → ℤ → ℤ → ℤ → Option Outline
between x0 y0 x2 y2 =
    if int_eq x0 x2 then None else
    if int_eq y0 y2 then None else
    Some (record { left = int_min x0 x2; low = int_min y0 y2; width = unsigned_abs (x0 -ℤ x2); height = unsigned_abs (y0 -ℤ y2) })

-- the outline of four corners in order, in either direction and from any corner on
abbrev pub outline_of : List ℤ → Option Outline
outline_of (x0 ∷ y0 ∷ x1 ∷ y1 ∷ x2 ∷ y2 ∷ x3 ∷ y3 ∷ []) =
    if has_turns x0 y0 x1 y1 x2 y2 x3 y3 then between x0 y0 x2 y2 else None
outline_of _ = None

-- the ends of a side of this length, in either order
pub data AreEnds (from : ℤ) (size : ℕ) (a b : ℤ) : Type 0 where
  upward : a ≡ from → b ≡ from +ℤ pos size → AreEnds from size a b
  downward : a ≡ from +ℤ pos size → b ≡ from → AreEnds from size a b

-- the corners of an outline in order, from any corner (x, y) on: first along x, or first along y
pub data IsRing (o : Outline) (corners : List ℤ) : Type 0 where
  along_x : (x y x' y' : ℤ) → AreEnds o.left o.width x x' → AreEnds o.low o.height y y'
      → corners ≡ x ∷ y ∷ x' ∷ y ∷ x' ∷ y' ∷ x ∷ y' ∷ [] → IsRing o corners
  along_y : (x y x' y' : ℤ) → AreEnds o.left o.width x x' → AreEnds o.low o.height y y'
      → corners ≡ x ∷ y ∷ x ∷ y' ∷ x' ∷ y' ∷ x' ∷ y ∷ [] → IsRing o corners

-- an outline with sides above 0, of which these are the corners in order
pub record HasCorners (o : Outline) (corners : List ℤ) : Type 0 where
  pub wide : 0 < o.width
  pub high : 0 < o.height
  pub ring : IsRing o corners

-- an answer is some outline just where that has these corners
abbrev pub IsOutlineOf : List ℤ → Option Outline → Type 0
IsOutlineOf corners answer = (o : Outline) → (answer ≡ Some o) ↔ HasCorners o corners
