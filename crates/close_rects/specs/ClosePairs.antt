-- pairs of close rectangles, and those that a scan has still to give
use Rattle.std.specs.Prelude.{◌≡◌, ◌≢◌, ◌↔◌, ◌<◌, ℕ, ℤ, int_lt, Bool, true, ◌&&◌, List, Contains, AllPairs, Some}
use Rattle.std.specs.List.{slice_get}
use Rattle.geom_core.specs.Extent.{Extent}
use Rattle.geom_core.specs.Rectangles.{gap}

-- both gaps between two rectangles are below the reach
abbrev pub is_close : ℤ → Extent → Extent → Bool
is_close reach a b = int_lt (gap a b).0 reach && int_lt (gap a b).1 reach

-- two numbers of close rectangles of a list, the lesser first
pub record IsClosePair (reach : ℤ) (rects : List Extent) (pair : ℕ × ℕ) : Type 0 where
  pub first : Extent
  pub second : Extent
  pub first_is : slice_get rects pair.0 ≡ Some first
  pub second_is : slice_get rects pair.1 ≡ Some second
  pub order : pair.0 < pair.1
  pub close : is_close reach first second ≡ true

-- the close pairs of a list of rectangles, each once, and no other pair
pub record AreClosePairs (reach : ℤ) (rects : List Extent) (pairs : List (ℕ × ℕ)) : Type 0 where
  pub each : (pair : ℕ × ℕ) → Contains pairs pair ↔ IsClosePair reach rects pair
  pub once : AllPairs (λ p q. p ≢ q) pairs
