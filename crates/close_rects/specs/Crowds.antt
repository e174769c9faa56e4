-- members of classes that are too close, and how they are looked for
use Rattle.std.specs.Prelude.{◌==◌, ◌+◌, ◌≤ℤ◌, ℕ, pos, Bool, false, List, [], ◌∷◌, ◌++◌, if◌then◌else◌}
use Rattle.geom_core.specs.Extent.{Extent}
use Rattle.geom_core.specs.Reach.{IsExtentInWideReach}
use Rattle.close_rects.specs.declared.member.Member.{Member}
use Rattle.close_rects.specs.ClosePairs.{is_close}

-- the rectangle of a member
abbrev pub area : Member → Extent
area member = member.rect

-- a member whose sides lie within 10^16 of the origin, and which keeps a distance of at most as much
pub record KeepsInReach (member : Member) : Type 0 where
  pub wide : IsExtentInWideReach member.rect
  pub low : pos 0 ≤ℤ member.reach
  pub high : member.reach ≤ℤ pos 10000000000000000

-- two members of different classes, with both gaps below the reach of the first
abbrev pub is_crowded : Member → Member → Bool
is_crowded a b = if a.class == b.class then false else is_close a.reach a.rect b.rect

-- the numbers of a member and of each of those after it that crowd it
abbrev pub crowd_of : Member → List Member → List (ℕ × ℕ)
crowd_of a [] = []
crowd_of a (b ∷ bs) = if is_crowded a b then (a.number, b.number) ∷ crowd_of a bs else crowd_of a bs

-- of each member with those after it
abbrev pub crowds_of : List Member → List (ℕ × ℕ)
crowds_of [] = []
crowds_of (a ∷ members) = crowd_of a members ++ crowds_of members

-- the places of those of a list that crowd a member, where the first has place n
abbrev pub places_from : ℕ → Member → List Member → List ℕ
places_from n a [] = []
places_from n a (b ∷ bs) = if is_crowded a b then n ∷ places_from (n + 1) a bs else places_from (n + 1) a bs
