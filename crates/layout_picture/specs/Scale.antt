-- the scale bar
use Rattle.std.specs.Prelude.{ℕ, zero, suc, ◌+◌, ◌*◌, ◌/◌, ◌^◌, ◌==◌, ◌≡◌, ◌<◌, ◌⊎◌, ◌-ℤ◌, unsigned_abs, max, List, [], ◌∷◌, codes, nat_le, if◌then◌else◌}
use Rattle.std.specs.List.{concat}
use Rattle.geom_core.specs.Extent.{Extent}
use Rattle.marker_text.specs.Microns.{size_text}

-- the longer side of a rectangle
abbrev pub greater_side : Extent → ℕ
greater_side e = max (unsigned_abs (e.x1 -ℤ e.x0)) (unsigned_abs (e.y1 -ℤ e.y0))

-- the greatest of 1, 2 and 5 times a power of ten below this one that is at most the room, or 0 where none is
unfoldable pub bar_below : ℕ → ℕ → ℕ
bar_below zero room = 0
bar_below (suc k) room =
    if nat_le (5 * 10 ^ k) room then 5 * 10 ^ k
    else (if nat_le (2 * 10 ^ k) room then 2 * 10 ^ k
    else (if nat_le (10 ^ k) room then 10 ^ k else bar_below k room))

-- 1, 2 or 5 times the power of ten of this exponent
abbrev pub IsRoundAt : ℕ → ℕ → Type 0
IsRoundAt k n = (n ≡ 10 ^ k) ⊎ (n ≡ 2 * 10 ^ k) ⊎ (n ≡ 5 * 10 ^ k)

-- a number of centimicrons that a bar may have: at most 5 times the seventeenth power of ten
abbrev pub IsRound : ℕ → Type 0
IsRound n = (k : ℕ) × ((k < 18) × IsRoundAt k n)

-- the length of the bar, in half centimicrons: as many centimicrons, of which each has two, as a quarter of the frame's width has room for
unfoldable pub scale_bar : Extent → ℕ
scale_bar f = 2 * bar_below 18 (unsigned_abs (f.x1 -ℤ f.x0) / 8)

-- a bar of a length, in half centimicrons, at the scale of a square with this side, and the length in microns
unfoldable pub bar_text : ℕ → ℕ → List ℕ
bar_text side length = concat (codes " <svg class=\"scale\" y=\"1010\" width=\"1000\" height=\"1000\" viewBox=\"0 0 " ∷ size_text side ∷ codes " " ∷ size_text side
    ∷ codes "\">\n  <rect width=\"" ∷ size_text length ∷ codes "\" height=\"" ∷ size_text (side / 100 + 1)
    ∷ codes "\"/>\n </svg>\n <text y=\"1045\" font-size=\"20\">" ∷ size_text length ∷ codes " &#181;m</text>\n" ∷ [])

-- the bar of a frame, if that is wide enough for one
unfoldable pub scale_text : Extent → List ℕ
scale_text f = if scale_bar f == 0 then [] else bar_text (greater_side f) (scale_bar f)
