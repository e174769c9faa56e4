use Rattle.std.proofs.Common.{◌≡◌, ◌≤◌, ◌<◌, ℕ, ◌+◌, ◌*◌, ◌^◌, List, ◌∷◌, map, sum, arith}
use Rattle.std.proofs.lemmas.List.Sums.{sum_by-cons}
use Rattle.std.proofs.Math.Nat.{mul-le-mul}
use Rattle.channel_model.specs.Density.{density_of}
use Rattle.channel_model.specs.Pins.{Pins}
use Rattle.tech_rules.specs.Rules.{RuleValues}
use Rattle.placement_tries.specs.Estimate.{dense_height}

-- the height of channels, one and the others
pub dense-more : (r : RuleValues) (pins : Pins) (channels : List Pins) → dense_height r (pins ∷ channels) ≡ (density_of pins + 1) * r.grid.track + dense_height r channels
dense-more r pins channels = sum_by-cons (λ (k : ℕ). k) ((density_of pins + 1) * r.grid.track) (map (λ (p : Pins). (density_of p + 1) * r.grid.track) channels)

-- the sum of heights, one and the others
pub sum-more : (n : ℕ) (ns : List ℕ) → sum (n ∷ ns) ≡ n + sum ns
sum-more n ns = sum_by-cons (λ (k : ℕ). k) n ns

pub ruleset height_laws = (mul-le-mul, dense-more, sum-more)

-- a width in columns, in units, and times a height is a number of at most 128 bits
pub wide-fits : (width column : ℕ) → width ≤ 4000000 → column ≤ 1000 → width * column ≤ 4000000000
wide-fits width column few short = omega (arith, mul-le-mul few short)

pub area-fits : (width column height : ℕ) → width ≤ 4000000 → column ≤ 1000 → height ≤ 2 ^ 54 → width * column * height < 2 ^ 128
area-fits width column height few short low = omega (arith, mul-le-mul (wide-fits width column few short) low)

pub ruleset area_laws = (wide-fits, area-fits)
