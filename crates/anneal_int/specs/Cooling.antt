-- the temperatures of the stages
use Rattle.std.specs.Prelude.{ℕ, zero, suc, ◌*◌, ◌/◌, max}

-- the temperature of the stage behind one of this temperature
abbrev pub cooler : ℕ → ℕ
cooler t = max 1 (t * 9 / 10)

-- the temperature of a stage, from 0 on, where the first has this one
unfoldable pub temperature_of : ℕ → ℕ → ℕ
temperature_of first zero = first
temperature_of first (suc stage) = cooler (temperature_of first stage)
