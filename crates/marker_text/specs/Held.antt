-- what a file holds that could not be written whole
use Rattle.std.specs.Prelude.{◌≡◌, ◌⊎◌, ℕ, List, take, Option, Some}

-- a file that is told holds what it was told to hold before, or a front of a text
abbrev pub HoldsFront : List ℕ → Option (List ℕ) → Option (List ℕ) → Type 0
HoldsFront text before told = (held : List ℕ) → told ≡ Some held → (before ≡ Some held) ⊎ ((k : ℕ) × (held ≡ take k text))
