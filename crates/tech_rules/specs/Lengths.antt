-- lengths, and what rectangles have to do with each other
use Rattle.std.specs.Prelude.{◌≡◌, ◌⊎◌, ℕ, ◌*◌, ℤ, pos, List}
use Rattle.tech_rules.specs.Rules.{RuleValues}

-- a length in units, in half centimicrons
abbrev pub length_in : RuleValues → ℕ → ℤ
length_in r units = pos (2 * units * r.grid.centi)

-- the layers of wires
abbrev pub IsWire : RuleValues → List ℕ → Type 0
IsWire r layer = (layer ≡ r.horizontal.layer) ⊎ (layer ≡ r.vertical.layer)
