-- columns and lines in half units, and the rectangles of wires and cuts on them
use Rattle.std.specs.Prelude.{ℕ, ℤ, pos, ◌+◌, ◌*◌}
use Rattle.tech_rules.specs.Rules.{RuleValues}

-- the middle of a column in half units
abbrev pub centre : RuleValues → ℕ → ℕ
centre r column = 2 * (column * r.grid.column) + r.grid.column

-- the height of a line in half units, in a channel whose lower edge, line 0, lies at `base` units
abbrev pub line_at : RuleValues → ℕ → ℕ → ℕ
line_at r base line = 2 * (base + line * r.grid.track)

-- a number of half units, in half centimicrons
abbrev pub scaled : RuleValues → ℕ → ℤ
scaled r half_units = pos (half_units * r.grid.centi)
