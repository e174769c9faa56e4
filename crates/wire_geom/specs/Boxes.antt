-- the rectangles of wires, and of squares for pads and cuts, in half units
use Rattle.std.specs.Prelude.{ℕ, ◌+◌, ◌-◌, ◌*◌, ◌==◌, if◌then◌else◌}
use Rattle.tech_rules.specs.Rules.{RuleValues, pad}
use Rattle.wire_geom.specs.Grid.{centre, line_at}

-- a rectangle in half units, in which half of a width is a whole number
pub record Box : Type 0 where
  pub x0 : ℕ
  pub y0 : ℕ
  pub x1 : ℕ
  pub y1 : ℕ

-- a vertical wire ends half a pad beyond its track, and at an edge of the channel exactly there
abbrev pub lower_end : RuleValues → ℕ → ℕ → ℕ
lower_end r base low = if low == 0 then line_at r base 0 else line_at r base low - pad r

abbrev pub upper_end : RuleValues → ℕ → ℕ → ℕ → ℕ
upper_end r base tracks high = if high == tracks + 1 then line_at r base (tracks + 1) else line_at r base high + pad r

-- a vertical wire in a column
abbrev pub across_box : RuleValues → ℕ → ℕ → ℕ → ℕ → ℕ → Box
across_box r base tracks column low high = record {
  x0 = centre r column - r.vertical.width;
  y0 = lower_end r base low;
  x1 = centre r column + r.vertical.width;
  y1 = upper_end r base tracks high;
}

-- a vertical wire in a column, from one height in units to another
abbrev pub upright_box : RuleValues → ℕ → ℕ → ℕ → Box
upright_box r low high column = record { x0 = centre r column - r.vertical.width; y0 = 2 * low; x1 = centre r column + r.vertical.width; y1 = 2 * high }

-- a horizontal wire on a track, which ends half a pad beyond its columns
abbrev pub along_box : RuleValues → ℕ → ℕ → ℕ → ℕ → Box
along_box r base track from to = record {
  x0 = centre r from - pad r;
  y0 = line_at r base track - r.horizontal.width;
  x1 = centre r to + pad r;
  y1 = line_at r base track + r.horizontal.width;
}

-- a square with a side of `size` units, around a point of a column and a track
abbrev pub square_box : RuleValues → ℕ → ℕ → ℕ → ℕ → Box
square_box r base size column track = record {
  x0 = centre r column - size;
  y0 = line_at r base track - size;
  x1 = centre r column + size;
  y1 = line_at r base track + size;
}
