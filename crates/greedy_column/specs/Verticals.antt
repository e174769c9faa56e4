-- the verticals of a column
use Rattle.std.specs.Prelude.{◌≤◌, ◌+◌, ◌==◌, ◌++◌, nat_le, Bool, if◌then◌else◌, ℕ, List, [], ◌∷◌, map, length}
use Rattle.channel_model.specs.Pins.{Pins}
use Rattle.greedy_column.specs.declared.column.Track.{Track}
use Rattle.greedy_column.specs.declared.column.Column.{Column}
use Rattle.greedy_column.specs.Tracks.{ids, held_by, line_of}
use Rattle.greedy_column.specs.Replay.{top_pin, bottom_pin}

-- where a vertical ends: at the lower edge, on a track, or at the upper edge
pub data Port : Type 0 where
  floor : Port
  on : ℕ → Port
  ceiling : Port

-- the line of a port, in some order of the tracks
abbrev pub line_at : List ℕ → Port → ℕ
line_at order floor = 0
line_at order (on id) = line_of order id
line_at order ceiling = length order + 1

-- a piece of wire in one column
pub record Vertical : Type 0 where
  pub net : ℕ
  pub low : Port
  pub high : Port

-- those of the pins
abbrev pub bottom_verticals : ℕ → ℕ → List Vertical
bottom_verticals net id = if net == 0 then [] else record { net = net; low = floor; high = on id } ∷ []

abbrev pub top_verticals : ℕ → ℕ → List Vertical
top_verticals net id = if net == 0 then [] else record { net = net; low = on id; high = ceiling } ∷ []

abbrev pub verticals_of_pins : Bool → ℕ → ℕ → ℕ → ℕ → List Vertical
verticals_of_pins straight top_net bottom_net top bottom =
    if straight then record { net = top_net; low = floor; high = ceiling } ∷ []
    else (bottom_verticals bottom_net bottom ++ top_verticals top_net top)

abbrev pub pin_verticals : Pins → ℕ → Column → List Vertical
pin_verticals pins column done =
    verticals_of_pins done.straight (top_pin pins column) (bottom_pin pins column) done.top done.bottom

-- between two tracks, of the net that holds the first
abbrev pub between : List Track → (ℕ × ℕ) → Vertical
between tracks p =
    if nat_le (line_of (ids tracks) p.0) (line_of (ids tracks) p.1)
    then record { net = held_by tracks p.0; low = on p.0; high = on p.1 }
    else record { net = held_by tracks p.0; low = on p.1; high = on p.0 }

-- those of the pins and the joins, and all of a column, over the tracks that its pins have entered
abbrev pub joined_verticals : Pins → ℕ → Column → List Track → List Vertical
joined_verticals pins column done tracks = pin_verticals pins column done ++ map (between tracks) done.joins

abbrev pub verticals : Pins → ℕ → Column → List Track → List Vertical
verticals pins column done tracks = joined_verticals pins column done tracks ++ map (between tracks) done.moves

-- two verticals share a point, in some order of the tracks
abbrev pub Shares : List ℕ → Vertical → Vertical → Type 0
Shares order v w = (line_at order v.low ≤ line_at order w.high) × (line_at order w.low ≤ line_at order v.high)

-- a vertical covers a line, in some order of the tracks
abbrev pub IsOver : List ℕ → Vertical → ℕ → Type 0
IsOver order v line = (line_at order v.low ≤ line) × (line ≤ line_at order v.high)
