-- how many tracks and columns a router may take
use Rattle.std.specs.Prelude.{ℕ, ◌*◌}

-- the most tracks that a router may take for a channel of so many nets
abbrev pub most_tracks : ℕ → ℕ
most_tracks nets = 2 * nets

-- the most columns that it may take beyond those of the channel's pins
abbrev pub most_extra : ℕ → ℕ
most_extra nets = nets
