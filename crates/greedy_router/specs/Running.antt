-- whether a sweep goes on
use Rattle.std.specs.Prelude.{◌==◌, ◌&&◌, ◌||◌, not, nat_lt, Bool, ℕ, List, length}
use Rattle.greedy_column.specs.declared.column.Track.{Track}
use Rattle.greedy_column.specs.Held.{held_count}

-- a net holds one of these tracks
abbrev pub is_held : List Track → Bool
is_held tracks = nat_lt 0 (held_count tracks)

-- these are too many tracks, or a net holds one of them after the last column that may be taken
abbrev pub is_past : List Track → ℕ → ℕ → ℕ → Bool
is_past tracks taken last most = nat_lt most (length tracks) || (taken == last && is_held tracks)

-- there is a column to take: one of the channel's, or one more for a net that holds a track
abbrev pub is_wanted : List Track → ℕ → ℕ → Bool
is_wanted tracks taken width = nat_lt taken width || is_held tracks

abbrev pub is_going : List Track → ℕ → ℕ → ℕ → ℕ → Bool
is_going tracks taken width last most = not (is_past tracks taken last most) && is_wanted tracks taken width
