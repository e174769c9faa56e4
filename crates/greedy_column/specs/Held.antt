-- how many tracks are held
use Rattle.std.specs.Prelude.{◌<◌, ◌==◌, not, ℕ, List}
use Rattle.std.specs.List.{count_by}
use Rattle.greedy_column.specs.declared.column.Track.{Track}

-- how many tracks nets hold
abbrev pub held_count : List Track → ℕ
held_count tracks = count_by (λ (t : Track). not (t.net == 0)) tracks

-- a net holds a track
abbrev pub IsHeld : List Track → Type 0
IsHeld tracks = 0 < held_count tracks
