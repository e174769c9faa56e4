-- the tracks after some columns
use Rattle.std.specs.Prelude.{◌==◌, if◌then◌else◌, ℕ, suc, List, [], ◌∷◌, map}
use Rattle.greedy_column.specs.declared.column.Track.{Track}

-- the ids of tracks, from bottom to top
abbrev pub ids : List Track → List ℕ
ids tracks = map (λ (t : Track). t.id) tracks

-- the net that holds a track, 0 where it is free or lacking
abbrev pub held_by : List Track → ℕ → ℕ
held_by [] id = 0
held_by (t ∷ tracks) id = if t.id == id then t.net else held_by tracks id

-- where an id stands in a list of ids, from 1 on
abbrev pub line_of : List ℕ → ℕ → ℕ
line_of [] id = 1
line_of (i ∷ order) id = if i == id then 1 else suc (line_of order id)

-- a track, given to a net where it has this id
abbrev pub given : ℕ → ℕ → Track → Track
given id net t = if t.id == id then record { id = t.id; net = net } else t

-- the tracks, of which that of this id is given to a net, or freed by 0
abbrev pub hold : ℕ → ℕ → List Track → List Track
hold id net tracks = map (given id net) tracks
