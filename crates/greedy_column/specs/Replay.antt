-- the tracks that the records of columns make, from so many free tracks on
use Rattle.std.specs.Prelude.{◌==◌, ◌++◌, if◌then◌else◌, ℕ, zero, suc, List, [], ◌∷◌, map, slice_index}
use Rattle.std.specs.List.{list_any, insert}
use Rattle.channel_model.specs.Pins.{Pins}
use Rattle.greedy_column.specs.declared.column.Track.{Track}
use Rattle.greedy_column.specs.declared.column.Made.{Made}
use Rattle.greedy_column.specs.declared.column.Column.{Column}
use Rattle.greedy_column.specs.Tracks.{held_by, hold}

-- the pins of a column, 0 for none
abbrev pub top_pin : Pins → ℕ → ℕ
top_pin pins column = slice_index pins.top column

abbrev pub bottom_pin : Pins → ℕ → ℕ
bottom_pin pins column = slice_index pins.bottom column

-- with the tracks that a column adds
abbrev pub with_made : List Track → List Made → List Track
with_made tracks [] = tracks
with_made tracks (m ∷ made) = with_made (insert tracks m.below (record { id = m.id; net = 0 })) made

-- with the nets of the pins on the tracks that they enter: the net and the track of the top pin, and those of the bottom pin
abbrev pub with_nets : ℕ → ℕ → ℕ → ℕ → List Track → List Track
with_nets top top_id bottom bottom_id tracks = hold top_id top (hold bottom_id bottom tracks)

abbrev pub with_pins : Pins → ℕ → Column → List Track → List Track
with_pins pins column done tracks = with_nets (top_pin pins column) done.top (bottom_pin pins column) done.bottom tracks

-- a track, freed where it is among those that end
abbrev pub freed_among : List ℕ → Track → Track
freed_among ended t = if list_any (λ id. id == t.id) ended then record { id = t.id; net = 0 } else t

abbrev pub freed : List ℕ → List Track → List Track
freed ended tracks = map (freed_among ended) tracks

-- each move carries a net from one track to another
abbrev pub moved : List (ℕ × ℕ) → List Track → List Track
moved [] tracks = tracks
moved (m ∷ moves) tracks = moved moves (hold m.1 (held_by tracks m.0) (hold m.0 0 tracks))

-- the tracks once the pins of a column have entered, and after the whole column
abbrev pub entered : Pins → ℕ → Column → List Track → List Track
entered pins column done tracks = with_pins pins column done (with_made tracks done.made)

abbrev pub after : Pins → ℕ → Column → List Track → List Track
after pins column done tracks = moved done.moves (freed done.ended (entered pins column done tracks))

-- the tracks after some columns, the first of which is this one
abbrev pub replay_from : Pins → ℕ → List Track → List Column → List Track
replay_from pins column tracks [] = tracks
replay_from pins column tracks (done ∷ columns) = replay_from pins (suc column) (after pins column done tracks) columns

-- so many free tracks, with ids from 1 on from the bottom
abbrev pub free_tracks : ℕ → List Track
free_tracks zero = []
free_tracks (suc n) = free_tracks n ++ record { id = suc n; net = 0 } ∷ []

-- the tracks after these columns of a sweep that begins with so many free tracks
abbrev pub replay : ℕ → Pins → List Column → List Track
replay begun pins columns = replay_from pins 0 (free_tracks begun) columns
