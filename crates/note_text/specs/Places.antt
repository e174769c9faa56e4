-- lines and places of a text
use Rattle.std.specs.Prelude.{ℕ, List, [], ◌∷◌, ◌+◌, ◌==◌, Bool, cond, drop, take}
use Rattle.note_text.specs.declared.places.Place.{Place}

-- the place behind a byte that stands at a place: a line feed ends its line
abbrev pub place_behind : Place → ℕ → Place
place_behind place byte =
    cond (byte == 10) (record { line = place.line + 1; column = 1 }) (record { line = place.line; column = place.column + 1 })

-- the place behind a text that begins at a place
abbrev pub place_from : Place → List ℕ → Place
place_from place [] = place
place_from place (byte ∷ more) = place_from (place_behind place byte) more

-- where the byte stands behind the first so many of a text
abbrev pub place_in : List ℕ → ℕ → Place
place_in text at = place_from (record { line = 1; column = 1 }) (take at text)

-- how many bytes of a text stand before the line that goes on at its end, where so many stand before the text and its line began there
abbrev pub start_from : ℕ → ℕ → List ℕ → ℕ
start_from here start [] = start
start_from here start (byte ∷ more) = start_from (here + 1) (cond (byte == 10) (here + 1) start) more

abbrev pub start_in : List ℕ → ℕ
start_in text = start_from 0 0 text

-- the bytes before the first line feed
abbrev pub until_feed : List ℕ → List ℕ
until_feed [] = []
until_feed (byte ∷ more) = cond (byte == 10) [] (byte ∷ until_feed more)

-- the line in which the byte stands behind the first so many of a text
abbrev pub line_in : List ℕ → ℕ → List ℕ
line_in text at = until_feed (drop (start_in (take at text)) text)
