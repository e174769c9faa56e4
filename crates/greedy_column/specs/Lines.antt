-- a record is what the four steps make, each choice being an answer of the chooser
use Rattle.std.specs.Prelude.{◌==◌, ◌<◌, ◌||◌, ◌+◌, ◌-◌, ◌^◌, ◌++◌, not, if◌then◌else◌, nat_lt, ℕ, suc, List, [], ◌∷◌, Bool, Contains, filter, map, slice_index, length}
use Rattle.std.specs.List.{IsDistinct, list_any}
use Rattle.std.specs.List.Sorted.{IsStrictlyIncreasing}
use Rattle.greedy_column.specs.declared.column.Track.{Track}
use Rattle.greedy_column.specs.declared.lines.Sought.{Sought}
use Rattle.greedy_column.specs.declared.lines.Sought.TheVariants.{Open, Own}
use Rattle.greedy_column.specs.Tracks.{ids}

-- the lines of the tracks that pass a test, the first of which stands on this line
abbrev pub lines_from : (Track → Bool) → ℕ → List Track → List ℕ
lines_from passes line [] = []
lines_from passes line (t ∷ tracks) =
    (if passes t then line ∷ [] else []) ++ lines_from passes (suc line) tracks

-- the id on a line, 0 where there is no track
abbrev pub id_on : List Track → ℕ → ℕ
id_on tracks line = slice_index (ids tracks) (line - 1)

-- a track is free or a net's own; a net holds it
abbrev pub is_open : ℕ → Track → Bool
is_open net t = t.net == 0 || t.net == net

abbrev pub is_held : Track → Bool
is_held t = not (t.net == 0)

-- the net on a line, 0 where there is no track
abbrev pub net_on : List Track → ℕ → ℕ
net_on tracks line = slice_index (map (λ (t : Track). t.net) tracks) (line - 1)

-- the tracks that are sought
abbrev pub is_sought : Sought → Track → Bool
is_sought (Open net) = is_open net
is_sought (Own net) = λ t. t.net == net

-- tracks so few that each line and the upper edge have a number, whose ids are above 0 and all different
pub record AreTracks (tracks : List Track) : Type 0 where
  pub few : length tracks + 2 < 2 ^ 32
  pub positive : (id : ℕ) → Contains (ids tracks) id → 0 < id
  pub distinct : IsDistinct (λ i j. i == j) (ids tracks)

-- lines on which tracks stand, where these are fewer than 2^32 - 2, and not more lines than tracks
pub record AreLines (lines : List ℕ) : Type 0 where
  pub each : (line : ℕ) → Contains lines line → (0 < line) × (line + 1 < 2 ^ 32)
  pub few : length lines + 1 < 2 ^ 32

-- such lines in ascending order
pub record AreAscending (lines : List ℕ) : Type 0 where
  pub on_tracks : AreLines lines
  pub ascending : IsStrictlyIncreasing lines

-- the lines that are free or a net's own, those that are free, and those that nets hold
abbrev pub open_lines : ℕ → List Track → List ℕ
open_lines net tracks = lines_from (is_open net) 1 tracks

abbrev pub free_lines : List Track → List ℕ
free_lines tracks = open_lines 0 tracks

abbrev pub held_lines : List Track → List ℕ
held_lines tracks = lines_from is_held 1 tracks

-- the lines of the tracks that a net holds
abbrev pub own_lines : ℕ → List Track → List ℕ
own_lines net tracks = lines_from (λ (t : Track). t.net == net) 1 tracks

-- a net holds a track
abbrev pub holds_track : List Track → ℕ → Bool
holds_track tracks net = list_any (λ (t : Track). t.net == net) tracks

-- of some lines those above the lowest of others, and those below a line
abbrev pub above_lowest : List ℕ → List ℕ → List ℕ
above_lowest [] lines = []
above_lowest (lowest ∷ others) lines = filter (λ line. nat_lt lowest line) lines

abbrev pub below_line : ℕ → List ℕ → List ℕ
below_line upper lines = filter (λ line. nat_lt line upper) lines
