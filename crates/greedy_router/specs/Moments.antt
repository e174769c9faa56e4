-- the tracks after each column of a sweep, and how many of them are held
use Rattle.std.specs.Prelude.{ℕ, List, take}
use Rattle.channel_model.specs.Pins.{Pins}
use Rattle.greedy_column.specs.declared.column.Track.{Track}
use Rattle.greedy_column.specs.declared.column.Column.{Column}
use Rattle.greedy_column.specs.Replay.{replay}

-- the tracks after the first n of these columns of a sweep that begins with so many free tracks
abbrev pub tracks_after : ℕ → Pins → List Column → ℕ → List Track
tracks_after begun pins columns n = replay begun pins (take n columns)
