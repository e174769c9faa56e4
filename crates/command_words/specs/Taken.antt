-- the words that the argument parser of a command takes, with their values, and those that it refuses
use Rattle.std.specs.Prelude.{◌≡◌, ◌≢◌, List, [], Result, Ok, Err}
use Rattle.clap.specs.Words.{App, Row, Text, fault_of, matches_of}
use Rattle.command_words.specs.declared.command.WordsFault.{WordsFault}
use Rattle.command_words.specs.declared.command.WordsFault.TheVariants.{Usage, Memory}

-- words are taken by a command with these values, or refused, as `clap` says, both ways, want of memory aside
abbrev pub IsTaken : {M : Type 0} → (M → List Row) → App → List Text → Result M WordsFault → Type 0
IsTaken values app words (Ok matches) = (fault_of app words ≡ []) × (values matches ≡ matches_of app words)
IsTaken values app words (Err Usage) = fault_of app words ≢ []
IsTaken values app words (Err Memory) = Unit {0}
