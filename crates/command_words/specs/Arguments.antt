-- the arguments of commands, and what words give a command of these
use Rattle.std.specs.Prelude.{List, [], ◌∷◌, Bool, true, false, codes, Option, Some, None}
use Rattle.std.specs.Str.{bytes_eq}
use Rattle.clap.specs.Kinds.{Kinds}
use Rattle.clap.specs.declared.builder.action.ArgAction.TheVariants.{SetTrue}
use Rattle.clap.specs.Words.{App, Row, Rule, Text, fault_of, matches_of, new_rule}

-- an argument that has to be given, by its place
abbrev pub positional_rule : Text → Rule
positional_rule id = record (new_rule id) { required = true }

-- an option that is given by its name after two dashes, and has a value
abbrev pub option_rule : Text → Rule
option_rule id = record (new_rule id) { long = Some id }

-- a word that is given or not, after two dashes
abbrev pub flag_rule : Text → Rule
flag_rule id = record (new_rule id) { long = Some id; action = Some SetTrue }

-- the wish to be told how far the job has come
abbrev pub progress_rule : Rule
progress_rule = flag_rule (codes "progress")

-- the wish for no notes, also as `-q`
abbrev pub quiet_rule : Rule
quiet_rule = record (flag_rule (codes "quiet")) { short = Some 113 }

-- a flag is given: its value is the word that `clap` has for that
abbrev pub is_given : Option Text → Bool
is_given None = false
is_given (Some text) = bytes_eq text (codes "true")

abbrev pub unless_refused : {A : Type 0} → Kinds → Option A → Option A
unless_refused [] given = given
unless_refused (kind ∷ kinds) given = None

-- what words give a command, of which the first is its name, by what `clap` makes of them; none where it refuses them
unfoldable pub given_by : {A : Type 0} → App → (List Row → Option A) → List Text → Option A
given_by app given words = unless_refused (fault_of app words) (given (matches_of app words))
