-- the commands, and what their words give
use Rattle.std.specs.Prelude.{◌<◌, ℕ, suc, List, [], ◌∷◌, Bool, false, if◌then◌else◌, codes, Option, Some, None, option_and_then, option_map, option_to_list, ◌++◌}
use Rattle.std.specs.Str.{bytes_eq}
use Rattle.command_words.specs.Arguments.{flag_rule, given_by, is_given, option_rule, positional_rule, progress_rule, quiet_rule}
use Rattle.command_words.specs.Drawing.{draw_app, draw_in}
use Rattle.command_words.specs.Importing.{import_app, import_in}
use Rattle.command_words.specs.NumberWord.{count_in, number_of, rows_in, tries_in}
use Rattle.command_words.specs.declared.command.Wanted.{Wanted}
use Rattle.command_words.specs.declared.topic.Topic.{Topic}
use Rattle.command_words.specs.declared.topic.Topic.TheVariants.{CheckCommand, DrawCommand, ImportCommand, MakeCommand, Overview, RouteCommand, Version}
use Rattle.clap.specs.Words.{App, Row, Text, first_of, new_app, with_rule}
pub use Rattle.command_words.specs.Drawing.{DrawNames}
pub use Rattle.command_words.specs.Importing.{ImportNames}

-- where a design comes from: from the file of this name, or it is made from this seed, with so many instances
pub data Source : Type 0 where
  from_file : List ℕ → Source
  from_seed : ℕ → ℕ → Source

-- what a command to route says: where the design comes from, the rules file, the file to write, how the design is to be laid out, the place of the style that
-- chooses, whether there are to be no notes, and whether it is to be told how far the job has come
pub record Names : Type 0 where
  pub design : Source
  pub rules : List ℕ
  pub out : List ℕ
  pub wanted : Wanted
  pub style : ℕ
  pub quiet : Bool
  pub progress : Bool

-- what a command to check says: the design's file, the rules file, the file of the layout, the file to write markers of the findings to, if there is to be one, whether the
-- terminals of the PARENT are to be ports, whether labels tell which calls are cells, and whether there are to be no notes
pub record CheckNames : Type 0 where
  pub design : List ℕ
  pub rules : List ℕ
  pub cif : List ℕ
  pub markers : Option (List ℕ)
  pub ports : Bool
  pub labels : Bool
  pub quiet : Bool

-- a command with three names, the first two of them those of the design's file and of the rules file
abbrev pub named_app : Text → Text → App
named_app name last = with_rule (with_rule (with_rule (new_app name)
    (positional_rule (codes "design"))) (positional_rule (codes "rules"))) (positional_rule last)

-- `route` with three names, with a seed, a number of rows, a style and a number of tries, and with the wishes for left edges, for ports, for labels, to be told of progress and for no notes
abbrev pub route_app : App
route_app = with_rule (with_rule (with_rule (with_rule (with_rule (with_rule (with_rule (with_rule (with_rule (named_app (codes "route") (codes "out"))
    (option_rule (codes "seed"))) (option_rule (codes "rows"))) (option_rule (codes "style"))) (option_rule (codes "tries"))) (flag_rule (codes "edge"))) (flag_rule (codes "ports"))) (flag_rule (codes "labels"))) progress_rule) quiet_rule

-- `check` with three names, with a file for markers, and with the wishes for ports, for labels and for no notes
abbrev pub check_app : App
check_app = with_rule (with_rule (with_rule (with_rule (named_app (codes "check") (codes "cif")) (option_rule (codes "markers"))) (flag_rule (codes "ports"))) (flag_rule (codes "labels"))) quiet_rule

-- `make` with a seed, a number of instances and two names
abbrev pub seeded_app : App
seeded_app = with_rule (with_rule (with_rule (with_rule (new_app (codes "make"))
    (positional_rule (codes "seed"))) (positional_rule (codes "count"))) (positional_rule (codes "rules"))) (positional_rule (codes "out"))

-- the same with a number of tries, and with the wishes to be told of progress and for no notes
abbrev pub make_app : App
make_app = with_rule (with_rule (with_rule seeded_app (option_rule (codes "tries"))) progress_rule) quiet_rule

-- the seed that is asked for: 1 where no value is given, and no answer where the value is no number below 2 ^ 64
abbrev pub seed_given : Option Text → Option ℕ
seed_given None = Some 1
seed_given (Some text) = number_of text

-- the rows that are asked for: none where no value is given, and no answer where the value is no number of rows
abbrev pub rows_given : Option Text → Option (Option ℕ)
rows_given None = Some None
rows_given (Some text) = option_map (λ n. Some n) (rows_in text)

-- the tries that are asked for: 1 where no value is given, and no answer where the value is no number of tries
abbrev pub tries_given : Option Text → Option ℕ
tries_given None = Some 1
tries_given (Some text) = tries_in text

-- how a design is to be laid out, by the seed, the rows, the tries, and whether left edges, ports and labels are wished for
abbrev pub wanted_from : Option ℕ → Option (Option ℕ) → Option ℕ → Bool → Bool → Bool → Option Wanted
wanted_from (Some seed) (Some rows) (Some tries) edge ports labels =
    Some (record { seed = seed; rows = rows; tries = tries; edge = edge; ports = ports; labels = labels })
wanted_from (Some seed) (Some rows) None edge ports labels = None
wanted_from (Some seed) None tries edge ports labels = None
wanted_from None rows tries edge ports labels = None

-- the place of the first style of a name, among the names of all
abbrev pub place_of : List Text → Text → Option ℕ
place_of [] text = None
place_of (name ∷ names) text = if bytes_eq name text then Some 0 else option_map suc (place_of names text)

-- the style that is asked for: the first where no value is given, and no answer where none has the name
abbrev pub style_given : List Text → Option Text → Option ℕ
style_given styles None = Some 0
style_given styles (Some text) = place_of styles text

abbrev pub names_from : Option Text → Option Text → Option Text → Option Wanted → Option ℕ → Bool → Bool → Option Names
names_from (Some design) (Some rules) (Some out) (Some wanted) (Some style) quiet progress =
    Some (record { design = from_file design; rules = rules; out = out; wanted = wanted; style = style; quiet = quiet; progress = progress })
names_from (Some design) (Some rules) (Some out) (Some wanted) None quiet progress = None
names_from (Some design) (Some rules) (Some out) None style quiet progress = None
names_from (Some design) (Some rules) None wanted style quiet progress = None
names_from (Some design) None out wanted style quiet progress = None
names_from None rules out wanted style quiet progress = None

-- the seed, the rows, the tries and the flags among the values that words gave, and all that they say
abbrev pub wanted_in : List Row → Option Wanted
wanted_in values = wanted_from (seed_given (first_of (codes "seed") values)) (rows_given (first_of (codes "rows") values)) (tries_given (first_of (codes "tries") values))
    (is_given (first_of (codes "edge") values)) (is_given (first_of (codes "ports") values)) (is_given (first_of (codes "labels") values))

abbrev pub names_in : List Text → List Row → Option Names
names_in styles values = names_from (first_of (codes "design") values) (first_of (codes "rules") values) (first_of (codes "out") values) (wanted_in values)
    (style_given styles (first_of (codes "style") values)) (is_given (first_of (codes "quiet") values)) (is_given (first_of (codes "progress") values))

abbrev pub check_from : Option Text → Option Text → Option Text → Option Text → Bool → Bool → Bool → Option CheckNames
check_from (Some design) (Some rules) (Some cif) markers ports labels quiet =
    Some (record { design = design; rules = rules; cif = cif; markers = markers; ports = ports; labels = labels; quiet = quiet })
check_from (Some design) (Some rules) None markers ports labels quiet = None
check_from (Some design) None cif markers ports labels quiet = None
check_from None rules cif markers ports labels quiet = None

abbrev pub check_in : List Row → Option CheckNames
check_in values = check_from (first_of (codes "design") values) (first_of (codes "rules") values) (first_of (codes "cif") values)
    (first_of (codes "markers") values) (is_given (first_of (codes "ports") values)) (is_given (first_of (codes "labels") values)) (is_given (first_of (codes "quiet") values))

-- a design that is made, and laid out by the same seed, in rows as usual, as the best of these tries, by the first style, without left edges, ports and labels
abbrev pub make_names : ℕ → ℕ → ℕ → Text → Text → Bool → Bool → Names
make_names seed count tries rules out quiet progress = record {
  design = from_seed seed count;
  rules = rules;
  out = out;
  wanted = record { seed = seed; rows = None; tries = tries; edge = false; ports = false; labels = false };
  style = 0;
  quiet = quiet;
  progress = progress;
}

abbrev pub make_from : Option ℕ → Option ℕ → Option ℕ → Option Text → Option Text → Bool → Bool → Option Names
make_from (Some seed) (Some count) (Some tries) (Some rules) (Some out) quiet progress = Some (make_names seed count tries rules out quiet progress)
make_from (Some seed) (Some count) (Some tries) (Some rules) None quiet progress = None
make_from (Some seed) (Some count) (Some tries) None out quiet progress = None
make_from (Some seed) (Some count) None rules out quiet progress = None
make_from (Some seed) None tries rules out quiet progress = None
make_from None count tries rules out quiet progress = None

abbrev pub make_in : List Row → Option Names
make_in values = make_from (option_and_then number_of (first_of (codes "seed") values)) (option_and_then count_in (first_of (codes "count") values))
    (tries_given (first_of (codes "tries") values)) (first_of (codes "rules") values) (first_of (codes "out") values) (is_given (first_of (codes "quiet") values)) (is_given (first_of (codes "progress") values))

-- a command, by what it reads and writes; one asks for a text of help
pub data Command : Type 0 where
  route : Names → Command
  check : CheckNames → Command
  draw : DrawNames → Command
  import : ImportNames → Command
  help : Topic → Command

-- the files that a source is read from
abbrev pub files_of : Source → List (List ℕ)
files_of (from_file name) = name ∷ []
files_of (from_seed seed count) = []

-- the files that a command reads, in their order, and the one that it writes, if it writes one
abbrev pub reads_of : Command → List (List ℕ)
reads_of (route names) = names.rules ∷ files_of names.design
reads_of (check names) = names.rules ∷ names.design ∷ names.cif ∷ []
reads_of (draw names) = option_to_list names.rules ++ names.cif ∷ []
reads_of (import names) = names.netlist ∷ names.cells ∷ []
reads_of (help topic) = []

abbrev pub writes_of : Command → Option (List ℕ)
writes_of (route names) = Some names.out
writes_of (check names) = names.markers
writes_of (draw names) = Some names.out
writes_of (import names) = Some names.out
writes_of (help topic) = None

-- what a word asks for that stands alone, or behind `help`
abbrev pub lone_topic : List ℕ → Option Topic
lone_topic word =
    if bytes_eq word (codes "help") then Some Overview else if bytes_eq word (codes "--help") then Some Overview else if bytes_eq word (codes "-h") then Some Overview else
    if bytes_eq word (codes "version") then Some Version else if bytes_eq word (codes "--version") then Some Version else None

abbrev pub command_topic : List ℕ → Option Topic
command_topic word =
    if bytes_eq word (codes "route") then Some RouteCommand else if bytes_eq word (codes "check") then Some CheckCommand else
    if bytes_eq word (codes "make") then Some MakeCommand else if bytes_eq word (codes "draw") then Some DrawCommand else
    if bytes_eq word (codes "import") then Some ImportCommand else None

-- the text of help that words ask for: one word alone, or `help` and the name of a command
unfoldable pub topic_of : List (List ℕ) → Option Topic
topic_of [] = None
topic_of (word ∷ []) = lone_topic word
topic_of (word ∷ name ∷ []) = if bytes_eq word (codes "help") then command_topic name else None
topic_of (word ∷ name ∷ other ∷ more) = None

-- the command that words give where the styles have these names: the first is a command's name, and the others are its arguments
unfoldable pub command_of : List Text → List (List ℕ) → Option Command
command_of styles [] = None
command_of styles (word ∷ others) =
    if bytes_eq word (codes "route") then option_map route (given_by route_app (names_in styles) (word ∷ others)) else
    if bytes_eq word (codes "check") then option_map check (given_by check_app check_in (word ∷ others)) else
    if bytes_eq word (codes "make") then option_map route (given_by make_app make_in (word ∷ others)) else
    if bytes_eq word (codes "draw") then option_map draw (given_by draw_app draw_in (word ∷ others)) else
    if bytes_eq word (codes "import") then option_map import (given_by import_app import_in (word ∷ others)) else option_map help (topic_of (word ∷ others))

-- a command wishes for left edges
abbrev pub is_by_edge : Command → Bool
is_by_edge (route names) = names.wanted.edge
is_by_edge (check names) = false
is_by_edge (draw names) = false
is_by_edge (import names) = false
is_by_edge (help topic) = false

-- the place of a command's style, if it has one
abbrev pub style_of : Command → Option ℕ
style_of (route names) = Some names.style
style_of (check names) = None
style_of (draw names) = None
style_of (import names) = None
style_of (help topic) = None

-- a command is of one of so many styles, if it has one
abbrev pub IsOfStyle : ℕ → Command → Type 0
IsOfStyle count (route names) = names.style < count
IsOfStyle count (check names) = Unit {0}
IsOfStyle count (draw names) = Unit {0}
IsOfStyle count (import names) = Unit {0}
IsOfStyle count (help topic) = Unit {0}

-- a command wishes for no notes
abbrev pub is_quiet : Command → Bool
is_quiet (route names) = names.quiet
is_quiet (check names) = names.quiet
is_quiet (draw names) = names.quiet
is_quiet (import names) = names.quiet
is_quiet (help topic) = false
