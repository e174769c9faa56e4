-- the command to import a netlist, and what its words give
use Rattle.std.specs.Prelude.{ℕ, List, Bool, codes, Option, Some, None}
use Rattle.command_words.specs.Arguments.{is_given, option_rule, positional_rule, quiet_rule}
use Rattle.command_words.specs.NumberWord.{decimals_in}
use Rattle.clap.specs.Words.{App, Row, Text, first_of, new_app, with_rule}

-- what a command to import says: the file of the netlist, the file of its cells' modules, the file to write, up to how many decimals the numbers of the cells have, and whether
-- there are to be no notes
pub record ImportNames : Type 0 where
  pub netlist : List ℕ
  pub cells : List ℕ
  pub out : List ℕ
  pub decimals : ℕ
  pub quiet : Bool

-- `import` with three names
abbrev pub importing_app : App
importing_app = with_rule (with_rule (with_rule (new_app (codes "import")) (positional_rule (codes "netlist"))) (positional_rule (codes "cells"))) (positional_rule (codes "out"))

-- the same with a number of decimals, and with the wish for no notes
abbrev pub import_app : App
import_app = with_rule (with_rule importing_app (option_rule (codes "decimals"))) quiet_rule

-- the decimals that are asked for: none where no value is given, and no answer where the value is no number of decimals
abbrev pub decimals_given : Option Text → Option ℕ
decimals_given None = Some 0
decimals_given (Some text) = decimals_in text

abbrev pub import_from : Option Text → Option Text → Option Text → Option ℕ → Bool → Option ImportNames
import_from (Some netlist) (Some cells) (Some out) (Some decimals) quiet =
    Some (record { netlist = netlist; cells = cells; out = out; decimals = decimals; quiet = quiet })
import_from (Some netlist) (Some cells) (Some out) None quiet = None
import_from (Some netlist) (Some cells) None decimals quiet = None
import_from (Some netlist) None out decimals quiet = None
import_from None cells out decimals quiet = None

abbrev pub import_in : List Row → Option ImportNames
import_in values = import_from (first_of (codes "netlist") values) (first_of (codes "cells") values) (first_of (codes "out") values)
    (decimals_given (first_of (codes "decimals") values)) (is_given (first_of (codes "quiet") values))
