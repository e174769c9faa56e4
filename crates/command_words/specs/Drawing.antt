-- the command to draw a picture of a layout, and what its words give
use Rattle.std.specs.Prelude.{ℕ, List, Bool, codes, Option, Some, None}
use Rattle.geom_core.specs.Extent.{Extent}
use Rattle.command_words.specs.Arguments.{is_given, option_rule, positional_rule, quiet_rule}
use Rattle.command_words.specs.Boxes.{part_given}
use Rattle.clap.specs.Words.{App, Row, Text, first_of, new_app, with_rule}

-- what a command to draw says: the file of the layout, the file to write the picture to, the part that is to be shown, if it is not all, the rules file whose layers the
-- legend names, if there is one, and whether there are to be no notes
pub record DrawNames : Type 0 where
  pub cif : List ℕ
  pub out : List ℕ
  pub part : Option Extent
  pub rules : Option (List ℕ)
  pub quiet : Bool

-- `draw` with two names
abbrev pub drawing_app : App
drawing_app = with_rule (with_rule (new_app (codes "draw")) (positional_rule (codes "cif"))) (positional_rule (codes "out"))

-- the same with a box and a rules file, and with the wish for no notes
abbrev pub draw_app : App
draw_app = with_rule (with_rule (with_rule drawing_app (option_rule (codes "box"))) (option_rule (codes "rules"))) quiet_rule

abbrev pub draw_from : Option Text → Option Text → Option (Option Extent) → Option Text → Bool → Option DrawNames
draw_from (Some cif) (Some out) (Some part) rules quiet = Some (record { cif = cif; out = out; part = part; rules = rules; quiet = quiet })
draw_from (Some cif) (Some out) None rules quiet = None
draw_from (Some cif) None part rules quiet = None
draw_from None out part rules quiet = None

abbrev pub draw_in : List Row → Option DrawNames
draw_in values = draw_from (first_of (codes "cif") values) (first_of (codes "out") values) (part_given (first_of (codes "box") values))
    (first_of (codes "rules") values) (is_given (first_of (codes "quiet") values))
