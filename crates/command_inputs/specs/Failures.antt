-- why files could not be read
use Rattle.std.specs.Prelude.{◌≡◌, ◌⊎◌, ℕ, List, Bool, Option, Some, Ok, is_ok, true}
use Rattle.shelf_io.specs.Count.{Rose}
use Rattle.command_words.specs.Command.{Source, from_file, from_seed}
use Rattle.tech_rules.specs.Rules.{RuleValues}
use Rattle.command_inputs.specs.Stated.{design_text, design_verdict, rules_verdict}

-- why a file could not be read: its read count rose
abbrev pub FileFails : List ℕ → (List ℕ → ℕ) → (List ℕ → ℕ) → Type 0
FileFails name old new = Rose (old name) (new name)

-- why a design from a source could not be read
abbrev pub SourceFails : Source → (List ℕ → ℕ) → (List ℕ → ℕ) → Type 0
SourceFails (from_file name) old new = FileFails name old new
SourceFails (from_seed seed count) old new = ⊥

-- a read of the rules file failed, or one of the design's file, and the rules file, where it is told, states rules
abbrev pub InputsFail : List ℕ → Source → (List ℕ → Option (List ℕ)) → (List ℕ → ℕ) → (List ℕ → ℕ) → Type 0
InputsFail rules source told old new =
    Rose (old rules) (new rules) ⊎ (SourceFails source old new × ((bytes : List ℕ) → told rules ≡ Some bytes → is_ok (rules_verdict bytes) ≡ true))

-- rules and a design from a source are not refused, by what files are told to hold: the rules are those that their file states, and the text of the
-- design is one under them, with ports where these are wished for
pub record ArePassed (rules : List ℕ) (source : Source) (ports : Bool) (told : List ℕ → Option (List ℕ)) (under : RuleValues) : Type 0 where
  pub stated : (bytes : List ℕ) → told rules ≡ Some bytes → rules_verdict bytes ≡ Ok under
  pub designed : (bytes : List ℕ) → design_text source told under ≡ Some bytes → is_ok (design_verdict under ports bytes) ≡ true
