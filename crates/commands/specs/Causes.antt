-- why reading or writing failed in a command, by the counts of failures of its files and the sink
use Rattle.std.specs.Prelude.{◌≡◌, ◌⊎◌, ℕ, List, [], ◌∷◌, Option, Some, None, Result, is_ok, true}
use Rattle.shelf_io.specs.Count.{Rose, Still}
use Rattle.command_words.specs.Command.{Command, check, draw, from_file, help, import, reads_of, route, writes_of}
use Rattle.tech_rules.specs.Rules.{RuleValues}
use Rattle.command_inputs.specs.Failures.{ArePassed, InputsFail}
use Rattle.command_inputs.specs.GivenRules.{GivenFail, rules_given}
use Rattle.command_inputs.specs.NetlistFiles.{netlist_verdict}
use Rattle.command_ends.specs.declared.refusal.Refusal.{Refusal}

-- why a command's reading failed: the read count of a file that it reads rose, and nothing before that refuses: there are rules, those that their
-- file is told to state, under which what is told of the design is one
abbrev pub ReadFails : Command → (List ℕ → Option (List ℕ)) → (List ℕ → ℕ) → (List ℕ → ℕ) → Type 0
ReadFails (route names) told old new = InputsFail names.rules names.design told old new
ReadFails (check names) told old new =
    InputsFail names.rules (from_file names.design) told old new
    ⊎ (Rose (old names.cif) (new names.cif) × ((under : RuleValues) × ArePassed names.rules (from_file names.design) names.ports told under))
ReadFails (draw names) told old new =
    GivenFail names.rules old new
    ⊎ (Rose (old names.cif) (new names.cif) × ((said : Result (Option RuleValues) Refusal) → rules_given names.rules told ≡ Some said → is_ok said ≡ true))
ReadFails (import names) told old new =
    Rose (old names.netlist) (new names.netlist)
    ⊎ (Rose (old names.cells) (new names.cells) × ((bytes : List ℕ) → told names.netlist ≡ Some bytes → is_ok (netlist_verdict bytes) ≡ true))
ReadFails (help topic) told old new = ⊥

-- why its writing failed: the write count of the file that it writes rose, or that of the sink as it printed what it had done
abbrev pub WriteFails : Option (List ℕ) → (List ℕ → ℕ) → (List ℕ → ℕ) → ℕ → ℕ → Type 0
WriteFails (Some out) old new sink_old sink_new = Rose (old out) (new out) ⊎ Rose sink_old sink_new
WriteFails None old new sink_old sink_new = Rose sink_old sink_new

-- no count of these names rose, or of this one, if there is one
abbrev pub AreStill : List (List ℕ) → (List ℕ → ℕ) → (List ℕ → ℕ) → Type 0
AreStill [] old new = Unit {0}
AreStill (name ∷ names) old new = Still (old name) (new name) × AreStill names old new

abbrev pub IsStill : Option (List ℕ) → (List ℕ → ℕ) → (List ℕ → ℕ) → Type 0
IsStill None old new = Unit {0}
IsStill (Some name) old new = Still (old name) (new name)

-- no read count of the files that a command reads rose, no write count of the one that it writes, and not the sink's
pub record IsQuiet (command : Command) (reads_old reads_new writes_old writes_new : List ℕ → ℕ) (sink_old sink_new : ℕ) : Type 0 where
  pub reads : AreStill (reads_of command) reads_old reads_new
  pub writes : IsStill (writes_of command) writes_old writes_new
  pub sink : Still sink_old sink_new
