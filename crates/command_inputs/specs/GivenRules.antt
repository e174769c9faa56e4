-- rules that a command is given or not
use Rattle.std.specs.Prelude.{ℕ, List, Option, Some, None, option_map, Result, Ok}
use Rattle.command_ends.specs.Refusing.{◌>>=◌}
use Rattle.command_ends.specs.declared.refusal.Refusal.{Refusal}
use Rattle.command_inputs.specs.Failures.{FileFails}
use Rattle.command_inputs.specs.Stated.{rules_verdict}
use Rattle.tech_rules.specs.Rules.{RuleValues}

-- the rules that the bytes of a rules file state, which is given
unfoldable pub some_rules : List ℕ → Result (Option RuleValues) Refusal
some_rules bytes = do
  rules ← rules_verdict bytes
  Ok (Some rules)

-- the rules of a file, if one is given, as far as it is told
unfoldable pub rules_given : Option (List ℕ) → (List ℕ → Option (List ℕ)) → Option (Result (Option RuleValues) Refusal)
rules_given None told = Some (Ok None)
rules_given (Some name) told = option_map some_rules (told name)

-- why they could not be read: the read count of the file rose
abbrev pub GivenFail : Option (List ℕ) → (List ℕ → ℕ) → (List ℕ → ℕ) → Type 0
GivenFail None old new = ⊥
GivenFail (Some name) old new = FileFails name old new
