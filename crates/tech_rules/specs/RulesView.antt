-- the rules of a process as contracts see them: the values of all sections, which are valid
use Rattle.tech_rules.specs.Rules.{RuleValues, ValidRules}
use Rattle.tech_rules.specs.declared.rules.Rules.TheInside.{Inside}

-- the values of the fields
abbrev pub values_of : Inside → RuleValues
values_of a = record {
  version = a.version;
  yal = a.yal;
  decimals = a.decimals;
  grid = a.grid;
  horizontal = a.horizontal;
  vertical = a.vertical;
  cut = a.cut;
  outline = a.outline;
  annealing = a.annealing;
}

abbrev pub AreValid : Inside → Type 0
AreValid a = ValidRules (values_of a)
