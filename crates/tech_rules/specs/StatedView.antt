-- the values that a rules file states as contracts see them, each in the range of its key
use Rattle.tech_rules.specs.Rules.{RuleValues, InRanges}
use Rattle.tech_rules.specs.declared.stated.Stated.TheInside.{Inside}

-- the values of the fields
abbrev pub stated_values : Inside → RuleValues
stated_values a = record {
  version = a.version;
  yal = a.yal.now;
  decimals = a.decimals;
  grid = a.grid;
  horizontal = a.horizontal;
  vertical = a.vertical;
  cut = a.cut;
  outline = a.outline;
  annealing = a.annealing;
}

abbrev pub AreInRanges : Inside → Type 0
AreInRanges a = InRanges (stated_values a)
