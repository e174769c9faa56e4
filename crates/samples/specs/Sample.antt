-- the sample rules
use Rattle.std.specs.Prelude.{codes}
use Rattle.tech_rules.specs.Rules.{RuleValues}
use Rattle.tech_rules.specs.declared.sections.StartBy.TheVariants.{Width}

-- the sample rules
abbrev pub sample : RuleValues
sample = record {
  version = 1;
  yal = codes "POLY";
  decimals = 0;
  grid = record { column = 8; track = 8; centi = 100; pin = 4 };
  horizontal = record { layer = codes "NM"; width = 3; space = 3 };
  vertical = record { layer = codes "NP"; width = 3; space = 3 };
  cut = record { layer = codes "NC"; size = 2; enclose = 1; space = 3 };
  outline = record { layer = codes "XP" };
  annealing = record { temperature = 1000; stages = 0; moves = 4; row_cost = 4; length_cost = 1; start = Width };
}
