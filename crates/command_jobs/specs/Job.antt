-- the job, its rows, its routed channels and its text
use Rattle.std.specs.Prelude.{ℕ, Bool}
use Rattle.tech_rules.specs.Rules.{RuleValues}
use Rattle.design_model.specs.Netlist.{Netlist}
use Rattle.port_rows.specs.declared.ported.Ported.{Ported}

-- what a command to route comes to where nothing is refused: a design that is placed in so many rows, which are annealed by this seed, as one of so many tries, and one that is drawn,
-- the same or that with its ports, under these rules, with labels or without
pub record Job : Type 0 where
  pub rules : RuleValues
  pub placed : Netlist
  pub drawn : Ported
  pub rows : ℕ
  pub seed : ℕ
  pub tries : ℕ
  pub labels : Bool
