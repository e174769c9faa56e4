-- the ranges of the keys
use Rattle.std.specs.Prelude.{◌≡◌, ◌≤◌, ℕ, true}
use Rattle.geom_core.specs.LayerText.{is_layer_text}
use Rattle.limits.specs.declared.TheConstants.{MOST_DECIMALS, MOST_LENGTH, MOST_MOVES, MOST_STAGES, MOST_TEMPERATURE, MOST_WEIGHT}
use Rattle.tech_rules.specs.declared.sections.Annealing.{Annealing}
use Rattle.tech_rules.specs.declared.sections.Cut.{Cut}
use Rattle.tech_rules.specs.declared.sections.Grid.{Grid}
use Rattle.tech_rules.specs.declared.sections.Outline.{Outline}
use Rattle.tech_rules.specs.declared.sections.Wires.{Wires}

abbrev pub IsWithin : ℕ → ℕ → ℕ → Type 0
IsWithin low high n = (low ≤ n) × (n ≤ high)

-- rules of this version may have so many decimals: none in version 1
pub record AreDecimals (version decimals : ℕ) : Type 0 where
  pub few : decimals ≤ MOST_DECIMALS
  pub whole : version ≡ 1 → decimals ≡ 0

-- the values of a section lie in the ranges of their keys
pub record IsGridInRange (g : Grid) : Type 0 where
  pub column : IsWithin 2 MOST_LENGTH g.column
  pub track : IsWithin 2 MOST_LENGTH g.track
  pub centi : IsWithin 4 MOST_LENGTH g.centi
  pub pin : IsWithin 1 MOST_LENGTH g.pin

pub record AreWiresInRange (w : Wires) : Type 0 where
  pub layer : is_layer_text w.layer ≡ true
  pub width : IsWithin 1 MOST_LENGTH w.width
  pub space : IsWithin 1 MOST_LENGTH w.space

pub record IsCutInRange (c : Cut) : Type 0 where
  pub layer : is_layer_text c.layer ≡ true
  pub size : IsWithin 1 MOST_LENGTH c.size
  pub enclose : c.enclose ≤ MOST_LENGTH
  pub space : IsWithin 1 MOST_LENGTH c.space

pub record IsOutlineInRange (o : Outline) : Type 0 where
  pub layer : is_layer_text o.layer ≡ true

pub record IsAnnealingInRange (a : Annealing) : Type 0 where
  pub temperature : IsWithin 1 MOST_TEMPERATURE a.temperature
  pub stages : a.stages ≤ MOST_STAGES
  pub moves : a.moves ≤ MOST_MOVES
  pub row_cost : a.row_cost ≤ MOST_WEIGHT
  pub length_cost : a.length_cost ≤ MOST_WEIGHT
