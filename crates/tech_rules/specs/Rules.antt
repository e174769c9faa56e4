-- the values of rules, and what makes them valid
use Rattle.std.specs.Prelude.{◌≡◌, ◌≢◌, ◌≤◌, ℕ, ◌+◌, ◌*◌, ◌%◌, List, length, Bool, true, ◌&&◌, ◌||◌, ◌==◌, nat_le}
use Rattle.std.specs.Char.{is_ascii_alphanumeric}
use Rattle.std.specs.List.{list_all}
use Rattle.limits.specs.declared.TheConstants.{MOST_WORD}
use Rattle.tech_rules.specs.Ranges.{AreDecimals, IsAnnealingInRange, IsCutInRange, IsGridInRange, IsOutlineInRange, IsWithin, AreWiresInRange}
use Rattle.tech_rules.specs.declared.sections.Annealing.{Annealing}
use Rattle.tech_rules.specs.declared.sections.Cut.{Cut}
use Rattle.tech_rules.specs.declared.sections.Grid.{Grid}
use Rattle.tech_rules.specs.declared.sections.Outline.{Outline}
use Rattle.tech_rules.specs.declared.sections.Wires.{Wires}

-- the values of a rules file, by its sections; a layer and a word are their texts
pub record RuleValues : Type 0 where
  pub version : ℕ
  pub yal : List ℕ
  pub decimals : ℕ
  pub grid : Grid
  pub horizontal : Wires
  pub vertical : Wires
  pub cut : Cut
  pub outline : Outline
  pub annealing : Annealing

-- the side of a via's pad
abbrev pub pad : RuleValues → ℕ
pad r = r.cut.size + 2 * r.cut.enclose

-- an ASCII letter, a digit or an underscore
abbrev pub is_yal_code : ℕ → Bool
is_yal_code c = is_ascii_alphanumeric c || c == 95

-- 1 to 32 ASCII letters, digits or underscores
abbrev pub is_yal_word : List ℕ → Bool
is_yal_word text = nat_le 1 (length text) && nat_le (length text) MOST_WORD && list_all is_yal_code text

-- every value lies in its key's range
pub record InRanges (r : RuleValues) : Type 0 where
  pub version : IsWithin 1 2 r.version
  pub yal : is_yal_word r.yal ≡ true
  pub decimals : AreDecimals r.version r.decimals
  pub grid : IsGridInRange r.grid
  pub horizontal : AreWiresInRange r.horizontal
  pub vertical : AreWiresInRange r.vertical
  pub cut : IsCutInRange r.cut
  pub outline : IsOutlineInRange r.outline
  pub annealing : IsAnnealingInRange r.annealing

-- the four layers have different names
pub record AreDifferent (r : RuleValues) : Type 0 where
  pub horizontal_vertical : r.horizontal.layer ≢ r.vertical.layer
  pub horizontal_cut : r.horizontal.layer ≢ r.cut.layer
  pub horizontal_outline : r.horizontal.layer ≢ r.outline.layer
  pub vertical_cut : r.vertical.layer ≢ r.cut.layer
  pub vertical_outline : r.vertical.layer ≢ r.outline.layer
  pub cut_outline : r.cut.layer ≢ r.outline.layer

-- valid rules: the ranges, and then the twelve rules in their order, the layers' names last
pub record ValidRules (r : RuleValues) : Type 0 where
  pub ranges : InRanges r
  pub pad_horizontal : r.horizontal.width ≤ pad r
  pub pad_vertical : r.vertical.width ≤ pad r
  pub column_horizontal : pad r + r.horizontal.space ≤ r.grid.column
  pub column_vertical : pad r + r.vertical.space ≤ r.grid.column
  pub track_horizontal : pad r + r.horizontal.space ≤ r.grid.track
  pub track_vertical : pad r + r.vertical.space ≤ r.grid.track
  pub column_cut : r.cut.size + r.cut.space ≤ r.grid.column
  pub track_cut : r.cut.size + r.cut.space ≤ r.grid.track
  pub even_column : r.grid.column % 2 ≡ 0
  pub whole_centi : r.grid.centi % 4 ≡ 0
  pub pin_vertical : r.vertical.width ≤ r.grid.pin
  pub layers : AreDifferent r
