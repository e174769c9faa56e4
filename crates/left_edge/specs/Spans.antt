-- from where to where a net reaches, the nets over a column, and the fullest column
use Rattle.std.specs.Prelude.{◌≡◌, ◌<◌, ℕ, List, length, filter, unwrap_or}
use Rattle.channel_model.specs.declared.reach.Reach.{Reach}
use Rattle.channel_model.specs.Pins.{Pins}
use Rattle.channel_model.specs.Nets.{nets_of}
use Rattle.channel_model.specs.Reach.{span_of}
use Rattle.channel_model.specs.Density.{is_over, density_of}

-- from the first to the last pin column of a net of the channel
unfoldable pub span : Pins → ℕ → Reach
span pins net = unwrap_or (span_of pins net) (record { first = 0; last = 0 })

-- the nets whose spans cover a column, in number order
abbrev pub nets_over : Pins → ℕ → List ℕ
nets_over pins column = filter (λ net. is_over column (span pins net)) (nets_of pins)

-- the first of the columns over which the most nets are
pub record IsFullest (pins : Pins) (column : ℕ) : Type 0 where
  pub within : column < length pins.top
  pub most : length (nets_over pins column) ≡ density_of pins
  pub first : (k : ℕ) → k < column → length (nets_over pins k) < density_of pins
