-- the size that a layout is within
use Rattle.std.specs.Prelude.{ℕ, ◌+◌, ◌*◌, List, length, map, sum, fold, max}
use Rattle.tech_rules.specs.Rules.{RuleValues}
use Rattle.channel_model.specs.Limits.{most_extra, most_tracks}
use Rattle.design_model.specs.Netlist.{Netlist}
use Rattle.feed_cells.specs.Fed.{Fed}
use Rattle.pin_assign.specs.declared.bound.Bound.{Bound}

-- the most nets that stand in one channel
abbrev pub most_nets : List ℕ → ℕ
most_nets nets = fold max 0 nets

-- the height in units of channels with the most tracks that a router may take for their nets
abbrev pub channels_height : RuleValues → List ℕ → ℕ
channels_height r nets = sum (map (λ (n : ℕ). (most_tracks n + 1) * r.grid.track) nets)

-- the columns of the widest row, and the most that a router may take beyond them
abbrev pub channels_width : Fed → ℕ
channels_width fed = fed.width + most_extra (most_nets fed.nets)

-- the width and the height in centimicrons, and the columns of all channels together, of a layout whose router takes the most tracks and columns that it may
unfoldable pub bound_of : RuleValues → Netlist → Fed → Bound
bound_of r d fed = record {
  width = channels_width fed * r.grid.column * r.grid.centi;
  height = (sum fed.heights + channels_height r fed.nets) * r.grid.centi;
  grid = (length fed.rows + 1) * channels_width fed;
}
