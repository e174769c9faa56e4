-- how large the layout of a placement is likely to be
use Rattle.std.specs.Prelude.{ℕ, ◌+◌, ◌*◌, List, map, sum, Option, None, Some, if◌then◌else◌, nat_lt}
use Rattle.limits.specs.declared.TheConstants.{MOST_COLUMNS}
use Rattle.tech_rules.specs.Rules.{RuleValues}
use Rattle.design_model.specs.Netlist.{Netlist}
use Rattle.channel_model.specs.Density.{density_of}
use Rattle.channel_model.specs.Pins.{Pins}
use Rattle.feed_cells.specs.Fed.{Fed}
use Rattle.pin_assign.specs.Bounds.{bound_of}
use Rattle.pin_assign.specs.Tables.{tables_of}

-- the height in units of channels that take as many tracks as their densities
abbrev pub dense_height : RuleValues → List Pins → ℕ
dense_height r channels = sum (map (λ (pins : Pins). (density_of pins + 1) * r.grid.track) channels)

-- the width of rows with feeds times the height that they then have, in square units
abbrev pub dense_area : RuleValues → Netlist → Fed → ℕ
dense_area r d fed = fed.width * r.grid.column * (sum fed.heights + dense_height r (tables_of d fed))

-- the estimate of a placement: none where the limit of the grid refuses its layout
unfoldable pub estimate_of : RuleValues → Netlist → Fed → Option ℕ
estimate_of r d fed = if nat_lt MOST_COLUMNS (bound_of r d fed).grid then None else Some (dense_area r d fed)
