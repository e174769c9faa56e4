-- the room that cells have for their pins
use Rattle.std.specs.Prelude.{ℕ, ◌+◌, ◌*◌, ◌≤◌, All}
use Rattle.tech_rules.specs.Rules.{RuleValues}
use Rattle.design_model.specs.Netlist.{Netlist}
use Rattle.design_model.specs.declared.design.CellKind.{CellKind}

-- the least height of cells in units: a pin at each edge, and between the two the space of the vertical layer
abbrev pub least_height : RuleValues → ℕ
least_height r = 2 * r.grid.pin + r.vertical.space

-- the cells of a design have room for their pins
abbrev pub HasRoom : RuleValues → Netlist → Type 0
HasRoom r d = All (λ (k : CellKind). least_height r ≤ k.height) d.kinds
