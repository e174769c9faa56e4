use Rattle.std.proofs.Common.{◌≡◌, ℕ, ◌<◌, ◌≤◌, length, Some, arith}
use Rattle.std.proofs.lemmas.List.Elements.{All-contains}
use Rattle.std.specs.Prelude.{slice_get}
use Rattle.tech_rules.specs.Rules.{RuleValues}
use Rattle.design_model.specs.Netlist.{IsNetlist, Netlist}
use Rattle.design_model.specs.Room.{HasRoom, least_height}
use Rattle.design_model.specs.declared.design.CellKind.{CellKind}
use Rattle.std_laws.proofs.Members.{get-contains}
use Rattle.std_laws.proofs.Places.{at-place}

-- a kind of a design with room has room
pub kind-room : (r : RuleValues) (d : Netlist) → HasRoom r d → (n : ℕ) (k : CellKind) → slice_get d.kinds n ≡ Some k → least_height r ≤ k.height
kind-room r d room n k at = All-contains (λ (k : CellKind). least_height r ≤ k.height) d.kinds k room (get-contains d.kinds n k at)

-- a kind is no higher than the design
pub kind-highest : (d : Netlist) → IsNetlist d → (n : ℕ) (k : CellKind) → slice_get d.kinds n ≡ Some k → k.height ≤ d.height
kind-highest d is n k at = All-contains (λ (k : CellKind). k.height ≤ d.height) d.kinds k is.highest (get-contains d.kinds n k at)

-- so a design with kinds has room, where they have
pub design-room : (r : RuleValues) (d : Netlist) → IsNetlist d → HasRoom r d → 0 < length d.kinds → least_height r ≤ d.height
design-room r d is room some =
    let first = at-place d.kinds 0 some in
    omega (arith, kind-room r d room 0 first.0 first.1, kind-highest d is 0 first.0 first.1)
