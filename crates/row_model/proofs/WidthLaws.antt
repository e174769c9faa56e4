use Rattle.std.proofs.Common.{◌≡◌, ◌≤◌, ℕ, ◌+◌, List, ◌∷◌, map, Option, Some, None, refl, arith}
use Rattle.std.proofs.lemmas.List.Sums.{sum_by-cons}
use Rattle.std.proofs.lemmas.Option.{option_and_then_some}
use Rattle.std.specs.List.{slice_get}
use Rattle.design_model.specs.Netlist.{IsKind, IsNetlist, Netlist}
use Rattle.design_model.specs.declared.design.CellKind.{CellKind}
use Rattle.design_model.specs.declared.design.Inst.{Inst}
use Rattle.row_model.specs.Widths.{columns_of, kind_of, row_width, width_of}
use Rattle.row_model.specs.declared.rows.Seat.{Seat}
use Rattle.std_laws.proofs.Members.{all-get}

-- the kind of an instance is a kind
pub kind-good : (d : Netlist) → IsNetlist d → (instance : ℕ) (kind : CellKind) → kind_of d instance ≡ Some kind → IsKind kind
kind-good d good instance kind is =
    option_and_then_some (λ (i : Inst). slice_get d.kinds i.kind) (slice_get d.instances instance) kind is
    (λ (i : Inst) (there : slice_get d.instances instance ≡ Some i) (at : slice_get d.kinds i.kind ≡ Some kind). all-get IsKind d.kinds i.kind kind good.kinds at)

-- an instance is at most 100,000,000 columns wide
pub columns-few : (d : Netlist) → IsNetlist d → (instance : ℕ) → columns_of d instance ≤ 100000000
columns-few d good instance = by (kind_of d instance) (λ kind is. (kind-good d good instance kind is).few)
  where
    by : (o : Option CellKind) → ((kind : CellKind) → o ≡ Some kind → kind.columns ≤ 100000000) → width_of o ≤ 100000000
    by None few = omega arith
    by (Some kind) few = few kind refl

-- the width of one more seat before others
pub width-cons : (d : Netlist) (s : Seat) (seats : List Seat) → row_width d (s ∷ seats) ≡ columns_of d s.instance + row_width d seats
width-cons d s seats = sum_by-cons (λ (n : ℕ). n) (columns_of d s.instance) (map (λ (s : Seat). columns_of d s.instance) seats)
