use Rattle.std.proofs.Common.{◌≡◌, ◌<◌, ℕ, Bool, true, false, ◌&&◌, eqb, Option, Some, ap, sym, ◌∙◌, subst, arith, Contains}
use Rattle.std.proofs.lemmas.Bool.Decides.{nat_tests}
use Rattle.std.proofs.lemmas.Option.{same_Some}
use Rattle.std.specs.List.{find, slice_get}
use Rattle.design_model.specs.Netlist.{Netlist, IsNetlist, IsPosition}
use Rattle.design_model.specs.declared.design.CellKind.{CellKind}
use Rattle.design_model.specs.declared.design.Pin.{Pin}
use Rattle.design_model.specs.declared.design.Position.{Position}
use Rattle.row_model.specs.Stands.{edge_column, is_on, positions_in, positions_of, turned_column}
use Rattle.row_model.specs.Widths.{columns_of, kind_of}
use Rattle.row_model.proofs.WidthLaws.{kind-good}
use Rattle.std_laws.proofs.Members.{all-get, contains-get, find-passes, get-contains}

-- a column of a cell stands in the cell's columns, mirrored or not
pub turned-within : (mirror : Bool) (columns column : ℕ) → column < columns → turned_column mirror columns column < columns
turned-within true columns column within = omega arith
turned-within false columns column within = within

-- two columns of a cell that come to stand in one are one
pub turned-once : (mirror : Bool) (columns a b : ℕ) → a < columns → b < columns → turned_column mirror columns a ≡ turned_column mirror columns b → a ≡ b
turned-once true columns a b first second same = omega arith
turned-once false columns a b first second same = same

-- the first position of a pin on an edge
pub record EdgePosition (d : Netlist) (top : Bool) (p : Pin) (own : ℕ) : Type 0 where
  pub kind : CellKind
  pub place : ℕ
  pub position : Position
  pub is_kind : kind_of d p.instance ≡ Some kind
  pub at : slice_get kind.positions place ≡ Some position
  pub terminal : position.terminal ≡ p.terminal
  pub side : is_on top position ≡ true
  pub column : position.column ≡ own

-- a pin that has a column on an edge has a position there
pub edge-position : (d : Netlist) (top : Bool) (p : Pin) (own : ℕ) → edge_column d top p ≡ Some own → EdgePosition d top p own
edge-position d top p own e =
    let found : (kind : CellKind) × (a : Position) × (kind_of d p.instance ≡ Some kind)
    × (find (λ (a : Position). eqb a.terminal p.terminal && is_on top a) kind.positions ≡ Some a) × (a.column ≡ own) = grind arith in
    let passes = find-passes (λ (a : Position). eqb a.terminal p.terminal && is_on top a) found.0.positions found.1 found.3 in
    record {
      kind = found.0;
      place = passes.1.0;
      position = found.1;
      is_kind = found.2;
      at = contains-get found.0.positions found.1 passes.1;
      terminal = grind (arith, nat_tests, passes.0);
      side = grind (arith, passes.0);
      column = found.4;
    }

-- a pin's column on an edge is one of its cell's
pub own-within : (d : Netlist) → IsNetlist d → (top : Bool) (p : Pin) (own : ℕ) → edge_column d top p ≡ Some own → own < columns_of d p.instance
own-within d good top p own e =
    let a = edge-position d top p own e in
    let within = (all-get (IsPosition a.kind) a.kind.positions a.place a.position (kind-good d good p.instance a.kind a.is_kind).positions a.at).column in
    grind (arith, a.is_kind, a.column, within)

-- two pins of one instance with one column on an edge are of one terminal
pub same-terminal : (d : Netlist) → IsNetlist d → (top : Bool) (p q : Pin) (own : ℕ) → p.instance ≡ q.instance → edge_column d top p ≡ Some own → edge_column d top q ≡ Some own
    → p.terminal ≡ q.terminal
same-terminal d good top p q own instance first second =
    let a = edge-position d top p own first in
    let b = edge-position d top q own second in
    let kind : b.kind ≡ a.kind = grind (arith, b.is_kind, a.is_kind) in
    let there : slice_get a.kind.positions b.place ≡ Some b.position = subst (λ (k : CellKind). slice_get k.positions b.place ≡ Some b.position) kind b.at in
    let place : a.place ≡ b.place = (kind-good d good p.instance a.kind a.is_kind).apart a.place b.place a.position b.position a.at there
    (grind (arith, a.side, b.side)) (a.column ∙ sym b.column) in
    let position : a.position ≡ b.position = same_Some a.position b.position (sym a.at ∙ ap (slice_get a.kind.positions) place ∙ there) in
    sym a.terminal ∙ ap (λ (x : Position). x.terminal) position ∙ b.terminal

-- the position of a pin on an edge is one of its instance's
pub position-listed : (d : Netlist) (top : Bool) (p : Pin) (own : ℕ) (a : EdgePosition d top p own) → Contains (positions_of d p.instance) a.position
position-listed d top p own a =
    subst (λ (k : Option CellKind). Contains (positions_in k) a.position) (sym a.is_kind) (get-contains a.kind.positions a.place a.position a.at)
