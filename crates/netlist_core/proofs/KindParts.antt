use Rattle.std.proofs.Common.{◌≡◌, ℕ, ◌%◌, ◌≤◌, ◌==◌, nat_lt, List, [], Bool, true, false, Option, Some, None, Result, Ok, refl, arith}
use Rattle.std.proofs.lemmas.Bool.Decides.{nat_tests}
use Rattle.std.specs.List.{list_all}
use Rattle.std.specs.Prelude.{if◌then◌else◌}
use Rattle.tech_rules.specs.Rules.{RuleValues}
use Rattle.yal_reader.specs.declared.file.Module.{Module}
use Rattle.netlist_core.specs.Answers.{◌>>=◌, unless, found}
use Rattle.netlist_core.specs.Cells.{clashes, grid_positions, is_on_layer, grid_at, grid_of, kind_at, kind_fault, kind_of, positions_of, spots_of}
use Rattle.netlist_core.specs.Outline.{outline_of}
use Rattle.design_model.specs.Room.{least_height}
use Rattle.design_model.specs.declared.design.CellKind.{CellKind}
use Rattle.design_model.specs.declared.design.Position.{Position}
use Rattle.netlist_core.specs.declared.cells.Grid.{Grid}
use Rattle.netlist_core.specs.declared.fault.DesignFault.{DesignFault}
use Rattle.netlist_core.specs.declared.fault.DesignFault.TheVariants as faults
use Rattle.netlist_core.specs.declared.outline.Outline.{Outline}
use Rattle.yal_reader.specs.declared.file.Spot.{Spot}

-- what a module has that is a kind
pub record IsMade (rules : RuleValues) (n : ℕ) (m : Module) (k : CellKind) : Type 0 where
  pub box : Outline
  pub positions : List Position
  pub outline : outline_of m.corners ≡ Some box
  pub grid : grid_positions rules.grid.column box (spots_of m.lines) ≡ Some positions
  pub fault : kind_fault rules n box (spots_of m.lines) positions ≡ None
  pub kind : kind_at m (grid_at rules box positions) ≡ k

ok-one : {X : Type 0} {x y : X} → (let r : Result X DesignFault = Ok x in r) ≡ Ok y → x ≡ y
ok-one h = cc

made-kind : (rules : RuleValues) (n : ℕ) (m : Module) (k : CellKind) (box : Outline) (ps : List Position)
    → outline_of m.corners ≡ Some box → grid_positions rules.grid.column box (spots_of m.lines) ≡ Some ps
    → (fault : Option DesignFault) → kind_fault rules n box (spots_of m.lines) ps ≡ fault
    → (unless fault (Ok (grid_at rules box ps)) >>= λ (grid : Grid). Ok (kind_at m grid)) ≡ Ok k → IsMade rules n m k
made-kind rules n m k box ps outline grid None none h =
    record { box = box; positions = ps; outline = outline; grid = grid; fault = none; kind = ok-one h }
made-kind rules n m k box ps outline grid (Some fault) some h = cc

made-grid : (rules : RuleValues) (n : ℕ) (m : Module) (k : CellKind) (box : Outline) → outline_of m.corners ≡ Some box
    → (ps : Option (List Position)) → grid_positions rules.grid.column box (spots_of m.lines) ≡ ps
    → ((found (faults.OffGrid n) ps >>= λ positions. unless (kind_fault rules n box (spots_of m.lines) positions) (Ok (grid_at rules box positions)))
    >>= λ (grid : Grid). Ok (kind_at m grid)) ≡ Ok k
    → IsMade rules n m k
made-grid rules n m k box outline None grid h = cc
made-grid rules n m k box outline (Some ps) grid h =
    made-kind rules n m k box ps outline grid (kind_fault rules n box (spots_of m.lines) ps) refl h

-- where a module is a kind, it has all that
pub kind-made : (rules : RuleValues) (n : ℕ) (m : Module) (k : CellKind) → kind_of rules (n, m) ≡ Ok k → IsMade rules n m k
unfolding kind_of grid_of
kind-made rules n m k = by (outline_of m.corners) refl
  where
    by : (o : Option Outline) → outline_of m.corners ≡ o
        → ((found (faults.NoShape n) o >>= λ box. found (faults.OffGrid n) (grid_positions rules.grid.column box (spots_of m.lines)) >>= λ positions.
        unless (kind_fault rules n box (spots_of m.lines) positions) (Ok (grid_at rules box positions)))
        >>= λ (grid : Grid). Ok (kind_at m grid)) ≡ Ok k
        → IsMade rules n m k
    by None outline h = cc
    by (Some box) outline h = made-grid rules n m k box outline (grid_positions rules.grid.column box (spots_of m.lines)) refl h

-- what positions on the grid are
pub record IsGridded (pitch : ℕ) (box : Outline) (spots : List (ℕ × Spot)) (ps : List Position) : Type 0 where
  pub whole : box.width % pitch ≡ 0
  pub positions : positions_of pitch box spots ≡ Some ps

pub grid-made : (pitch : ℕ) (box : Outline) (spots : List (ℕ × Spot)) (ps : List Position)
    → grid_positions pitch box spots ≡ Some ps → IsGridded pitch box spots ps
unfolding grid_positions
grid-made pitch box spots ps = by (box.width % pitch == 0) refl
  where
    zero-of : (box.width % pitch == 0) ≡ true → box.width % pitch ≡ 0
    zero-of h = grind (arith, nat_tests)

    by : (b : Bool) → (box.width % pitch == 0) ≡ b → (if b then positions_of pitch box spots else None) ≡ Some ps → IsGridded pitch box spots ps
    by true whole h = record { whole = zero-of whole; positions = h }
    by false whole h = cc

-- what a kind without a fault is
pub record IsFaultless (rules : RuleValues) (box : Outline) (spots : List (ℕ × Spot)) (ps : List Position) : Type 0 where
  pub high : least_height rules ≤ box.height
  pub apart : clashes [] ps ≡ false
  pub layer : list_all (is_on_layer rules.yal) spots ≡ true

pub faultless : (rules : RuleValues) (n : ℕ) (box : Outline) (spots : List (ℕ × Spot)) (ps : List Position)
    → kind_fault rules n box spots ps ≡ None → IsFaultless rules box spots ps
unfolding kind_fault
faultless rules n box spots ps =
    by (nat_lt box.height (least_height rules)) refl (clashes [] ps) refl (list_all (is_on_layer rules.yal) spots) refl
  where
    least-of : nat_lt box.height (least_height rules) ≡ false → least_height rules ≤ box.height
    least-of h = grind (arith, nat_tests)

    by : (a : Bool) → nat_lt box.height (least_height rules) ≡ a → (b : Bool) → clashes [] ps ≡ b
        → (c : Bool) → list_all (is_on_layer rules.yal) spots ≡ c
        → (if a then Some (faults.TooLow n) else if b then Some (faults.PinClash n) else if c then None else Some (faults.WrongLayer n)) ≡ None
        → IsFaultless rules box spots ps
    by true ha b hb c hc h = cc
    by false ha true hb c hc h = cc
    by false ha false hb true hc h = record { high = least-of ha; apart = hb; layer = hc }
    by false ha false hb false hc h = cc
