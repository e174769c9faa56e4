-- a checked design as plain lists, and what every one keeps
use Rattle.std.specs.Prelude.{◌≡◌, ◌<◌, ◌≤◌, ℕ, ◌+◌, ◌^◌, List, [], ◌∷◌, ◌++◌, length, map, true, false, ◌==◌, if◌then◌else◌, Option, None, Some, slice_get, All}
use Rattle.std.specs.List.{IsDistinct, list_any}
use Rattle.std.specs.Str.{bytes_eq}
use Rattle.limits.specs.declared.TheConstants.{MOST_HEIGHT, MOST_INSTANCES, MOST_KIND_COLUMNS, MOST_PINS}
use Rattle.geom_core.specs.Names.{IsName}
use Rattle.design_model.specs.declared.design.Position.{Position}
use Rattle.design_model.specs.declared.design.Terminal.{Terminal}
use Rattle.design_model.specs.declared.design.CellKind.{CellKind}
use Rattle.design_model.specs.declared.design.Inst.{Inst}
use Rattle.design_model.specs.declared.design.Pin.{Pin}

-- a checked design as plain lists
pub record Netlist : Type 0 where
  pub kinds : List CellKind
  pub height : ℕ
  pub instances : List Inst
  pub pins : List Pin
  pub nets : List (List ℕ)

-- a position lies in a column of its kind, and its terminal is one of the kind that is no power terminal
pub record IsPosition (k : CellKind) (p : Position) : Type 0 where
  pub column : p.column < k.columns
  pub terminal : (t : Terminal) → slice_get k.terminals p.terminal ≡ Some t → t.power ≡ false
  pub within : p.terminal < length k.terminals

-- a kind of 1 to 100,000,000 columns, at most 200,000,000 units high, with each position in its columns, no two positions at one place, and a position
-- for each terminal that is no power terminal
pub record IsKind (k : CellKind) : Type 0 where
  pub name : IsName k.name
  pub some : 0 < k.columns
  pub few : k.columns ≤ MOST_KIND_COLUMNS
  pub low : k.height ≤ MOST_HEIGHT
  pub positions : All (IsPosition k) k.positions
  pub apart : (i j : ℕ) (p q : Position) → slice_get k.positions i ≡ Some p → slice_get k.positions j ≡ Some q
      → p.top ≡ q.top → p.column ≡ q.column → i ≡ j
  pub reached : (n : ℕ) (t : Terminal) → slice_get k.terminals n ≡ Some t → t.power ≡ false
      → list_any (λ (p : Position). p.terminal == n) k.positions ≡ true

-- the pins of an instance, each as its instance and terminal: one for each terminal that is no power terminal
abbrev pub pins_from : ℕ → ℕ → List Terminal → List (ℕ × ℕ)
pins_from instance n [] = []
pins_from instance n (t ∷ ts) =
    if t.power then pins_from instance (n + 1) ts else (instance, n) ∷ pins_from instance (n + 1) ts

-- the terminals of the kind with this number, or none where there is no such kind
abbrev pub terminals_of_kind : Option CellKind → List Terminal
terminals_of_kind None = []
terminals_of_kind (Some k) = k.terminals

abbrev pub terminals_at : List CellKind → ℕ → List Terminal
terminals_at kinds n = terminals_of_kind (slice_get kinds n)

-- the pins of instances, the first of which has this number, in the order of instances, then terminals
abbrev pub all_pins : List CellKind → ℕ → List Inst → List (ℕ × ℕ)
all_pins kinds n [] = []
all_pins kinds n (i ∷ is) = pins_from n 0 (terminals_at kinds i.kind) ++ all_pins kinds (n + 1) is

-- what every checked design keeps
pub record IsNetlist (d : Netlist) : Type 0 where
  pub few_kinds : length d.kinds < 2 ^ 32
  pub called : (n : ℕ) → n < length d.kinds → list_any (λ (i : Inst). i.kind == n) d.instances ≡ true
  pub few_instances : length d.instances ≤ MOST_INSTANCES
  pub few_pins : length d.pins ≤ MOST_PINS
  pub low : d.height ≤ MOST_HEIGHT
  pub highest : All (λ (k : CellKind). k.height ≤ d.height) d.kinds
  pub kinds : All IsKind d.kinds
  pub instances : All (λ (i : Inst). i.kind < length d.kinds) d.instances
  pub instance_names : All (λ (i : Inst). IsName i.name) d.instances
  pub different_instances : IsDistinct bytes_eq (map (λ (i : Inst). i.name) d.instances)
  pub different_nets : IsDistinct bytes_eq d.nets
  pub pins : map (λ (p : Pin). (p.instance, p.terminal)) d.pins ≡ all_pins d.kinds 0 d.instances
  pub nets : All (λ (p : Pin). (0 < p.net) × (p.net ≤ length d.nets)) d.pins
  pub used : (n : ℕ) → 0 < n → n ≤ length d.nets → list_any (λ (p : Pin). p.net == n) d.pins ≡ true
