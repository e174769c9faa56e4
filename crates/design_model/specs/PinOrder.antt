-- pins by their instances and terminals
use Rattle.std.specs.Prelude.{◌≡◌, ℕ, List, [], ◌∷◌, map, Bool, true, ◌==◌, ◌&&◌, ◌||◌, nat_lt, Option, None, Some, slice_get}
use Rattle.std.specs.List.{AllByRecursion, prefix_len}
use Rattle.std.specs.Option.{option_map}
use Rattle.design_model.specs.Netlist.{Netlist, terminals_at}
use Rattle.design_model.specs.declared.design.CellKind.{CellKind}
use Rattle.design_model.specs.declared.design.Inst.{Inst}
use Rattle.design_model.specs.declared.design.Pin.{Pin}
use Rattle.design_model.specs.declared.design.Terminal.{Terminal}

-- a pin's instance and terminal
abbrev pub pin_pair : Pin → ℕ × ℕ
pin_pair p = (p.instance, p.terminal)

-- pairs go by the instance, then by the terminal
abbrev pub is_less : ℕ × ℕ → ℕ × ℕ → Bool
is_less a b = nat_lt a.0 b.0 || (a.0 == b.0 && nat_lt a.1 b.1)

-- each pair is less than those after it
abbrev pub IsAscending : List (ℕ × ℕ) → Type 0
IsAscending [] = Unit {0}
IsAscending (x ∷ xs) = AllByRecursion (λ (y : ℕ × ℕ). is_less x y ≡ true) xs × IsAscending xs

-- how many of these pins stand before a pair, up to the first that does not
unfoldable pub pins_before : List Pin → ℕ × ℕ → ℕ
pins_before pins pair = prefix_len (λ (p : ℕ × ℕ). is_less p pair) (map pin_pair pins)

-- pin n is that of this instance and terminal
abbrev pub IsPinAt : List Pin → ℕ → ℕ → ℕ → Type 0
IsPinAt pins n instance terminal = option_map pin_pair (slice_get pins n) ≡ Some (instance, terminal)

-- the terminals of an instance's kind, or none where there is no such instance
abbrev pub kind_terminals : List CellKind → Option Inst → List Terminal
kind_terminals kinds None = []
kind_terminals kinds (Some i) = terminals_at kinds i.kind

abbrev pub instance_terminals : Netlist → ℕ → List Terminal
instance_terminals d instance = kind_terminals d.kinds (slice_get d.instances instance)

-- whether a terminal is power, if there is one of this number
abbrev pub power_at : List Terminal → ℕ → Option Bool
power_at terminals n = option_map (λ (t : Terminal). t.power) (slice_get terminals n)
