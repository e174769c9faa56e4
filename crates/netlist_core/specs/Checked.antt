-- what the checks before the used modules give
use Rattle.std.specs.Prelude.{◌≡◌, ◌<◌, ◌≤◌, ◌^◌, ℕ, ◌+◌, List, [], ◌∷◌, ◌++◌, length, map, true, ◌==◌, Option, slice_get}
use Rattle.std.specs.List.{AllByRecursion, IsDistinct, list_any}
use Rattle.std.specs.Option.{option_map}
use Rattle.std.specs.Str.{bytes_eq}
use Rattle.limits.specs.declared.TheConstants.{MOST_PINS}
use Rattle.yal_reader.specs.Kept.{IsKeptModule, is_standard}
use Rattle.yal_reader.specs.declared.file.Call.{Call}
use Rattle.yal_reader.specs.declared.file.Module.{Module}
use Rattle.list_facts.specs.Names.{place_among}
use Rattle.netlist_core.specs.Calls.{terminals_in}
use Rattle.design_model.specs.Netlist.{pins_from}
use Rattle.netlist_core.specs.OnGrid.{inst_in, used_names}
use Rattle.netlist_core.specs.Read.{AreCalls}
use Rattle.netlist_core.specs.Signals.{PinWord}
use Rattle.design_model.specs.declared.design.Inst.{Inst}

-- the used module at a place
abbrev pub module_at : List (ℕ × Module) → ℕ → Option Module
module_at used n = option_map (λ (m : ℕ × Module). m.1) (slice_get used n)

-- the pins of calls of these modules, the first of which is instance n, each as its instance and terminal
abbrev pub pins_used : List (ℕ × Module) → ℕ → List Call → List (ℕ × ℕ)
pins_used used n [] = []
pins_used used n (c ∷ cs) = pins_from n 0 (terminals_in (module_at used (place_among (used_names used) c.«module»))) ++ pins_used used (n + 1) cs

-- the instance and the terminal of a word's pin
abbrev pub pin_place : PinWord → ℕ × ℕ
pin_place s = (s.instance, s.terminal)

-- calls with the modules that they use and the words at their pins
pub record CheckedCalls : Type 0 where
  pub used : List (ℕ × Module)
  pub signals : List PinWord
  pub calls : List Call

-- what the checks of calls give: each call names one of these modules, which are STANDARD, and has
-- a word for each terminal
pub record IsChecked (used : List (ℕ × Module)) (signals : List PinWord) (calls : List Call) : Type 0 where
  pub read : AreCalls calls
  pub few_signals : length signals ≤ MOST_PINS
  pub few_modules : length used < 2 ^ 32
  pub kept : AllByRecursion (λ (m : ℕ × Module). IsKeptModule m.1) used
  pub standard : AllByRecursion (λ (m : ℕ × Module). is_standard m.1.kind ≡ true) used
  pub different_modules : IsDistinct bytes_eq (used_names used)
  pub called : AllByRecursion (λ (c : Call). list_any (bytes_eq c.«module») (used_names used) ≡ true) calls
  pub uses : (n : ℕ) → n < length used → list_any (λ (i : Inst). i.kind == n) (map (inst_in (used_names used)) calls) ≡ true
  pub pins : map pin_place signals ≡ pins_used used 0 calls
