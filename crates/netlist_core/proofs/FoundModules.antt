use Rattle.std.proofs.Common.{◌≡◌, ℕ, zero, suc, ◌+◌, ◌-◌, ◌^◌, ◌<◌, ◌≤◌, List, [], ◌∷◌, length, true, false, not, cond, Some, refl, ap, sym, ◌∙◌, subst, arith}
use Rattle.std.proofs.lemmas.Option.{slice_get-map}
use Rattle.std.proofs.lemmas.List.{length-map}
use Rattle.std.specs.List.{AllByRecursion, slice_get}
use Rattle.std.specs.Option.{option_map}
use Rattle.std.specs.Str.{bytes_eq}
use Rattle.yal_reader.specs.Kept.{IsShort, module_names}
use Rattle.yal_reader.specs.declared.file.Module.{Module}
use Rattle.yal_reader.specs.declared.file.Line.{Line}
use Rattle.list_facts.specs.Names.{place_among}
use Rattle.list_facts.specs.Texts.{texts}
use Rattle.list_facts.proofs.Different.{length-mentions}
use Rattle.netlist_core.specs.Calls.{module_named}
use Rattle.netlist_core.specs.Cells.{line_names, terminal_in, terminals_of, terminal_names, power_names}
use Rattle.netlist_core.specs.LibraryView.{IsLibrary}
use Rattle.netlist_core.specs.Read.{AreModules}
use Rattle.design_model.specs.declared.design.Terminal.{Terminal}
use Rattle.netlist_core.specs.declared.library.Library.TheInside.{Inside}
use Rattle.std_laws.proofs.Numbers.{one-more}

-- a module stands where its name does
pub found-at : (ms : List Module) (name : List ℕ) → slice_get ms (place_among (module_names ms) name) ≡ module_named ms name
found-at [] name = refl
found-at (m ∷ ms) name =
    elim (bytes_eq name m.name) as (λ b. slice_get (m ∷ ms) (cond (not b) (1 + place_among (module_names ms) name) 0) ≡ cond b (Some m) (module_named ms name)) [
      | true ↦ refl
      | false ↦ ap (slice_get (m ∷ ms)) (one-more (place_among (module_names ms) name)) ∙ found-at ms name
    ]

-- what stands at a name's place in a library is the module of this name
pub library-found : (a : Inside) → IsLibrary a → (modules : List Module) → modules ≡ a.modules → (place : ℕ) (name : List ℕ)
    → place ≡ place_among (texts a.names.keys) name → slice_get modules place ≡ module_named a.modules name
library-found a is modules same place name at =
    ap (λ (ms : List Module). slice_get ms place) same
    ∙ ap (slice_get a.modules) (at ∙ ap (λ (names : List (List ℕ)). place_among names name) is.names) ∙ found-at a.modules name

-- and there stand its terminals
pub library-terminals : (a : Inside) → IsLibrary a → (modules : List Module) → modules ≡ a.modules → (place : ℕ) (m : Module)
    → slice_get modules place ≡ Some m → slice_get a.terminals.items place ≡ Some (terminals_of m.lines)
library-terminals a is modules same place m at =
    ap (λ (all : List (List Terminal)). slice_get all place) is.terminals
    ∙ slice_get-map (λ (m : Module). terminals_of m.lines) a.modules place
    ∙ ap (λ (ms : List Module). option_map (λ (m : Module). terminals_of m.lines) (slice_get ms place)) (sym same)
    ∙ ap (option_map (λ (m : Module). terminals_of m.lines)) at

-- a module has at most as many terminals as lines
pub few-names : (lines : List Line) → length (terminal_names lines) ≤ length lines
few-names lines = omega (arith, length-mentions (line_names lines), length-map lines (λ (l : Line). l.name))

few-terminals : (lines : List Line) → length (terminals_of lines) ≤ length lines
few-terminals lines = omega (arith, length-map (terminal_names lines) (terminal_in (power_names lines)), few-names lines)

short-at : (most : ℕ) (ms : List Module) (place : ℕ) (m : Module) → AllByRecursion (IsShort most) ms → slice_get ms place ≡ Some m → length m.lines ≤ most
short-at most [] place m short at = cc
short-at most (x ∷ ms) zero m short at = subst (λ (n : Module). length n.lines ≤ most) (same at) short.0.lines
  where
    same : Some x ≡ Some m → x ≡ m
    same e = cc
short-at most (x ∷ ms) (suc place) m short at = short-at most ms place m short.1 at

-- and fewer than 2 ^ 32
pub few-found : (modules : List Module) → AreModules modules → (place : ℕ) (m : Module) → slice_get modules place ≡ Some m → length (terminals_of m.lines) < 2 ^ 32
few-found modules are place m at = omega (arith, few-terminals m.lines, short-at (2 ^ 32 - 1) modules place m are.short at)
