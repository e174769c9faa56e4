use Rattle.std.proofs.Common.{◌≡◌, ◌≤◌, ℕ, List, [], ◌∷◌, length, Option, Some, None, Result, Ok, Err, refl, subst}
use Rattle.std.specs.List.{AllByRecursion, AllZip, filter}
use Rattle.std.proofs.lemmas.List.Elements.{All-from_recursion}
use Rattle.std.specs.Result.{IfOk}
use Rattle.tech_rules.specs.Rules.{RuleValues}
use Rattle.yal_reader.specs.declared.file.Call.{Call}
use Rattle.yal_reader.specs.declared.file.Module.{Module}
use Rattle.yal_reader.specs.declared.file.YalFile.{YalFile}
use Rattle.netlist_core.specs.Answers.{◌>>=◌, Agrees, unless}
use Rattle.netlist_core.specs.Cells.{kind_of}
use Rattle.netlist_core.specs.Calls.{calls_fault, is_parent_module, only_parent, over}
use Rattle.design_model.specs.Netlist.{Netlist}
use Rattle.design_model.specs.Room.{HasRoom, least_height}
use Rattle.netlist_core.specs.OnGrid.{calls_design, design_of, kinds_for, on_grid, used_design, used_modules}
use Rattle.netlist_core.specs.Signals.{PinWord, all_signals}
use Rattle.design_model.specs.declared.design.CellKind.{CellKind}
use Rattle.netlist_core.specs.declared.fault.Count.TheVariants.{Instances, Pins}
use Rattle.netlist_core.specs.declared.fault.DesignFault.{DesignFault}
use Rattle.netlist_core.proofs.EachLaws.{each-zip}
use Rattle.netlist_core.proofs.KindLaws.{kind-high}

no-answer : {A : Type 0} (fault : DesignFault) (a : A) → ◌≡◌ {A = Result A DesignFault} (Err fault) (Ok a) → ⊥
no-answer fault a e = cc

each-high : (rules : RuleValues) (used : List (ℕ × Module)) (kinds : List CellKind)
    → AllZip (λ (m : ℕ × Module) (k : CellKind). least_height rules ≤ k.height) used kinds
    → AllByRecursion (λ (k : CellKind). least_height rules ≤ k.height) kinds
each-high rules [] [] h = tt
each-high rules [] (k ∷ ks) h = absurd h
each-high rules (m ∷ ms) [] h = tt
each-high rules (m ∷ ms) (k ∷ ks) h = (h.0, each-high rules ms ks h.1)

used-high : (rules : RuleValues) (used : List (ℕ × Module)) (signals : List PinWord) (calls : List Call) (d : Netlist)
    → used_design rules used signals calls ≡ Ok d → HasRoom rules d
unfolding used_design kinds_for
used-high rules used signals calls d is = by (kinds_for rules used) refl is
  where
    by : (all : Result (List CellKind) DesignFault) → kinds_for rules used ≡ all → (all >>= (λ kinds. Ok (design_of used signals calls kinds))) ≡ Ok d → HasRoom rules d
    by (Err fault) good e = absurd (no-answer fault d e)
    by (Ok kinds) good e = subst (λ (d : Netlist). HasRoom rules d) (same e)
        (All-from_recursion (λ (k : CellKind). least_height rules ≤ k.height) kinds
        (each-high rules used kinds
        (each-zip (kind_of rules) (λ m k. least_height rules ≤ k.height) (λ m k at. kind-high rules m.0 m.1 k at) used kinds good)))
      where
        same : ◌≡◌ {A = Result Netlist DesignFault} (Ok (design_of used signals calls kinds)) (Ok d) → design_of used signals calls kinds ≡ d
        same e = cc

unless-ok : {A : Type 0} (o : Option DesignFault) (r : Result A DesignFault) (a : A) → unless o r ≡ Ok a → r ≡ Ok a
unless-ok None r a e = e
unless-ok (Some fault) r a e = absurd (no-answer fault a e)

calls-high : (rules : RuleValues) (modules : List Module) (calls : List Call) (d : Netlist) → calls_design rules modules calls ≡ Ok d → HasRoom rules d
unfolding calls_design
calls-high rules modules calls d is =
    used-high rules (used_modules modules calls) (all_signals modules calls) calls d
    (unless-ok (over Pins 200000 (length (all_signals modules calls))) _ d
    (unless-ok (calls_fault modules calls) _ d (unless-ok (over Instances 20000 (length calls)) _ d is)))

-- a design on the grid has room in its kinds
pub grid-high : (rules : RuleValues) (file : YalFile) (d : Netlist) → on_grid rules file ≡ Ok d → HasRoom rules d
unfolding on_grid
grid-high rules file d is = by (only_parent (filter is_parent_module file.modules)) is
  where
    by : (all : Result Module DesignFault) → (all >>= (λ parent. calls_design rules file.modules parent.calls)) ≡ Ok d → HasRoom rules d
    by (Err fault) e = absurd (no-answer fault d e)
    by (Ok parent) e = calls-high rules file.modules parent.calls d e

-- and so does an answer that agrees with one
pub agrees-high : (rules : RuleValues) (modules : List Module) (calls : List Call) (answer : Result Netlist DesignFault)
    → Agrees (λ d. d) answer (calls_design rules modules calls) → IfOk answer (HasRoom rules)
agrees-high rules modules calls (Ok d) is = calls-high rules modules calls d is
agrees-high rules modules calls (Err fault) is = tt
