use Rattle.netlist_core.specs.declared.fault.DesignFault.TheVariants as faults
use Rattle.std.proofs.Common.{◌≡◌, ◌≤◌, ℕ, List, [], ◌∷◌, length, None, Result, Ok, Err, ap, sym, subst, arith}
use Rattle.std.specs.List.{AllByRecursion, filter}
use Rattle.yal_reader.specs.Kept.{IsKeptModule}
use Rattle.yal_reader.specs.declared.file.Call.{Call}
use Rattle.yal_reader.specs.declared.file.Module.{Module}
use Rattle.netlist_core.specs.Calls.{calls_fault, is_parent_module, only_parent}
use Rattle.netlist_core.specs.Checked.{IsChecked}
use Rattle.netlist_core.specs.OnGrid.{used_modules}
use Rattle.netlist_core.specs.Read.{AreCalls, AreModules}
use Rattle.netlist_core.specs.Signals.{PinWord, all_signals}
use Rattle.netlist_core.specs.declared.fault.DesignFault.{DesignFault}
use Rattle.netlist_core.proofs.PinPlaces.{called-all, places-all}
use Rattle.netlist_core.proofs.StandardModules.{used-standard}
use Rattle.netlist_core.proofs.UsesOfKinds.{kinds-called}
use Rattle.netlist_core.proofs.UsedNames.{few-used, used-different, used-every}
use Rattle.std_laws.proofs.Every.{every-filtered}

-- what the checks of calls give
checked : (modules : List Module) (calls : List Call) → AreModules modules → AreCalls calls → calls_fault modules calls ≡ None
    → length (all_signals modules calls) ≤ 200000 → IsChecked (used_modules modules calls) (all_signals modules calls) calls
checked modules calls of_modules of_calls good few_signals = record {
  read = of_calls;
  few_signals = few_signals;
  few_modules = omega (arith, few-used modules calls, of_modules.few);
  kept = used-every IsKeptModule modules calls of_modules.kept;
  standard = used-standard modules calls of_modules.different good;
  different_modules = used-different modules calls of_modules.different;
  called = called-all modules calls good;
  uses = kinds-called modules calls of_modules.different;
  pins = places-all modules calls good;
}

pub checked-calls : (modules : List Module) (calls : List Call) (used : List (ℕ × Module)) (signals : List PinWord)
    → used ≡ used_modules modules calls → signals ≡ all_signals modules calls → AreModules modules → AreCalls calls
    → calls_fault modules calls ≡ None → length signals ≤ 200000 → IsChecked used signals calls
checked-calls modules calls used signals is_used is_signals of_modules of_calls good few_signals =
    subst (λ u. IsChecked u signals calls) (sym is_used)
    (subst (λ s. IsChecked (used_modules modules calls) s calls) (sym is_signals)
    (checked modules calls of_modules of_calls good (subst (λ s. length s ≤ 200000) is_signals few_signals)))

-- the one PARENT is the only one of its list
pub one-parent : (parents : List Module) (m : Module) → only_parent parents ≡ Ok m → parents ≡ m ∷ []
one-parent [] m is = absurd (no is)
  where
    no : ◌≡◌ {A = Result Module DesignFault} (Err faults.NoParent) (Ok m) → ⊥
    no e = cc
one-parent (x ∷ []) m is = ap (λ (x : Module). x ∷ []) (same is)
  where
    same : ◌≡◌ {A = Result Module DesignFault} (Ok x) (Ok m) → x ≡ m
    same e = cc
one-parent (x ∷ other ∷ ms) m is = absurd (no is)
  where
    no : ◌≡◌ {A = Result Module DesignFault} (Err faults.ManyParents) (Ok m) → ⊥
    no e = cc

-- and a module of the file
pub parent-kept : (modules : List Module) (m : Module) → AllByRecursion IsKeptModule modules → only_parent (filter is_parent_module modules) ≡ Ok m → IsKeptModule m
parent-kept modules m kept is =
    (subst (λ l. AllByRecursion IsKeptModule l) (one-parent (filter is_parent_module modules) m is) (every-filtered IsKeptModule is_parent_module modules kept)).0
