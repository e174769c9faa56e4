use Rattle.netlist_core.specs.declared.fault.DesignFault.TheVariants as faults
use Rattle.std.proofs.Common.{◌≡◌, ℕ, ◌+◌, List, [], ◌∷◌, length, Bool, true, false, not, cond, eqb, ◌||◌, Option, Some, None, refl, ap, sym, ◌∙◌}
use Rattle.std.proofs.lemmas.Option.{slice_get-map}
use Rattle.std.specs.List.{AllByRecursion, IsDistinct, list_any, slice_get}
use Rattle.std.specs.Option.{option_map}
use Rattle.std.specs.Str.{bytes_eq}
use Rattle.yal_reader.specs.Kept.{is_standard, module_names}
use Rattle.yal_reader.specs.declared.file.Call.{Call}
use Rattle.yal_reader.specs.declared.file.Module.{Module}
use Rattle.list_facts.proofs.Different.{place-get}
use Rattle.netlist_core.specs.Answers.{first_fault}
use Rattle.netlist_core.specs.Calls.{call_fault, calls_fault, fault_in, module_named}
use Rattle.netlist_core.specs.Cells.{terminals_of}
use Rattle.netlist_core.specs.OnGrid.{called_names, used_modules}
use Rattle.netlist_core.proofs.FoundModules.{found-at}
use Rattle.netlist_core.proofs.PinPlaces.{no-first, no-second}
use Rattle.netlist_core.proofs.UsedNames.{used_from}
use Rattle.std_laws.proofs.Every.{every-from-get}
use Rattle.std_laws.proofs.Bytes.{bytes_one}

-- whether there is a module, and it is a STANDARD one
abbrev pub is_standard_one : Option Module → Bool
is_standard_one None = false
is_standard_one (Some m) = is_standard m.kind

standard-one : (i n : ℕ) (o : Option Module) → fault_in i n o ≡ None → is_standard_one o ≡ true
standard-one i n None h = cc
standard-one i n (Some m) h = by (is_standard m.kind) h
  where
    by : (a : Bool) → cond (not a) (Some (faults.NotStandard i)) (cond (eqb n (length (terminals_of m.lines))) None (Some (faults.SignalCount i))) ≡ None → a ≡ true
    by true e = refl
    by false e = cc

-- calls with nothing wrong name STANDARD modules
named-standard : (modules : List Module) (i : ℕ) (calls : List Call) → first_fault (call_fault modules) i calls ≡ None
    → (name : List ℕ) → list_any (bytes_eq name) (called_names calls) ≡ true → is_standard_one (module_named modules name) ≡ true
unfolding call_fault
named-standard modules i [] none name h = cc
named-standard modules i (c ∷ cs) none name h =
    by (bytes_eq name c.«module») (bytes_one name c.«module»)
    (standard-one i (length c.signals) (module_named modules c.«module») (no-first _ (first_fault (call_fault modules) (i + 1) cs) none))
    (λ h. named-standard modules (i + 1) cs (no-second (fault_in i (length c.signals) (module_named modules c.«module»)) _ none) name h) h
  where
    by : (b : Bool) → (b ≡ true → name ≡ c.«module») → is_standard_one (module_named modules c.«module») ≡ true
        → (list_any (bytes_eq name) (called_names cs) ≡ true → is_standard_one (module_named modules name) ≡ true)
        → (b || list_any (bytes_eq name) (called_names cs)) ≡ true → is_standard_one (module_named modules name) ≡ true
    by true same here more h = ap (λ (w : List ℕ). is_standard_one (module_named modules w)) (same refl) ∙ here
    by false same here more h = more h

-- of modules with different names each is found by its name
own-found : (modules : List Module) → IsDistinct bytes_eq (module_names modules) → AllByRecursion (λ (m : Module). module_named modules m.name ≡ Some m) modules
own-found modules d = every-from-get (λ (m : Module). module_named modules m.name ≡ Some m) modules (λ n m is.
    sym (found-at modules m.name)
    ∙ ap (slice_get modules) (place-get (module_names modules) n m.name d (slice_get-map (λ (m : Module). m.name) modules n ∙ ap (option_map (λ (m : Module). m.name)) is))
    ∙ is)

standard-from : (all : List Module) (calls : List Call) (n : ℕ) (modules : List Module)
    → ((name : List ℕ) → list_any (bytes_eq name) (called_names calls) ≡ true → is_standard_one (module_named all name) ≡ true)
    → AllByRecursion (λ (m : Module). module_named all m.name ≡ Some m) modules
    → AllByRecursion (λ (m : ℕ × Module). is_standard m.1.kind ≡ true) (used_from calls n modules)
standard-from all calls n [] named own = tt
standard-from all calls n (m ∷ ms) named own =
    by (list_any (bytes_eq m.name) (called_names calls)) (λ is. sym (ap is_standard_one own.0) ∙ named m.name is) (standard-from all calls (n + 1) ms named own.1)
  where
    by : (b : Bool) → (b ≡ true → is_standard m.kind ≡ true) → AllByRecursion (λ (m : ℕ × Module). is_standard m.1.kind ≡ true) (used_from calls (n + 1) ms)
        → AllByRecursion (λ (m : ℕ × Module). is_standard m.1.kind ≡ true) (cond b ((n, m) ∷ used_from calls (n + 1) ms) (used_from calls (n + 1) ms))
    by true here more = (here refl, more)
    by false here more = more

-- the modules that calls with nothing wrong use are STANDARD
pub used-standard : (modules : List Module) (calls : List Call) → IsDistinct bytes_eq (module_names modules) → calls_fault modules calls ≡ None
    → AllByRecursion (λ (m : ℕ × Module). is_standard m.1.kind ≡ true) (used_modules modules calls)
unfolding calls_fault used_modules
used-standard modules calls d none = standard-from modules calls 0 modules (named-standard modules 0 calls none) (own-found modules d)
