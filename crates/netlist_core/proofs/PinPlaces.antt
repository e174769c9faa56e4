use Rattle.netlist_core.specs.declared.fault.DesignFault.TheVariants as faults
use Rattle.std.proofs.Common.{◌≡◌, ℕ, zero, suc, ◌+◌, List, [], ◌∷◌, ◌++◌, length, map, Bool, true, false, not, cond, eqb, Option, Some, None, is_some, refl, ap, ◌∙◌, arith}
use Rattle.std.proofs.lemmas.Bool.Decides.{nat_tests}
use Rattle.std.proofs.lemmas.List.{map-append}
use Rattle.std.specs.List.{AllByRecursion, AllZip, list_any}
use Rattle.std.specs.Str.{bytes_eq}
use Rattle.yal_reader.specs.Kept.{is_standard}
use Rattle.yal_reader.specs.declared.file.Call.{Call}
use Rattle.yal_reader.specs.declared.file.Module.{Module}
use Rattle.list_facts.specs.Names.{place_among}
use Rattle.netlist_core.specs.Answers.{first_fault, or_fault}
use Rattle.netlist_core.specs.Calls.{call_fault, calls_fault, fault_in, module_named, terminals_in}
use Rattle.netlist_core.specs.Cells.{terminals_of}
use Rattle.netlist_core.specs.Checked.{module_at, pin_place, pins_used}
use Rattle.design_model.specs.Netlist.{all_pins, pins_from, terminals_at}
use Rattle.netlist_core.specs.OnGrid.{called_names, inst_in, used_modules, used_names}
use Rattle.netlist_core.specs.Signals.{all_signals, signals_from, signals_of}
use Rattle.design_model.specs.declared.design.CellKind.{CellKind}
use Rattle.design_model.specs.declared.design.Terminal.{Terminal}
use Rattle.netlist_core.specs.declared.fault.DesignFault.{DesignFault}
use Rattle.netlist_core.proofs.UsedNames.{any-used, found-used}
use Rattle.std_laws.proofs.Every.{every-own, every-weaker}

-- where an instance has a word for each terminal, its words stand at its pins
pub places-from : (i t : ℕ) (ts : List Terminal) (ws : List (List ℕ)) → length ws ≡ length ts → map pin_place (signals_from i t ts ws) ≡ pins_from i t ts
places-from i t [] ws h = refl
places-from i t (x ∷ xs) [] h = absurd (omega arith)
places-from i t (x ∷ xs) (w ∷ ws) h = by x.power (places-from i (t + 1) xs ws (omega arith))
  where
    by : (b : Bool) → map pin_place (signals_from i (t + 1) xs ws) ≡ pins_from i (t + 1) xs
        → map pin_place (cond b (signals_from i (t + 1) xs ws) (record { instance = i; terminal = t; word = w } ∷ signals_from i (t + 1) xs ws))
        ≡ cond b (pins_from i (t + 1) xs) ((i, t) ∷ pins_from i (t + 1) xs)
    by true more = more
    by false more = ap (λ (l : List (ℕ × ℕ)). (i, t) ∷ l) more

-- a call with nothing wrong has as many words as its module has terminals
words-fit : (i n : ℕ) (o : Option Module) → fault_in i n o ≡ None → n ≡ length (terminals_in o)
words-fit i n None h = absurd (no h)
  where
    no : ◌≡◌ {A = Option DesignFault} (Some (faults.UnknownModule i)) None → ⊥
    no e = cc
words-fit i n (Some m) h = by (is_standard m.kind) (eqb n (length (terminals_of m.lines))) refl h
  where
    by : (a b : Bool) → eqb n (length (terminals_of m.lines)) ≡ b
        → cond (not a) (Some (faults.NotStandard i)) (cond b None (Some (faults.SignalCount i))) ≡ None → n ≡ length (terminals_of m.lines)
    by true true is e = grind (arith, nat_tests)
    by true false is e = cc
    by false b is e = cc

-- and its module is there
module-known : (i n : ℕ) (o : Option Module) → fault_in i n o ≡ None → is_some o ≡ true
module-known i n None h = cc
module-known i n (Some m) h = refl

-- where none of two faults stands, neither does
pub no-first : (a b : Option DesignFault) → or_fault a b ≡ None → a ≡ None
no-first None b h = refl
no-first (Some fault) b h = h

pub no-second : (a b : Option DesignFault) → or_fault a b ≡ None → b ≡ None
no-second None b h = h
no-second (Some fault) b h = cc

-- a call's module is the used module at the place of its name
abbrev pub IsFound : List Module → List (ℕ × Module) → Call → Type 0
IsFound modules used c = module_named modules c.«module» ≡ module_at used (place_among (used_names used) c.«module»)

pub every-found : (modules : List Module) (calls : List Call) → AllByRecursion (IsFound modules (used_modules modules calls)) calls
every-found modules calls =
    every-weaker (λ (c : Call). list_any (bytes_eq c.«module») (called_names calls) ≡ true) (IsFound modules (used_modules modules calls))
    (λ c is. found-used modules calls c.«module» is) calls (every-own (λ (c : Call). c.«module») calls)

places-of : (modules : List Module) (used : List (ℕ × Module)) (i : ℕ) (calls : List Call) → first_fault (call_fault modules) i calls ≡ None
    → AllByRecursion (IsFound modules used) calls → map pin_place (signals_of modules i calls) ≡ pins_used used i calls
unfolding call_fault
places-of modules used i [] none found = refl
places-of modules used i (c ∷ cs) none found =
    map-append pin_place (signals_from i 0 (terminals_in (module_named modules c.«module»)) c.signals) (signals_of modules (i + 1) cs)
    ∙ ap (λ (l : List (ℕ × ℕ)). l ++ map pin_place (signals_of modules (i + 1) cs))
    (places-from i 0 (terminals_in (module_named modules c.«module»)) c.signals
    (words-fit i (length c.signals) (module_named modules c.«module») (no-first _ (first_fault (call_fault modules) (i + 1) cs) none))
    ∙ ap (λ (o : Option Module). pins_from i 0 (terminals_in o)) found.0)
    ∙ ap (λ (l : List (ℕ × ℕ)). pins_from i 0 (terminals_in (module_at used (place_among (used_names used) c.«module»))) ++ l)
    (places-of modules used (i + 1) cs (no-second (fault_in i (length c.signals) (module_named modules c.«module»)) _ none) found.1)

-- the words of calls with nothing wrong stand at the calls' pins
pub places-all : (modules : List Module) (calls : List Call) → calls_fault modules calls ≡ None
    → map pin_place (all_signals modules calls) ≡ pins_used (used_modules modules calls) 0 calls
unfolding calls_fault all_signals
places-all modules calls none = places-of modules (used_modules modules calls) 0 calls none (every-found modules calls)

known-from : (modules : List Module) (i : ℕ) (calls : List Call) → first_fault (call_fault modules) i calls ≡ None
    → AllByRecursion (λ (c : Call). is_some (module_named modules c.«module») ≡ true) calls
unfolding call_fault
known-from modules i [] none = tt
known-from modules i (c ∷ cs) none = (
  module-known i (length c.signals) (module_named modules c.«module») (no-first _ (first_fault (call_fault modules) (i + 1) cs) none),
  known-from modules (i + 1) cs (no-second (fault_in i (length c.signals) (module_named modules c.«module»)) _ none),
)

called-from : (modules : List Module) (all calls : List Call) → AllByRecursion (λ (c : Call). is_some (module_named modules c.«module») ≡ true) calls
    → AllByRecursion (λ (c : Call). list_any (bytes_eq c.«module») (called_names all) ≡ true) calls
    → AllByRecursion (λ (c : Call). list_any (bytes_eq c.«module») (used_names (used_modules modules all)) ≡ true) calls
called-from modules all [] known called = tt
called-from modules all (c ∷ cs) known called =
    (by (module_named modules c.«module») refl known.0, called-from modules all cs known.1 called.1)
  where
    by : (o : Option Module) → module_named modules c.«module» ≡ o → is_some o ≡ true → list_any (bytes_eq c.«module») (used_names (used_modules modules all)) ≡ true
    by None is e = cc
    by (Some k) is e = any-used modules all c.«module» k called.0 is

-- calls with nothing wrong name used modules
pub called-all : (modules : List Module) (calls : List Call) → calls_fault modules calls ≡ None
    → AllByRecursion (λ (c : Call). list_any (bytes_eq c.«module») (used_names (used_modules modules calls)) ≡ true) calls
unfolding calls_fault
called-all modules calls none = called-from modules calls calls (known-from modules 0 calls none) (every-own (λ (c : Call). c.«module») calls)

-- where each kind has its module's terminals, so has the kind at each place
pub zip-terminals : (used : List (ℕ × Module)) (kinds : List CellKind)
    → AllZip (λ (m : ℕ × Module) (k : CellKind). k.terminals ≡ terminals_of m.1.lines) used kinds
    → (n : ℕ) → terminals_at kinds n ≡ terminals_in (module_at used n)
zip-terminals [] [] h n = refl
zip-terminals [] (k ∷ ks) h n = absurd h
zip-terminals (m ∷ ms) [] h n = absurd h
zip-terminals (m ∷ ms) (k ∷ ks) h zero = h.0
zip-terminals (m ∷ ms) (k ∷ ks) h (suc n) = zip-terminals ms ks h.1 n

-- and the pins of calls are those of their instances
pub pins-used : (used : List (ℕ × Module)) (kinds : List CellKind) → ((n : ℕ) → terminals_at kinds n ≡ terminals_in (module_at used n))
    → (i : ℕ) (calls : List Call) → all_pins kinds i (map (inst_in (used_names used)) calls) ≡ pins_used used i calls
pins-used used kinds same i [] = refl
pins-used used kinds same i (c ∷ cs) =
    ap (λ (ts : List Terminal). pins_from i 0 ts ++ all_pins kinds (i + 1) (map (inst_in (used_names used)) cs)) (same (place_among (used_names used) c.«module»))
    ∙ ap (λ (l : List (ℕ × ℕ)). pins_from i 0 (terminals_in (module_at used (place_among (used_names used) c.«module»))) ++ l) (pins-used used kinds same (i + 1) cs)
