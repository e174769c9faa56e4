use Rattle.std.proofs.Common.{◌≡◌, ℕ, ◌+◌, List, [], ◌∷◌, ◌++◌, append_assoc, length, filter, Bool, true, false, not, cond, ◌||◌, Some, refl, ap, sym, ◌∙◌, subst, arith, ◌≤◌}
use Rattle.std.specs.List.{AllByRecursion, IsDistinct, enumerate_from, list_any}
use Rattle.std.specs.Str.{bytes_eq}
use Rattle.yal_reader.specs.Kept.{module_names}
use Rattle.yal_reader.specs.declared.file.Call.{Call}
use Rattle.yal_reader.specs.declared.file.Module.{Module}
use Rattle.list_facts.specs.Names.{mentions, place_among}
use Rattle.list_facts.proofs.Mentioned.{any-mentions}
use Rattle.netlist_core.specs.Calls.{module_named}
use Rattle.netlist_core.specs.Checked.{module_at}
use Rattle.netlist_core.specs.OnGrid.{called_names, is_used, used_modules, used_names}
use Rattle.std_laws.proofs.Distinct.{distinct-filter}
use Rattle.std_laws.proofs.Bytes.{bytes_one}
use Rattle.std_laws.proofs.Numbers.{one-more}

-- a name is called just where it is among the different names that are called
pub called-mentions : (calls : List Call) (name : List ℕ) → list_any (bytes_eq name) (mentions (called_names calls)) ≡ list_any (bytes_eq name) (called_names calls)
called-mentions calls name = any-mentions [] (called_names calls) name

-- the modules from number n on that are called
abbrev pub used_from : List Call → ℕ → List Module → List (ℕ × Module)
used_from calls n modules = filter (is_used calls) (enumerate_from n modules)

-- the module of a name that is called stands at the name's place among the used modules
found-from : (calls : List Call) (n : ℕ) (modules : List Module) (name : List ℕ) → list_any (bytes_eq name) (called_names calls) ≡ true
    → module_named modules name ≡ module_at (used_from calls n modules) (place_among (used_names (used_from calls n modules)) name)
found-from calls n [] name h = refl
found-from calls n (m ∷ ms) name h =
    by (bytes_eq name m.name) (list_any (bytes_eq m.name) (called_names calls)) refl
    (λ is. subst (λ w. list_any (bytes_eq w) (called_names calls) ≡ true) (bytes_one name m.name is) h) (found-from calls (n + 1) ms name h)
  where
    by : (b u : Bool) → bytes_eq name m.name ≡ b → (b ≡ true → u ≡ true) → module_named ms name ≡ module_at (used_from calls (n + 1) ms) (place_among (used_names (used_from calls (n + 1) ms)) name)
        → cond b (Some m) (module_named ms name) ≡ module_at (cond u ((n, m) ∷ (used_from calls (n + 1) ms)) (used_from calls (n + 1) ms)) (place_among (used_names (cond u ((n, m) ∷ (used_from calls (n + 1) ms)) (used_from calls (n + 1) ms))) name)
    by true true is used same = sym (ap (λ (b : Bool). module_at ((n, m) ∷ (used_from calls (n + 1) ms)) (cond (not b) (1 + place_among (used_names (used_from calls (n + 1) ms)) name) 0)) is)
    by true false is used same = absurd (no (used refl))
      where
        no : false ≡ true → ⊥
        no e = cc
    by false true is used same =
        same ∙ ap (module_at ((n, m) ∷ (used_from calls (n + 1) ms))) (sym (one-more (place_among (used_names (used_from calls (n + 1) ms)) name)))
        ∙ sym (ap (λ (b : Bool). module_at ((n, m) ∷ (used_from calls (n + 1) ms)) (cond (not b) (1 + place_among (used_names (used_from calls (n + 1) ms)) name) 0)) is)
    by false false is used same = same

pub found-used : (modules : List Module) (calls : List Call) (name : List ℕ) → list_any (bytes_eq name) (called_names calls) ≡ true
    → module_named modules name ≡ module_at (used_modules modules calls) (place_among (used_names (used_modules modules calls)) name)
unfolding used_modules
found-used modules calls name h = found-from calls 0 modules name h

-- a name that is called and has a module is the name of a used module
any-from : (calls : List Call) (n : ℕ) (modules : List Module) (name : List ℕ) (k : Module) → list_any (bytes_eq name) (called_names calls) ≡ true
    → module_named modules name ≡ Some k → list_any (bytes_eq name) (used_names (used_from calls n modules)) ≡ true
any-from calls n [] name k h = λ some. cc
any-from calls n (m ∷ ms) name k h =
    by (bytes_eq name m.name) (list_any (bytes_eq m.name) (called_names calls)) refl
    (λ is. subst (λ w. list_any (bytes_eq w) (called_names calls) ≡ true) (bytes_one name m.name is) h) (any-from calls (n + 1) ms name k h)
  where
    or_true : (a b : Bool) → b ≡ true → (a || b) ≡ true
    or_true true b e = refl
    or_true false b e = e

    by : (b u : Bool) → bytes_eq name m.name ≡ b → (b ≡ true → u ≡ true)
        → (module_named ms name ≡ Some k → list_any (bytes_eq name) (used_names (used_from calls (n + 1) ms)) ≡ true)
        → cond b (Some m) (module_named ms name) ≡ Some k → list_any (bytes_eq name) (used_names (cond u ((n, m) ∷ (used_from calls (n + 1) ms)) (used_from calls (n + 1) ms))) ≡ true
    by true true is used more some = ap (λ (b : Bool). b || list_any (bytes_eq name) (used_names (used_from calls (n + 1) ms))) is
    by true false is used more some = absurd (no (used refl))
      where
        no : false ≡ true → ⊥
        no e = cc
    by false true is used more some = or_true (bytes_eq name m.name) (list_any (bytes_eq name) (used_names (used_from calls (n + 1) ms))) (more some)
    by false false is used more some = more some

pub any-used : (modules : List Module) (calls : List Call) (name : List ℕ) (k : Module) → list_any (bytes_eq name) (called_names calls) ≡ true
    → module_named modules name ≡ Some k → list_any (bytes_eq name) (used_names (used_modules modules calls)) ≡ true
unfolding used_modules
any-used modules calls name k h some = any-from calls 0 modules name k h some

numbered-names : (n : ℕ) (modules : List Module) → used_names (enumerate_from n modules) ≡ module_names modules
numbered-names n [] = refl
numbered-names n (m ∷ ms) = ap (λ (names : List (List ℕ)). m.name ∷ names) (numbered-names (n + 1) ms)

-- the used modules have different names
pub used-different : (modules : List Module) (calls : List Call) → IsDistinct bytes_eq (module_names modules)
    → IsDistinct bytes_eq (used_names (used_modules modules calls))
unfolding used_modules
used-different modules calls d =
    distinct-filter (λ (m : ℕ × Module). m.1.name) (is_used calls) (enumerate_from 0 modules)
    (subst (λ names. IsDistinct bytes_eq names) (sym (numbered-names 0 modules)) d)

kept-from : (P : Module → Type 0) (calls : List Call) (n : ℕ) (modules : List Module) → AllByRecursion P modules → AllByRecursion (λ (m : ℕ × Module). P m.1) (used_from calls n modules)
kept-from P calls n [] h = tt
kept-from P calls n (m ∷ ms) h = by (list_any (bytes_eq m.name) (called_names calls)) (kept-from P calls (n + 1) ms h.1)
  where
    by : (b : Bool) → AllByRecursion (λ (m : ℕ × Module). P m.1) (used_from calls (n + 1) ms)
        → AllByRecursion (λ (m : ℕ × Module). P m.1) (cond b ((n, m) ∷ used_from calls (n + 1) ms) (used_from calls (n + 1) ms))
    by true more = (h.0, more)
    by false more = more

-- what holds of every module holds of the used ones
pub used-every : (P : Module → Type 0) (modules : List Module) (calls : List Call) → AllByRecursion P modules
    → AllByRecursion (λ (m : ℕ × Module). P m.1) (used_modules modules calls)
unfolding used_modules
used-every P modules calls h = kept-from P calls 0 modules h

few-from : (calls : List Call) (n : ℕ) (modules : List Module) → length (used_from calls n modules) ≤ length modules
few-from calls n [] = omega arith
few-from calls n (m ∷ ms) = by (list_any (bytes_eq m.name) (called_names calls)) (few-from calls (n + 1) ms)
  where
    by : (b : Bool) → length (used_from calls (n + 1) ms) ≤ length ms
        → length (cond b ((n, m) ∷ used_from calls (n + 1) ms) (used_from calls (n + 1) ms)) ≤ length (m ∷ ms)
    by true more = omega arith
    by false more = omega arith

-- the used modules are at most all
pub few-used : (modules : List Module) (calls : List Call) → length (used_modules modules calls) ≤ length modules
unfolding used_modules
few-used modules calls = few-from calls 0 modules

-- a module that is not called adds nothing
pub used-skip : (calls : List Call) (front all : List (ℕ × Module)) (n : ℕ) (m : Module) (modules rest : List Module) → modules ≡ m ∷ rest
    → list_any (bytes_eq m.name) (mentions (called_names calls)) ≡ false
    → front ++ used_from calls n modules ≡ all → front ++ used_from calls (n + 1) rest ≡ all
used-skip calls front all n m modules rest at other h =
    sym (ap (λ (b : Bool). front ++ cond b ((n, m) ∷ used_from calls (n + 1) rest) (used_from calls (n + 1) rest)) (sym (called-mentions calls m.name) ∙ other))
    ∙ ap (λ (l : List Module). front ++ used_from calls n l) (sym at) ∙ h

-- a module that is called comes next
pub used-next : (calls : List Call) (front all : List (ℕ × Module)) (n : ℕ) (m : Module) (modules rest : List Module) → modules ≡ m ∷ rest
    → list_any (bytes_eq m.name) (mentions (called_names calls)) ≡ true
    → front ++ used_from calls n modules ≡ all → (front ++ (n, m) ∷ []) ++ used_from calls (n + 1) rest ≡ all
used-next calls front all n m modules rest at called h =
    append_assoc front ((n, m) ∷ []) (used_from calls (n + 1) rest)
    ∙ sym (ap (λ (b : Bool). front ++ cond b ((n, m) ∷ used_from calls (n + 1) rest) (used_from calls (n + 1) rest)) (sym (called-mentions calls m.name) ∙ called))
    ∙ ap (λ (l : List Module). front ++ used_from calls n l) (sym at) ∙ h
