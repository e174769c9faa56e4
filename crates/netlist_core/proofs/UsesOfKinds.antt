use Rattle.std.proofs.Common.{◌≡◌, ◌<◌, ℕ, List, [], ◌∷◌, length, map, Bool, true, false, ◌||◌, ◌==◌, option_map, refl, ap, sym, ◌∙◌, arith, inl, inr, eq-eqb}
use Rattle.std.specs.List.{AllByRecursion, IsDistinct, enumerate_from, list_any}
use Rattle.std.specs.Str.{bytes_eq}
use Rattle.std.proofs.lemmas.Option.{slice_get_cases, slice_get-map}
use Rattle.yal_reader.specs.Kept.{module_names}
use Rattle.yal_reader.specs.declared.file.Call.{Call}
use Rattle.yal_reader.specs.declared.file.Module.{Module}
use Rattle.list_facts.specs.Names.{place_among}
use Rattle.list_facts.proofs.Different.{place-get}
use Rattle.netlist_core.specs.OnGrid.{called_names, inst_in, is_used, used_modules, used_names}
use Rattle.design_model.specs.declared.design.Inst.{Inst}
use Rattle.netlist_core.proofs.UsedNames.{used-different}
use Rattle.std_laws.proofs.Every.{every-get, every-passes}
use Rattle.std_laws.proofs.Bytes.{bytes_one}

-- each used module is called
used-called : (modules : List Module) (calls : List Call) → AllByRecursion (λ (m : ℕ × Module). is_used calls m ≡ true) (used_modules modules calls)
unfolding used_modules
used-called modules calls = every-passes (is_used calls) (enumerate_from 0 modules)

-- where a name with this place is called, an instance has the kind of that number
pub instance-of : (names : List (List ℕ)) (w : List ℕ) (n : ℕ) → place_among names w ≡ n → (calls : List Call)
    → list_any (bytes_eq w) (called_names calls) ≡ true → list_any (λ (i : Inst). i.kind == n) (map (inst_in names) calls) ≡ true
instance-of names w n at [] h = absurd (no h)
  where
    no : false ≡ true → ⊥
    no e = cc
instance-of names w n at (c ∷ cs) h = by (bytes_eq w c.«module») refl (instance-of names w n at cs) h
  where
    first : (a b : Bool) → a ≡ true → (a || b) ≡ true
    first a b e = ap (λ (x : Bool). x || b) e

    later : (a b : Bool) → b ≡ true → (a || b) ≡ true
    later true b e = refl
    later false b e = e

    by : (b : Bool) → bytes_eq w c.«module» ≡ b
        → (list_any (bytes_eq w) (called_names cs) ≡ true → list_any (λ (i : Inst). i.kind == n) (map (inst_in names) cs) ≡ true)
        → (b || list_any (bytes_eq w) (called_names cs)) ≡ true
        → ((place_among names c.«module» == n) || list_any (λ (i : Inst). i.kind == n) (map (inst_in names) cs)) ≡ true
    by true is others some = first _ _ (eq-eqb (place_among names c.«module») n (ap (place_among names) (sym (bytes_one w c.«module» is)) ∙ at))
    by false is others some = later _ _ (others some)

-- each used module's number is the kind of some instance
pub kinds-called : (modules : List Module) (calls : List Call) → IsDistinct bytes_eq (module_names modules) → (n : ℕ) → n < length (used_modules modules calls)
    → list_any (λ (i : Inst). i.kind == n) (map (inst_in (used_names (used_modules modules calls))) calls) ≡ true
kinds-called modules calls different n lt =
    let used = used_modules modules calls in
    elim (slice_get_cases used n).1 [
      | inl found ↦
          instance-of (used_names used) found.0.1.name n
          (place-get (used_names used) n found.0.1.name (used-different modules calls different)
          (slice_get-map (λ (m : ℕ × Module). m.1.name) used n ∙ ap (option_map (λ (m : ℕ × Module). m.1.name)) found.2))
          calls (every-get (λ (m : ℕ × Module). is_used calls m ≡ true) used n found.0 (used-called modules calls) found.2)
      | inr past ↦ absurd (let beyond = past.0 in omega arith)
    ]
