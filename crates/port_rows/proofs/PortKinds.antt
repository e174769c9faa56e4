use Rattle.std.proofs.Common.{◌≡◌, ◌<◌, ◌≤◌, ℕ, zero, suc, ◌+◌, ◌*◌, List, [], ◌∷◌, ◌++◌, length, map, Bool, true, false, eqb, ◌||◌, Some, refl, ap, sym, ◌∙◌, arith}
use Rattle.std.proofs.lemmas.Bool.Decides.{nat_tests}
use Rattle.std.proofs.lemmas.List.Folds.{list_any-append}
use Rattle.std.proofs.lemmas.Option.{none-some, same_Some}
use Rattle.std.specs.List.{AllByRecursion, list_any, slice_get}
use Rattle.std.specs.Prelude.{◌==◌, codes}
use Rattle.geom_core.specs.Names.{IsName}
use Rattle.tech_rules.specs.Rules.{RuleValues, ValidRules}
use Rattle.design_model.specs.Netlist.{IsKind, IsPosition, terminals_at, terminals_of_kind}
use Rattle.design_model.specs.declared.design.CellKind.{CellKind}
use Rattle.design_model.specs.declared.design.Inst.{Inst}
use Rattle.design_model.specs.declared.design.Position.{Position}
use Rattle.design_model.specs.declared.design.Terminal.{Terminal}
use Rattle.port_rows.specs.Added.{kind_for, north_kind, north_number, port_instance, port_instances, port_kind, port_kinds, south_kind}
use Rattle.port_rows.proofs.PortPins.{port_terminals}
use Rattle.std_laws.proofs.Every.{every-append}
use Rattle.std_laws.proofs.Members.{All-of_one}
use Rattle.std_laws.proofs.Places.{get-behind}

-- a port's kind is a kind
pub kind-good : (rules : RuleValues) → ValidRules rules → (name : List ℕ) → IsName name → (top : Bool) → IsKind (port_kind rules name top)
unfolding port_kind
kind-good rules valid name named top = record {
  name = named;
  some = omega arith;
  few = omega arith;
  low = low (valid.ranges.grid.pin.1) (valid.ranges.vertical.space.1);
  positions = All-of_one (IsPosition (port_kind rules name top)) (record { terminal = 0; top = top; column = 0 }) (record {
    column = omega arith;
    terminal = λ t at. ap (λ (t : Terminal). t.power) (sym (same_Some _ t at));
    within = omega arith;
  });
  apart = alone;
  reached = reached;
}
  where
    low : rules.grid.pin ≤ 1000 → rules.vertical.space ≤ 1000 → 2 * rules.grid.pin + rules.vertical.space ≤ 200000000
    low a b = omega arith

    alone : (i j : ℕ) (p q : Position) → slice_get (record { terminal = 0; top = top; column = 0 } ∷ []) i ≡ Some p
        → slice_get (record { terminal = 0; top = top; column = 0 } ∷ []) j ≡ Some q → p.top ≡ q.top → p.column ≡ q.column → i ≡ j
    alone zero zero p q a b c e = refl
    alone zero (suc j) p q a b c e = absurd (none-some q b)
    alone (suc i) j p q a b c e = absurd (none-some p a)

    reached : (n : ℕ) (t : Terminal) → slice_get (port_terminals (codes "p")) n ≡ Some t → t.power ≡ false
        → list_any (λ (p : Position). p.terminal == n) (record { terminal = 0; top = top; column = 0 } ∷ []) ≡ true
    reached zero t a b = refl
    reached (suc n) t a b = absurd (none-some t a)

every-kind : (P : CellKind → Type 0) (kind : CellKind) (ports : List (List ℕ)) → P kind → AllByRecursion P (kind_for kind ports)
every-kind P kind [] h = tt
every-kind P kind (p ∷ ps) h = (h, tt)

-- what holds of both kinds of ports holds of those that are added
pub every-port-kind : (P : CellKind → Type 0) (rules : RuleValues) (south north : List (List ℕ)) → P (south_kind rules) → P (north_kind rules)
    → AllByRecursion P (port_kinds rules south north)
every-port-kind P rules south north lower upper =
    every-append P (kind_for (south_kind rules) south) (kind_for (north_kind rules) north) (every-kind P (south_kind rules) south lower) (every-kind P (north_kind rules) north upper)

pub kinds-good : (rules : RuleValues) → ValidRules rules → (south north : List (List ℕ)) → AllByRecursion IsKind (port_kinds rules south north)
kinds-good rules valid south north =
    every-port-kind IsKind rules south north (kind-good rules valid (codes "port_south") refl true) (kind-good rules valid (codes "port_north") refl false)

-- what holds of an instance of each port of both sides holds of all
pub every-instance : (P : Inst → Type 0) (kinds : ℕ) (south north : List (List ℕ)) → AllByRecursion P (map (port_instance kinds) south)
    → AllByRecursion P (map (port_instance (north_number kinds south)) north) → AllByRecursion P (port_instances kinds south north)
every-instance P kinds south north lower upper = every-append P (map (port_instance kinds) south) (map (port_instance (north_number kinds south)) north) lower upper

same-kind : (kind : ℕ) (ports : List (List ℕ)) → 0 < length ports → list_any (λ (i : Inst). i.kind == kind) (map (port_instance kind) ports) ≡ true
same-kind kind [] some = absurd (omega arith)
same-kind kind (p ∷ ps) some = ap (λ (b : Bool). b || list_any (λ (i : Inst). i.kind == kind) (map (port_instance kind) ps)) (own kind)
  where
    own : (n : ℕ) → eqb n n ≡ true
    own n = grind (arith, nat_tests)

-- each kind of ports has a port
pub port-called : (rules : RuleValues) (kinds n : ℕ) (south north : List (List ℕ)) → n < length (port_kinds rules south north)
    → list_any (λ (i : Inst). i.kind == kinds + n) (port_instances kinds south north) ≡ true
port-called rules kinds n [] [] within = absurd (omega arith)
port-called rules kinds zero [] (x ∷ xs) within =
    let same : kinds + 0 ≡ kinds = omega arith in
    ap (λ (k : ℕ). list_any (λ (i : Inst). i.kind == k) (map (port_instance kinds) (x ∷ xs))) same ∙ same-kind kinds (x ∷ xs) (omega arith)
port-called rules kinds (suc n) [] (x ∷ xs) within = absurd (omega arith)
port-called rules kinds zero (s ∷ ss) north within =
    let same : kinds + 0 ≡ kinds = omega arith in
    list_any-append (λ (i : Inst). i.kind == kinds + 0) (map (port_instance kinds) (s ∷ ss)) (map (port_instance (kinds + 1)) north)
    ∙ ap (λ (b : Bool). b || list_any (λ (i : Inst). i.kind == kinds + 0) (map (port_instance (kinds + 1)) north))
    (ap (λ (k : ℕ). list_any (λ (i : Inst). i.kind == k) (map (port_instance kinds) (s ∷ ss))) same ∙ same-kind kinds (s ∷ ss) (omega arith))
port-called rules kinds (suc n) (s ∷ ss) [] within = absurd (omega arith)
port-called rules kinds (suc zero) (s ∷ ss) (x ∷ xs) within =
    list_any-append (λ (i : Inst). i.kind == kinds + 1) (map (port_instance kinds) (s ∷ ss)) (map (port_instance (kinds + 1)) (x ∷ xs))
    ∙ either (list_any (λ (i : Inst). i.kind == kinds + 1) (map (port_instance kinds) (s ∷ ss))) _ (same-kind (kinds + 1) (x ∷ xs) (omega arith))
  where
    either : (a b : Bool) → b ≡ true → (a || b) ≡ true
    either true b e = refl
    either false b e = e
port-called rules kinds (suc (suc n)) (s ∷ ss) (x ∷ xs) within = absurd (omega arith)

-- the terminals of the kinds of ports
pub south-terminals : (rules : RuleValues) (kinds : List CellKind) (south north : List (List ℕ)) → 0 < length south
    → terminals_at (kinds ++ port_kinds rules south north) (length kinds) ≡ port_terminals (codes "p")
unfolding port_kind
south-terminals rules kinds [] north some = absurd (omega arith)
south-terminals rules kinds (s ∷ ss) north some =
    let place : length kinds ≡ length kinds + 0 = omega arith in
    ap terminals_of_kind (get-behind kinds (port_kinds rules (s ∷ ss) north) (length kinds) 0 place)

pub north-terminals : (rules : RuleValues) (kinds : List CellKind) (south north : List (List ℕ)) → 0 < length north
    → terminals_at (kinds ++ port_kinds rules south north) (north_number (length kinds) south) ≡ port_terminals (codes "p")
unfolding port_kind
north-terminals rules kinds south [] some = absurd (omega arith)
north-terminals rules kinds [] (x ∷ xs) some =
    let place : length kinds ≡ length kinds + 0 = omega arith in
    ap terminals_of_kind (get-behind kinds (port_kinds rules [] (x ∷ xs)) (length kinds) 0 place)
north-terminals rules kinds (s ∷ ss) (x ∷ xs) some =
    ap terminals_of_kind (get-behind kinds (port_kinds rules (s ∷ ss) (x ∷ xs)) (length kinds + 1) 1 refl)

-- the numbers of the kinds of ports
pub south-number : (rules : RuleValues) (south north : List (List ℕ)) → 0 < length south → 0 < length (port_kinds rules south north)
south-number rules [] north some = absurd (omega arith)
south-number rules (s ∷ ss) north some = omega arith

pub north-within : (rules : RuleValues) (kinds : ℕ) (south north : List (List ℕ)) → 0 < length north → north_number kinds south < kinds + length (port_kinds rules south north)
north-within rules kinds south [] some = absurd (omega arith)
north-within rules kinds [] (x ∷ xs) some = omega arith
north-within rules kinds (s ∷ ss) (x ∷ xs) some = omega arith
