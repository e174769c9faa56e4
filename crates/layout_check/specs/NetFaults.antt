-- nets that are open or short
use Rattle.std.specs.Prelude.{ℕ, ◌+◌, ◌==◌, List, [], ◌∷◌, ◌++◌, map, Bool, not, ◌&&◌, if◌then◌else◌}
use Rattle.std.specs.List.{list_any, zip}
use Rattle.design_model.specs.Netlist.{Netlist}
use Rattle.design_model.specs.declared.design.Pin.{Pin}
use Rattle.rule_check.specs.Failing.{failing_from}

-- the numbers of the first member of each group and of each later one of the group that fails with it; those before the list are given, and
-- its first has this number
abbrev pub pairs_of_firsts_from : {A : Type 0} → (A → A → Bool) → (A → A → Bool) → List A → ℕ → List A → List (ℕ × ℕ)
pairs_of_firsts_from same fail before n [] = []
pairs_of_firsts_from same fail before n (x ∷ xs) =
    (if list_any (same x) before then [] else map (λ later. (n, later)) (failing_from (λ y. same x y && fail x y) (n + 1) xs))
    ++ pairs_of_firsts_from same fail (x ∷ before) (n + 1) xs

abbrev pub pairs_of_firsts : {A : Type 0} → (A → A → Bool) → (A → A → Bool) → List A → List (ℕ × ℕ)
pairs_of_firsts same fail xs = pairs_of_firsts_from same fail [] 0 xs

-- pins, each as its net and its class
abbrev pub pins_by_class : Netlist → List ℕ → List (ℕ × ℕ)
pins_by_class d classes = zip (map (λ (p : Pin). p.net) d.pins) classes

abbrev pub is_same_net : ℕ × ℕ → ℕ × ℕ → Bool
is_same_net p q = p.0 == q.0

abbrev pub is_same_class : ℕ × ℕ → ℕ × ℕ → Bool
is_same_class p q = p.1 == q.1

-- the first pin of a net with each later one of another class
abbrev pub opened : Netlist → List ℕ → List (ℕ × ℕ)
opened d classes = pairs_of_firsts is_same_net (λ p q. not (is_same_class p q)) (pins_by_class d classes)

-- the first pin of a class with each later one of another net
abbrev pub shorted : Netlist → List ℕ → List (ℕ × ℕ)
shorted d classes = pairs_of_firsts is_same_class (λ p q. not (is_same_net p q)) (pins_by_class d classes)
