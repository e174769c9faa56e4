use Rattle.std.proofs.Common.{◌≡◌, ◌<◌, ◌≤◌, ℕ, zero, suc, List, [], ◌∷◌, length, true, Bool, ◌||◌, refl, ap₂, ◌∙◌, arith}
use Rattle.std.specs.List.{list_any}
use Rattle.std.specs.Prelude.{◌==◌}
use Rattle.design_model.specs.Netlist.{IsNetlist, Netlist}
use Rattle.design_model.specs.declared.design.Inst.{Inst}
use Rattle.std_laws.proofs.Counts.{few-numbers}
use Rattle.std_laws.proofs.Tests.{eqb-agree}

same-any : (k : ℕ) (instances : List Inst) → list_any (λ (i : Inst). suc i.kind == suc k) instances ≡ list_any (λ (i : Inst). i.kind == k) instances
same-any k [] = refl
same-any k (i ∷ is) = ap₂ (λ (a b : Bool). a || b) (eqb-agree (suc i.kind) (suc k) i.kind k (λ e. omega arith) (λ e. omega arith)) (same-any k is)

-- where each of so many kinds has an instance, there are no fewer instances
pub kinds-few : (n : ℕ) (instances : List Inst) → ((k : ℕ) → k < n → list_any (λ (i : Inst). i.kind == k) instances ≡ true) → n ≤ length instances
kinds-few n instances called = few-numbers (λ (i : Inst). suc i.kind) n instances numbered
  where
    numbered : (k : ℕ) → 0 < k → k ≤ n → list_any (λ (i : Inst). suc i.kind == k) instances ≡ true
    numbered zero some few = absurd (omega arith)
    numbered (suc k) some few = same-any k instances ∙ called k (omega arith)

-- a design has no more kinds than a design may have instances
pub few-kinds : (d : Netlist) → IsNetlist d → length d.kinds ≤ 20000
few-kinds d good = let few = kinds-few (length d.kinds) d.instances good.called in omega (arith, good.few_instances)
