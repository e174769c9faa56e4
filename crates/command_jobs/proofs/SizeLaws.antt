use Rattle.std.proofs.Common.{◌≡◌, ◌≤◌, ◌*◌, ℕ, Bool, true, false, Option, Some, None, Ok, if◌then◌else◌, IfNone, refl, sym, arith}
use Rattle.std.proofs.lemmas.Nat.{mul-le}
use Rattle.anneal_int.specs.Annealed.{all_changes}
use Rattle.design_model.specs.Netlist.{Netlist}
use Rattle.tech_rules.specs.Rules.{RuleValues}
use Rattle.command_jobs.specs.Limits.{moves_refusal, size_refusal}
use Rattle.command_jobs.specs.Rows.{schedule_of}
use Rattle.command_ends.specs.Refusing.{or_refusal, unless}
use Rattle.pin_assign.specs.declared.bound.Bound.{Bound}
use Rattle.command_ends.specs.declared.refusal.Refusal.{Refusal}
use Rattle.std_laws.proofs.Tests.{nat_lt-is-within}

unrefused : (p : Bool) (refusal : Refusal) (next : Option Refusal) → or_refusal (if p then Some refusal else None) next ≡ None
    → (p ≡ false) × (next ≡ None)
unrefused true refusal next none = cc
unrefused false refusal next none = (refl, none)

last-unrefused : (p : Bool) (refusal : Refusal) → (if p then Some refusal else None) ≡ None → p ≡ false
last-unrefused true refusal none = cc
last-unrefused false refusal none = refl

-- a layout whose size is not refused is within the limits
pub unrefused-within : (bound : Bound) → size_refusal bound ≡ None → (bound.grid ≤ 4000000) × ((bound.width ≤ 1000000000) × (bound.height ≤ 1000000000))
unfolding size_refusal
unrefused-within bound none =
    let grid = unrefused _ _ _ none in
    let width = unrefused _ _ _ grid.1 in (
      nat_lt-is-within 4000000 bound.grid grid.0,
      (nat_lt-is-within 1000000000 bound.width width.0, nat_lt-is-within 1000000000 bound.height (last-unrefused _ _ width.1)),
    )

-- a design whose changes in one try or more are not refused has no more in one than may be
pub unrefused-few : (r : RuleValues) (d : Netlist) (tries : ℕ) → 1 ≤ tries → moves_refusal r d tries ≡ None → all_changes d (schedule_of r) ≤ 50000000
unfolding moves_refusal
unrefused-few r d tries some none =
    let all : ℕ = all_changes d (schedule_of r) in
    let few : all * tries ≤ 50000000 = nat_lt-is-within 50000000 (all * tries) (last-unrefused _ _ none) in
    let less : all * 1 ≤ all * tries = mul-le all 1 all tries (omega arith) some in
    omega (arith, few, less)

pub none-few : (r : RuleValues) (d : Netlist) (tries : ℕ) (refused : Option Refusal) → 1 ≤ tries → refused ≡ moves_refusal r d tries
    → IfNone refused (all_changes d (schedule_of r) ≤ 50000000)
none-few r d tries (Some refusal) some is = tt
none-few r d tries None some is = unrefused-few r d tries some (sym is)

-- nothing is refused where what comes next is answered
pub unless-passed : {A : Type 0} (refused : Option Refusal) (next answer : A) → unless refused (Ok next) ≡ Ok answer → refused ≡ None
unless-passed None next answer is = refl
unless-passed (Some refusal) next answer is = cc
