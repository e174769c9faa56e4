use Rattle.std.proofs.Common.{◌≡◌, ◌⊎◌, inl, inr, ap, ℕ, ◌+◌, ◌*◌, ◌-◌, ◌≤◌, eqb, refl, arith}
use Rattle.std.proofs.lemmas.Bool.{cases_eq, cond-true, cond-false, eq-eqb, ne_eqb}
use Rattle.tech_rules.specs.Rules.{RuleValues, ValidRules, pad}
use Rattle.wire_geom.specs.Boxes.{lower_end, upper_end}
use Rattle.wire_geom.specs.Grid.{line_at}
use Rattle.wire_geom.proofs.GridLaws.{line-step}

-- the lower end of a vertical wire
pub record LowerFacts (r : RuleValues) (base low : ℕ) : Type 0 where
  pub inside : line_at r base low - pad r ≤ lower_end r base low
  pub holds : lower_end r base low ≤ line_at r base low
  pub from : line_at r base 0 ≤ lower_end r base low
  pub below : (line_at r base 0 + 2 * r.vertical.space ≤ lower_end r base low) ⊎ ((low ≡ 0) × (lower_end r base low ≡ line_at r base 0))

-- its upper end
pub record UpperFacts (r : RuleValues) (base tracks high : ℕ) : Type 0 where
  pub inside : upper_end r base tracks high ≤ line_at r base high + pad r
  pub holds : line_at r base high ≤ upper_end r base tracks high
  pub to : upper_end r base tracks high ≤ line_at r base (tracks + 1)
  pub above : (upper_end r base tracks high + 2 * r.vertical.space ≤ line_at r base (tracks + 1))
      ⊎ ((high ≡ tracks + 1) × (upper_end r base tracks high ≡ line_at r base (tracks + 1)))

pub lower_facts : (r : RuleValues) → ValidRules r → (base low : ℕ) → LowerFacts r base low
lower_facts r valid base low =
    elim (cases_eq low 0) [
      | inl e ↦
          let same : line_at r base low ≡ line_at r base 0 = ap (line_at r base) e in
          let is : lower_end r base low ≡ line_at r base 0 = cond-true (eqb low 0) (line_at r base 0) (line_at r base low - pad r) (eq-eqb low 0 e) in
          record { inside = omega arith; holds = omega arith; from = omega arith; below = inr (e, is) }
      | inr ne ↦
          let is : lower_end r base low ≡ line_at r base low - pad r = cond-false (eqb low 0) (line_at r base 0) (line_at r base low - pad r) (ne_eqb low 0 ne) in
          let far : line_at r base 0 + 2 * r.grid.track ≤ line_at r base low = line-step r base 0 low (omega arith) in
          let room : pad r + r.vertical.space ≤ r.grid.track = valid.track_vertical in
          record { inside = omega arith; holds = omega arith; from = omega arith; below = inl (omega arith) }
    ]

pub upper_facts : (r : RuleValues) → ValidRules r → (base tracks high : ℕ) → high ≤ tracks + 1 → UpperFacts r base tracks high
upper_facts r valid base tracks high within =
    elim (cases_eq high (tracks + 1)) [
      | inl e ↦
          let same : line_at r base high ≡ line_at r base (tracks + 1) = ap (line_at r base) e in
          let is : upper_end r base tracks high ≡ line_at r base (tracks + 1) =
          cond-true (eqb high (tracks + 1)) (line_at r base (tracks + 1)) (line_at r base high + pad r) (eq-eqb high (tracks + 1) e) in
          record { inside = omega arith; holds = omega arith; to = omega arith; above = inr (e, is) }
      | inr ne ↦
          let is : upper_end r base tracks high ≡ line_at r base high + pad r =
          cond-false (eqb high (tracks + 1)) (line_at r base (tracks + 1)) (line_at r base high + pad r) (ne_eqb high (tracks + 1) ne) in
          let far : line_at r base high + 2 * r.grid.track ≤ line_at r base (tracks + 1) = line-step r base high (tracks + 1) (omega arith) in
          let room : pad r + r.vertical.space ≤ r.grid.track = valid.track_vertical in
          record { inside = omega arith; holds = omega arith; to = omega arith; above = inl (omega arith) }
    ]

-- at the upper edge a vertical wire ends just there
pub upper_end-edge : (r : RuleValues) (base tracks : ℕ) → upper_end r base tracks (tracks + 1) ≡ line_at r base (tracks + 1)
upper_end-edge r base tracks =
    cond-true (eqb (tracks + 1) (tracks + 1)) (line_at r base (tracks + 1)) (line_at r base (tracks + 1) + pad r) (eq-eqb (tracks + 1) (tracks + 1) refl)
