use Rattle.std.proofs.Common.{◌≡◌, inl, inr, subst, ℕ, zero, suc, ◌<◌, ◌≤◌, ◌++◌, Contains, arith}
use Rattle.std.proofs.lemmas.Bool.{cases_eq}
use Rattle.std.proofs.lemmas.List.Elements.{Contains-append_left, Contains-append_right, Contains-append_cases}
use Rattle.tech_rules.specs.Rules.{RuleValues}
use Rattle.wire_geom.specs.declared.drawn.Drawn.{Drawn}
use Rattle.layout_laws.proofs.Plans.{Plan, channel_drawn, drawn_to}

-- where a rectangle up to channel n stands
pub data Place (r : RuleValues) (plan : Plan) (n : ℕ) (a : Drawn) : Type 0 where
  in_channel : (k : ℕ) → k ≤ n → Contains (channel_drawn r plan k) a → Place r plan n a
  in_row : (k : ℕ) → k < n → Contains (plan.row k) a → Place r plan n a

place_up : (r : RuleValues) (plan : Plan) (n : ℕ) (a : Drawn) → Place r plan n a → Place r plan (suc n) a
place_up r plan n a (in_channel k within member) = in_channel k (omega (arith, within)) member
place_up r plan n a (in_row k within member) = in_row k (omega (arith, within)) member

-- each rectangle stands in a channel or in a row
pub place_of : (r : RuleValues) (plan : Plan) (n : ℕ) (a : Drawn) → Contains (drawn_to r plan n) a → Place r plan n a
place_of r plan zero a member = in_channel 0 (omega arith) member
place_of r plan (suc n) a member =
    elim (Contains-append_cases (drawn_to r plan n) (plan.row n ++ channel_drawn r plan (suc n)) a member) [
      | inl lower ↦ place_up r plan n a (place_of r plan n a lower)
      | inr upper ↦ elim (Contains-append_cases (plan.row n) (channel_drawn r plan (suc n)) a upper) [
        | inl row ↦ in_row n (omega arith) row
        | inr channel ↦ in_channel (suc n) (omega arith) channel
      ]
    ]

-- what a channel or a row has is among them
pub channel_among : (r : RuleValues) (plan : Plan) (n k : ℕ) → k ≤ n → (a : Drawn) → Contains (channel_drawn r plan k) a → Contains (drawn_to r plan n) a
channel_among r plan zero k within a member =
    let first : k ≡ 0 = omega (arith, within) in
    subst (λ (j : ℕ). Contains (channel_drawn r plan j) a) first member
channel_among r plan (suc n) k within a member =
    elim (cases_eq k (suc n)) [
      | inl last ↦
          let here : Contains (channel_drawn r plan (suc n)) a = subst (λ (j : ℕ). Contains (channel_drawn r plan j) a) last member in
          Contains-append_right (drawn_to r plan n) (plan.row n ++ channel_drawn r plan (suc n)) a
          (Contains-append_right (plan.row n) (channel_drawn r plan (suc n)) a here)
      | inr before ↦
          Contains-append_left (drawn_to r plan n) (plan.row n ++ channel_drawn r plan (suc n)) a
          (channel_among r plan n k (omega (arith, within, before)) a member)
    ]

pub row_among : (r : RuleValues) (plan : Plan) (n k : ℕ) → k < n → (a : Drawn) → Contains (plan.row k) a → Contains (drawn_to r plan n) a
row_among r plan zero k within a member = absurd (omega (arith, within))
row_among r plan (suc n) k within a member =
    elim (cases_eq k n) [
      | inl last ↦
          let here : Contains (plan.row n) a = subst (λ (j : ℕ). Contains (plan.row j) a) last member in
          Contains-append_right (drawn_to r plan n) (plan.row n ++ channel_drawn r plan (suc n)) a
          (Contains-append_left (plan.row n) (channel_drawn r plan (suc n)) a here)
      | inr before ↦
          Contains-append_left (drawn_to r plan n) (plan.row n ++ channel_drawn r plan (suc n)) a
          (row_among r plan n k (omega (arith, within, before)) a member)
    ]
