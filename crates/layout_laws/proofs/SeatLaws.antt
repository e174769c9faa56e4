use Rattle.std.proofs.Common.{◌≡◌, ◌⊎◌, inl, inr, refl, sym, ◌∙◌, ℕ, ◌+◌, ◌≤◌, List, [], ◌∷◌, Contains, arith}
use Rattle.std.proofs.lemmas.List.Elements.{Contains-append_right}
use Rattle.layout_laws.proofs.Seats.{AreParted, FitsRow, ComesToLower, ComesToUpper, IsSeat, LowerNet, Seat, UpperNet, Upright, UprightAt, further, here}
use Rattle.tech_rules.specs.Rules.{RuleValues, ValidRules}
use Rattle.layout_laws.proofs.Strips.{Agree}

-- no upright stands left of its seats
pub UprightAt-left : (s : Upright) (column left : ℕ) (seats : List Seat) → UprightAt s column left seats → left ≤ column
UprightAt-left s column left seats (here seat member at) = omega (arith, at)
UprightAt-left s column left seats (further {seat = seat} {seats = rest} later) = omega (arith, UprightAt-left s column (left + seat.width) rest later)

-- no upright stands in no seats
pub UprightAt-none : (s : Upright) (column left : ℕ) → UprightAt s column left [] → ⊥
UprightAt-none s column left at = elim at [ ]

-- an upright is of the first seat, or of a later one
pub UprightAt-cases : (s : Upright) (column left : ℕ) (seat : Seat) (seats : List Seat) → UprightAt s column left (seat ∷ seats)
    → (Contains seat.uprights s × (column ≡ left + s.column)) ⊎ UprightAt s column (left + seat.width) seats
UprightAt-cases s column left seat seats (here first member at) = inl (member, at)
UprightAt-cases s column left seat seats (further later) = inr later

module _ (r : RuleValues) (valid : ValidRules r) (height : ℕ) where
  -- two uprights in one column of the row are parted
  pub uprights-parted : (seats : List Seat) → ((seat : Seat) → Contains seats seat → IsSeat r height seat)
      → (left column : ℕ) (u v : Upright) → UprightAt u column left seats → UprightAt v column left seats → AreParted r u v
  uprights-parted [] are left column u v at_u at_v = absurd (UprightAt-none u column left at_u)
  uprights-parted (seat ∷ seats) are left column u v at_u at_v =
      let first : Contains (seat ∷ seats) seat = (0, omega arith, refl) in
      elim (UprightAt-cases u column left seat seats at_u) [
        | inl here_u ↦ elim (UprightAt-cases v column left seat seats at_v) [
          | inl here_v ↦ (are seat first).parted u v here_u.0 here_v.0 (omega (arith, here_u.1, here_v.1))
          | inr later_v ↦ absurd (omega (arith, here_u.1, (are seat first).within u here_u.0, UprightAt-left v column (left + seat.width) seats later_v))
        ]
        | inr later_u ↦ elim (UprightAt-cases v column left seat seats at_v) [
          | inl here_v ↦ absurd (omega (arith, here_v.1, (are seat first).within v here_v.0, UprightAt-left u column (left + seat.width) seats later_u))
          | inr later_v ↦
              uprights-parted seats (λ other member. are other (Contains-append_right (seat ∷ []) seats other member)) (left + seat.width) column u v later_u later_v
        ]
      ]

  -- each upright of the row fits it
  pub upright-fits : (seats : List Seat) → ((seat : Seat) → Contains seats seat → IsSeat r height seat)
      → (left column : ℕ) (u : Upright) → UprightAt u column left seats → FitsRow r height u
  upright-fits [] are left column u at = absurd (UprightAt-none u column left at)
  upright-fits (seat ∷ seats) are left column u at =
      elim (UprightAt-cases u column left seat seats at) [
        | inl own ↦ (are seat (0, omega arith, refl)).fits u own.0
        | inr later ↦ upright-fits seats (λ other member. are other (Contains-append_right (seat ∷ []) seats other member)) (left + seat.width) column u later
      ]

  -- parted uprights that come to one edge are of one net
  lower-one : (u v : Upright) → FitsRow r height u → FitsRow r height v → AreParted r u v → ComesToLower u → ComesToLower v → u.net ≡ v.net
  lower-one u v fit_u fit_v (inl same) lower_u lower_v = same
  lower-one u v fit_u fit_v (inr (inl under)) lower_u lower_v = absurd (omega (arith, fit_u.long, valid.ranges.vertical.width))
  lower-one u v fit_u fit_v (inr (inr over)) lower_u lower_v = absurd (omega (arith, fit_v.long, valid.ranges.vertical.width))

  upper-one : (u v : Upright) → FitsRow r height u → FitsRow r height v → AreParted r u v → ComesToUpper height u → ComesToUpper height v → u.net ≡ v.net
  upper-one u v fit_u fit_v (inl same) upper_u upper_v = same
  upper-one u v fit_u fit_v (inr (inl under)) upper_u upper_v = absurd (omega (arith, fit_v.long, valid.ranges.vertical.width))
  upper-one u v fit_u fit_v (inr (inr over)) upper_u upper_v = absurd (omega (arith, fit_u.long, valid.ranges.vertical.width))

  module _ (seats : List Seat) (are : (seat : Seat) → Contains seats seat → IsSeat r height seat) where
    -- in each column of the row's lower edge, and of its upper edge, there is one net
    pub LowerNet-one : Agree (LowerNet seats) (LowerNet seats)
    LowerNet-one column n m a b =
        sym a.of_net
        ∙ lower-one a.upright b.upright (upright-fits seats are 0 column a.upright a.at) (upright-fits seats are 0 column b.upright b.at)
        (uprights-parted seats are 0 column a.upright b.upright a.at b.at) a.comes b.comes
        ∙ b.of_net

    pub UpperNet-one : Agree (UpperNet height seats) (UpperNet height seats)
    UpperNet-one column n m a b =
        sym a.of_net
        ∙ upper-one a.upright b.upright (upright-fits seats are 0 column a.upright a.at) (upright-fits seats are 0 column b.upright b.at)
        (uprights-parted seats are 0 column a.upright b.upright a.at b.at) a.comes b.comes
        ∙ b.of_net
