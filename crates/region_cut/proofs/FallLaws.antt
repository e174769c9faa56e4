use Rattle.std.proofs.Common.{◌≡◌, ◌<◌, ◌≤◌, ◌+◌, inl, inr, ℕ, List, length, subst, arith}
use Rattle.std.proofs.lemmas.Bool.{cases_lt}
use Rattle.std.specs.Prelude.{slice_index}
use Rattle.region_cut.specs.Falls.{IsFall}

-- columns behind one, up to another, that are all filled at least as far up
pub record IsOver (tops : List ℕ) (column next : ℕ) : Type 0 where
  pub wide : column < next
  pub within : next ≤ length tops
  pub over : (other : ℕ) → column ≤ other → other < next → slice_index tops column ≤ slice_index tops other

pub over-start : (tops : List ℕ) (column : ℕ) → column < length tops → IsOver tops column (column + 1)
over-start tops column within = record {
  wide = omega arith;
  within = omega arith;
  over = λ other from to. let same : column ≡ other = omega arith in subst (λ k. slice_index tops column ≤ slice_index tops k) same (omega arith);
}

-- on to where the last of them ends
pub over-next : (tops : List ℕ) (column next further : ℕ) → IsOver tops column next → slice_index tops column ≤ slice_index tops next → IsFall tops next further → IsOver tops column further
over-next tops column next further was higher fall = record {
  wide = omega (arith, was.wide, fall.wide);
  within = fall.within;
  over = λ other from to. elim (cases_lt other next) [
    | inl before ↦ was.over other from before
    | inr behind ↦ let up = fall.over other behind to in omega arith
  ];
}

pub over-end : (tops : List ℕ) (column next : ℕ) → IsOver tops column next → (next < length tops → slice_index tops next < slice_index tops column) → IsFall tops column next
over-end tops column next was stops = record { wide = was.wide; within = was.within; over = was.over; stops = stops }
