-- the lists that a choice may be asked, and its answers
use Rattle.std.specs.Prelude.{◌≡◌, ◌<◌, ◌^◌, ℕ, List, length}
use Rattle.std.specs.Borrow.{Bor}
use Rattle.choose_core.specs.declared.candidate.Candidate.{Candidate}

-- a list that a choice may be asked
pub record IsAsked (list : List Candidate) : Type 0 where
  pub some : 0 < length list
  pub few : length list < 2 ^ 32

-- this place in the list may be answered by a choice whose answers are `given`
abbrev pub MayAnswer : {F : Type 0} → (F → Bor (List Candidate) → ℕ → Type 0) → F → List Candidate → ℕ → Type 0
MayAnswer given choice list answer = (shown : Bor (List Candidate)) × (shown.now ≡ list) × given choice shown answer
