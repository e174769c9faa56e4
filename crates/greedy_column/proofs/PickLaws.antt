use Rattle.std.proofs.Common.{◌≡◌, ◌<◌, ℕ, List, length, map, get_or, subst, ap, arith, Contains}
use Rattle.std.proofs.lemmas.List.{length-map}
use Rattle.std.proofs.lemmas.Option.{slice_get-get_or}
use Rattle.choose_core.specs.declared.candidate.Candidate.{Candidate}
use Rattle.greedy_column.specs.Offers.{IsPicked}
use Rattle.std_laws.proofs.Members.{get-contains}

module _ {X : Type 0} where
  -- what an answer picks
  pub picked : (may : List Candidate → ℕ → Type 0) (offers : X → Candidate) (options : List X) (shown : List Candidate) (answer : ℕ) (d : X)
      → shown ≡ map offers options → may shown answer → answer < length shown → IsPicked may offers options (get_or options answer d)
  picked may offers options shown answer d is given within = (
    answer,
    subst (λ (l : List Candidate). may l answer) is given,
    slice_get-get_or options answer d (omega (arith, within, ap (λ (l : List Candidate). length l) is, length-map options offers)),
  )

  -- what is picked is an option
  pub picked_is_option : (may : List Candidate → ℕ → Type 0) (offers : X → Candidate) (options : List X) (option : X) → IsPicked may offers options option
      → Contains options option
  picked_is_option may offers options option (answer, given, at) = get-contains options answer option at
