use Rattle.std.proofs.Common.{◌≡◌, ◌<◌, ◌≤◌, false, eqb, ℕ, zero, suc, List, [], ◌∷◌, sym, ◌∙◌, arith, Contains, length, get_or}
use Rattle.std.proofs.lemmas.Bool.{cond_both, eqb-true, eqb-false}
use Rattle.std.proofs.lemmas.List.{get_or_default}
use Rattle.std.specs.List.Sorted.{IsStrictlyIncreasing}
use Rattle.channel_model.specs.Nets.{place_of}
use Rattle.std_laws.proofs.Increasing.{increasing-same}

-- a net that stands at a place stands first at `place_of`
pub place_of-found : (nets : List ℕ) (net k : ℕ) → k < length nets → get_or nets k 0 ≡ net
    → (place_of nets net ≤ k) × (get_or nets (place_of nets net) 0 ≡ net)
place_of-found [] net k within there = absurd (omega arith)
place_of-found (n ∷ nets) net zero within there =
    cond_both (eqb n net) 0 (suc (place_of nets net)) (λ p. (p ≤ 0) × (get_or (n ∷ nets) p 0 ≡ net))
    (λ t. (omega arith, there))
    (λ f. absurd (other f))
  where
    other : eqb n net ≡ false → ⊥
    other f = eqb-false n net f there
place_of-found (n ∷ nets) net (suc k) within there =
    let tail = place_of-found nets net k (omega arith) there in
    cond_both (eqb n net) 0 (suc (place_of nets net)) (λ p. (p ≤ suc k) × (get_or (n ∷ nets) p 0 ≡ net))
    (λ t. (omega arith, eqb-true n net t))
    (λ f. (omega (arith, tail.0), tail.1))

pub place_of-member : (nets : List ℕ) (net : ℕ) → Contains nets net → (place_of nets net < length nets) × (get_or nets (place_of nets net) 0 ≡ net)
place_of-member nets net member =
    let found = place_of-found nets net member.0 member.1 (get_or_default nets member.0 0 net member.1 ∙ member.2) in
    (omega (arith, found.0, member.1), found.1)

-- where a net of ascending nets stands
pub place_of-is : (nets : List ℕ) (i net : ℕ) → IsStrictlyIncreasing nets → i < length nets → get_or nets i 0 ≡ net → i ≡ place_of nets net
place_of-is nets i net ascending within there =
    let found = place_of-found nets net i within there in
    increasing-same nets i (place_of nets net) ascending within (omega (arith, found.0)) (there ∙ sym found.1)
