use Rattle.std.proofs.Common.{ℕ, List}
use Rattle.geom_core.specs.declared.layout.Shape.{Shape}
use Rattle.tech_rules.specs.Rules.{RuleValues}
use Rattle.geom_extract.specs.Touching.{Connected}
use Rattle.geom_extract.specs.Touching.Connected.{here, step}
use Rattle.geom_extract.proofs.Links.{beside-sym}

module _ (r : RuleValues) (shapes : List Shape) (ties : List (ℕ × ℕ)) where
  -- chains go on, and back
  pub connected-more : (i j k : ℕ) → Connected r shapes ties i j → Connected r shapes ties j k → Connected r shapes ties i k
  connected-more i j k first here = first
  connected-more i j k first (step {x = x} k2 chain beside) = step k2 (connected-more i j x first chain) beside

  pub connected-back : (i j : ℕ) → Connected r shapes ties i j → Connected r shapes ties j i
  connected-back i j here = here
  connected-back i j (step {x = x} k chain beside) =
      connected-more k x i (step x here (beside-sym r shapes ties x k beside)) (connected-back i x chain)
