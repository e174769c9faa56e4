use Rattle.std.proofs.Common.{None, inl, refl, arith}
use Rattle.commands.proofs.CarriedLaws.{unchanged}
use Rattle.commands.proofs.judging.mark.Goals as goal

-- where there is no file for them, nothing is changed
pub returns-in-None : goal.returns-in-None
returns-in-None g c =
    rw c.in-None.is
    (record {
      ends = inl refl;
      holds = λ name is zero. absurd cc;
      front = λ name is nine. absurd cc;
      changes = unchanged None _ _ _ _ (λ begun. begun refl) (λ nine. absurd (omega (arith, nine))) refl refl refl (λ other. refl);
    })
