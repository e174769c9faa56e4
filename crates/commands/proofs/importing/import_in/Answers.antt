use Rattle.std.proofs.Common.{inl, inr, refl, arith}
use Rattle.commands.proofs.CarriedLaws.{begun-changes}
use Rattle.commands.proofs.importing.import_in.Goals as goal

pub returns-in-Ok-clause-written : goal.returns-in-Ok-clause-written
returns-in-Ok-clause-written g c =
    let e = c.in-Ok.ensures in
    record {
      ends = inl refl;
      holds = λ zero. e.text;
      front = λ nine. absurd (omega (arith, nine));
      changes = begun-changes _ _ _ _ _ tt (λ out. refl) e.others.others (λ nine. absurd (omega (arith, nine))) (λ other. e.others.same_writes refl) e.others.same_reads;
    }

pub returns-in-Err-clause-written : goal.returns-in-Err-clause-written
returns-in-Err-clause-written g c =
    let e = c.in-Err.ensures in
    record {
      ends = inr refl;
      holds = λ zero. absurd (omega (arith, zero));
      front = λ nine. e.front;
      changes = begun-changes _ _ _ _ _ tt (λ out. refl) e.others.others (λ nine. e.cause) (λ other. absurd (other refl)) e.others.same_reads;
    }
