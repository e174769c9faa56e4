use Rattle.std.proofs.Common.{◌∙◌, ℕ, List, Some, ap, inl, inr, refl, sym, subst, arith}
use Rattle.std.proofs.lemmas.Option.{same_Some}
use Rattle.command_jobs.specs.Summarized.{summary_of}
use Rattle.command_jobs.specs.Text.{job_text}
use Rattle.cif_writer.specs.LayoutText.{HoldsFront}
use Rattle.commands.proofs.CarriedLaws.{begun-changes}
use Rattle.greedy_router.specs.declared.sweep.Routed.{Routed}
use Rattle.commands.proofs.writing.write_prepared.Goals as goal

pub returns-in-Ok-clause-written : goal.returns-in-Ok-clause-written
returns-in-Ok-clause-written g c =
    let kept = c.told-written.ensures.kept in
    let e = c.in-Ok.ensures in
    record {
      listed = inl refl;
      laid = tt;
      said = record {
        ends = c.told-written.ensures.summary ∙ ap (summary_of c.args.prepared.job) (sym kept);
        written = λ name is zero bytes at.
            ap (λ (k : List Routed). Some (job_text c.args.prepared.job k)) kept
            ∙ e.whole bytes (ap (g.S.Shelf.holds c.write.new.shelf) (same_Some _ name is) ∙ at);
        front = λ name is nine. absurd (omega (arith, nine));
      };
      changes = begun-changes _ _ _ _ _ tt (λ out. absurd (out tt)) e.others.others (λ nine. absurd (omega (arith, nine))) (λ other. e.others.same_writes refl) e.others.same_reads;
      routed_so = kept;
      good = e.good;
    }

pub returns-in-Err-clause-written : goal.returns-in-Err-clause-written
returns-in-Err-clause-written g c =
    let kept = c.told-cut.ensures.kept in
    let e = c.in-Err.ensures in
    record {
      listed = inr refl;
      laid = tt;
      said = record {
        ends = tt;
        written = λ name is zero. absurd (omega (arith, zero));
        front = λ name is nine.
            subst (λ (file : List ℕ). HoldsFront (job_text c.args.prepared.job c.told-cut.result.kept.items) (g.S.Shelf.holds c.args.shelf.now file)
            (g.S.Shelf.holds c.write.new.shelf file)) (same_Some _ name is) (rw kept e.front);
      };
      changes = begun-changes _ _ _ _ _ tt (λ out. absurd (out tt)) e.others.others (λ nine. e.cause) (λ other. absurd (other refl)) e.others.same_reads;
      routed_so = kept;
      good = e.good;
    }
