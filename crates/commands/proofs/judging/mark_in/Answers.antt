use Rattle.std.proofs.Common.{ℕ, List, Some, inl, inr, refl, subst, arith}
use Rattle.std.proofs.lemmas.Option.{same_Some}
use Rattle.marker_text.specs.Held.{HoldsFront}
use Rattle.finding_markers.specs.Markers.{markers_text}
use Rattle.layout_check.specs.declared.finding.Finding.{Finding}
use Rattle.shelf_io.specs.Told.{Refines}
use Rattle.commands.proofs.CarriedLaws.{begun-changes}
use Rattle.commands.proofs.judging.mark_in.Goals as goal

pub returns-in-Ok : goal.returns-in-Ok
returns-in-Ok g c =
    let e = c.in-Ok.ensures in
    let j = c.args.judged in
    let after = g.S.Shelf.holds c.write_markers.new.shelf in
    let text = subst (λ (fs : List Finding). Refines (after c.args.file.now) (Some (markers_text j.inputs.designs.drawn.design j.layout fs))) c.as_slice-findings.ensures.value e.text in
    record {
      ends = inl refl;
      holds = λ name is zero.
          subst (λ (file : List ℕ). Refines (after file) (Some (markers_text j.inputs.designs.drawn.design j.layout j.findings.items))) (same_Some _ name is) text;
      front = λ name is nine. absurd (omega (arith, nine));
      changes = begun-changes _ _ _ _ _ (λ none. cc) (λ out. refl) e.others.others (λ nine. absurd (omega (arith, nine))) (λ other. e.others.same_writes refl) e.others.same_reads;
    }

pub returns-in-Err : goal.returns-in-Err
returns-in-Err g c =
    let e = c.in-Err.ensures in
    let j = c.args.judged in
    let before = g.S.Shelf.holds c.args.shelf.now in
    let after = g.S.Shelf.holds c.write_markers.new.shelf in
    let front = subst (λ (fs : List Finding). HoldsFront (markers_text j.inputs.designs.drawn.design j.layout fs) (before c.args.file.now) (after c.args.file.now))
    c.as_slice-findings.ensures.value e.front in
    record {
      ends = inr (refl, λ none. cc);
      holds = λ name is zero. absurd (omega (arith, zero));
      front = λ name is nine.
          subst (λ (file : List ℕ). HoldsFront (markers_text j.inputs.designs.drawn.design j.layout j.findings.items) (before file) (after file)) (same_Some _ name is) front;
      changes = begun-changes _ _ _ _ _ tt (λ out. refl) e.others.others (λ nine. e.cause) (λ other. absurd (other refl)) e.others.same_reads;
    }
