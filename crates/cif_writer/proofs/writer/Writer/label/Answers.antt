use Rattle.std.proofs.Common.{rules, ◌∙◌}
use Rattle.shelf_io.proofs.FileLaws.{file-failed, file-wrote}
use Rattle.std_laws.proofs.Options.{on-err}
use Rattle.cif_writer.proofs.NearMiddles.{shape-twice}
use Rattle.cif_writer.proofs.writer.Writer.label.Goals as goal

pub label-requires : goal.label-requires
label-requires g c = shape-twice c.args.shape.now.rect c.requires

pub returns-in_err-label-clause-stopped : goal.returns-in_err-label-clause-stopped
returns-in_err-label-clause-stopped g c =
    on-err c.from_residual.result _
    (file-failed (record { holds = g.S.Shelf.holds; reads = g.S.Shelf.read_faults; writes = g.S.Shelf.write_faults })
    (record { begun = c.new-out.ensures.now; left = search rules; named = c.new-out.ensures.name })
    (rw (c.deref_mut.ensures.value ∙ c.self.view_is) at c.in_err-label.ensures.wrote.failed))

pub returns-clause-wrote : goal.returns-clause-wrote
returns-clause-wrote g c =
    file-wrote (record { holds = g.S.Shelf.holds; reads = g.S.Shelf.read_faults; writes = g.S.Shelf.write_faults })
    (record { begun = c.new-out.ensures.now; left = search rules; named = c.new-out.ensures.name })
    (rw (c.deref_mut.ensures.value ∙ c.self.view_is) at c.in_ok-label.ensures.wrote.wrote)
