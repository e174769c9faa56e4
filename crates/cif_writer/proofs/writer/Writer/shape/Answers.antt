use Rattle.std.proofs.Common.{rules, ◌∙◌}
use Rattle.shelf_io.proofs.FileLaws.{file-failed, file-wrote}
use Rattle.std_laws.proofs.Options.{on-err}
use Rattle.cif_writer.proofs.writer.Writer.shape.Goals as goal

pub returns-in_err-shape-clause-stopped : goal.returns-in_err-shape-clause-stopped
returns-in_err-shape-clause-stopped g c =
    on-err c.from_residual.result _
    (file-failed (record { holds = g.S.Shelf.holds; reads = g.S.Shelf.read_faults; writes = g.S.Shelf.write_faults })
    (record { begun = c.new-out.ensures.now; left = search rules; named = c.new-out.ensures.name })
    (rw (c.deref_mut.ensures.value ∙ c.self.view_is) at c.in_err-shape.ensures.wrote.failed))

pub returns-clause-wrote : goal.returns-clause-wrote
returns-clause-wrote g c =
    file-wrote (record { holds = g.S.Shelf.holds; reads = g.S.Shelf.read_faults; writes = g.S.Shelf.write_faults })
    (record { begun = c.new-out.ensures.now; left = search rules; named = c.new-out.ensures.name })
    (rw (c.deref_mut.ensures.value ∙ c.self.view_is) at c.in_ok-shape.ensures.wrote.wrote)
