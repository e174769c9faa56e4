use Rattle.std.proofs.Common.{rules}
use Rattle.shelf_io.proofs.FileLaws.{file-puts}
use Rattle.cif_writer.proofs.layout.put_design.Goals as goal

pub returns-clause-put : goal.returns-clause-put
returns-clause-put g c =
    file-puts (record { holds = g.S.Shelf.holds; reads = g.S.Shelf.read_faults; writes = g.S.Shelf.write_faults }) c.write_all.result
    (record { begun = c.new-out.ensures.now; left = search rules; named = c.new-out.ensures.name }) c.write_all.ensures.put
