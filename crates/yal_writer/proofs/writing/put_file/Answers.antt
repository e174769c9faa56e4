use Rattle.std.proofs.Common.{rules}
use Rattle.shelf_io.proofs.FileLaws.{file-puts}
use Rattle.yal_writer.proofs.writing.put_file.Goals as goal

pub returns : goal.returns
returns g c =
    file-puts (record { holds = g.S.Shelf.holds; reads = g.S.Shelf.read_faults; writes = g.S.Shelf.write_faults }) c.put_yal.result
    (record { begun = c.new-out.ensures.now; left = search rules; named = c.new-out.ensures.name }) c.put_yal.ensures
