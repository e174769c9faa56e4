use Rattle.shelf_io.proofs.WroteLaws.{writes-none}
use Rattle.cif_writer.proofs.labels.write_label.Goals as goal

pub returns-in-None-clause-wrote : goal.returns-in-None-clause-wrote
returns-in-None-clause-wrote g c = rw c.in-None.is (writes-none _ c.args.text.now.buffered _ _ (g.met.K.Sink.place_here c.args.out.now) (g.met.K.Sink.same_here c.args.out.now))
