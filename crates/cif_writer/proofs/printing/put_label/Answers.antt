use Rattle.cif_writer.proofs.printing.put_label.Goals as goal
use Rattle.cif_text.specs.Printing.{line}
use Rattle.cif_text.specs.Written.{change, label_command}
use Rattle.shelf_io.proofs.WritesLaws.{writes-both, writes-stopped}
use Rattle.cif_writer.proofs.Lines.{text-last}

pub returns-in_err-put_layer : goal.returns-in_err-put_layer
returns-in_err-put_layer g c =
    rw (text-last (change c.args.last c.args.shape.now.layer) (label_command c.args.name.now c.args.shape.now))
    (writes-stopped c.from_residual.result (line (label_command c.args.name.now c.args.shape.now)) c.from_residual.ensures.0 c.in_err-put_layer.ensures)

pub returns : goal.returns
returns g c =
    rw (text-last (change c.args.last c.args.shape.now.layer) (label_command c.args.name.now c.args.shape.now))
    (writes-both c.put_label_line.result (g.met.K.Sink.place_then _ _ _) (g.met.K.Sink.same_then _ _ _) c.in_ok-put_layer.ensures c.put_label_line.ensures)
