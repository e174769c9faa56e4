use Rattle.cif_writer.proofs.layout.write_all.Goals as goal
use Rattle.cif_text.specs.Printing.{line}
use Rattle.cif_text.specs.declared.command.CifCommand.TheVariants as commands
use Rattle.shelf_io.proofs.WritesLaws.{puts-both, puts-stopped}

pub returns-in_err-write_symbols-clause-put : goal.returns-in_err-write_symbols-clause-put
returns-in_err-write_symbols-clause-put g c =
    puts-stopped c.from_residual.result _ c.from_residual.ensures.0 (rw (c.begin-text.ensures, c.items.ensures) at c.in_err-write_symbols.ensures.wrote)

pub returns-in_err-write_main-clause-put : goal.returns-in_err-write_main-clause-put
returns-in_err-write_main-clause-put g c =
    let result = c.from_residual-in_err-write_main.result in
    let symbols = c.in_ok-write_symbols.ensures in
    puts-both result _ (g.met.K.Sink.place_then _ _ _) (g.met.K.Sink.same_then _ _ _) (rw (c.begin-text.ensures, c.items.ensures) at symbols.wrote)
    (puts-stopped result (line commands.End) c.from_residual-in_err-write_main.ensures.0 (rw symbols.layer at c.in_err-write_main.ensures.wrote))

pub returns-clause-put : goal.returns-clause-put
returns-clause-put g c =
    let symbols = c.in_ok-write_symbols.ensures in
    puts-both c.end.result _ (g.met.K.Sink.place_then _ _ _) (g.met.K.Sink.same_then _ _ _) (rw (c.begin-text.ensures, c.items.ensures) at symbols.wrote)
    (puts-both c.end.result (line commands.End) (g.met.K.Sink.place_then _ _ _) (g.met.K.Sink.same_then _ _ _) (rw symbols.layer at c.in_ok-write_main.ensures.wrote) c.end.ensures)

pub returns-in_err-write_symbols-clause-goes : goal.returns-in_err-write_symbols-clause-goes
returns-in_err-write_symbols-clause-goes g c = g.met.V.Watch.goes_here c.args.watch.now

pub returns-clause-goes : goal.returns-clause-goes
returns-clause-goes g c = g.met.V.Watch.goes_then _ _ _ c.in_ok-write_main.ensures.goes c.told.ensures
