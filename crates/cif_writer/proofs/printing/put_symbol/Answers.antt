use Rattle.cif_text.specs.declared.command.CifCommand.TheVariants as commands
use Rattle.cif_text.specs.declared.command.UserKind.TheVariants as users
use Rattle.cif_writer.proofs.printing.put_symbol.Goals as goal
use Rattle.std.proofs.Common.{◌++◌, List, ℕ, None, option_map}
use Rattle.cif_text.specs.Printing.{line, text_of}
use Rattle.cif_text.specs.Written.{name_commands, shapes_commands}
use Rattle.shelf_io.proofs.WritesLaws.{writes-both, writes-stopped}
use Rattle.cif_writer.proofs.Lines.{symbol-text}

pub returns-in_err-put_command : goal.returns-in_err-put_command
returns-in_err-put_command g c =
    let name : List ℕ = text_of (name_commands users.SymbolName (option_map (λ n. n.now) c.args.name)) in
    let shapes : List ℕ = text_of (shapes_commands None c.args.shapes.now) in
    rw (symbol-text c.args.number (option_map (λ n. n.now) c.args.name) c.args.shapes.now)
    (writes-stopped c.from_residual.result (name ++ (shapes ++ line commands.Finish)) c.from_residual.ensures.0 c.in_err-put_command.ensures)

pub returns-in_err-put_name : goal.returns-in_err-put_name
returns-in_err-put_name g c =
    let result = c.from_residual-in_err-put_name.result in
    let shapes : List ℕ = text_of (shapes_commands None c.args.shapes.now) in
    rw (symbol-text c.args.number (option_map (λ n. n.now) c.args.name) c.args.shapes.now)
    (writes-both result (g.met.K.Sink.place_then _ _ _) (g.met.K.Sink.same_then _ _ _) c.in_ok-put_command.ensures
    (writes-stopped result (shapes ++ line commands.Finish) c.from_residual-in_err-put_name.ensures.0 c.in_err-put_name.ensures))

pub returns-in_err-put_shapes : goal.returns-in_err-put_shapes
returns-in_err-put_shapes g c =
    let result = c.from_residual-in_err-put_shapes.result in
    rw (symbol-text c.args.number (option_map (λ n. n.now) c.args.name) c.args.shapes.now)
    (writes-both result (g.met.K.Sink.place_then _ _ _) (g.met.K.Sink.same_then _ _ _) c.in_ok-put_command.ensures
    (writes-both result (g.met.K.Sink.place_then _ _ _) (g.met.K.Sink.same_then _ _ _) c.in_ok-put_name.ensures
    (writes-stopped result (line commands.Finish) c.from_residual-in_err-put_shapes.ensures.0 c.in_err-put_shapes.ensures)))

pub returns : goal.returns
returns g c =
    let result = c.put_command-2.result in
    rw (symbol-text c.args.number (option_map (λ n. n.now) c.args.name) c.args.shapes.now)
    (writes-both result (g.met.K.Sink.place_then _ _ _) (g.met.K.Sink.same_then _ _ _) c.in_ok-put_command.ensures
    (writes-both result (g.met.K.Sink.place_then _ _ _) (g.met.K.Sink.same_then _ _ _) c.in_ok-put_name.ensures
    (writes-both result (g.met.K.Sink.place_then _ _ _) (g.met.K.Sink.same_then _ _ _) c.in_ok-put_shapes.ensures c.put_command-2.ensures)))
