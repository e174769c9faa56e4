use Rattle.cif_text.specs.declared.command.UserKind.TheVariants as users
use Rattle.cif_writer.proofs.printing.put_copy.Goals as goal
use Rattle.std.proofs.Common.{option_map}
use Rattle.cif_text.specs.Printing.{line}
use Rattle.cif_text.specs.Written.{call_to, name_commands}
use Rattle.shelf_io.proofs.WritesLaws.{writes-both, writes-stopped}
use Rattle.cif_writer.proofs.Lines.{text-last}

pub returns-in_err-put_name : goal.returns-in_err-put_name
returns-in_err-put_name g c =
    rw (text-last (name_commands users.InstanceName (option_map (λ n. n.now) c.args.name)) (call_to c.args.number c.args.place.now))
    (writes-stopped c.from_residual.result (line (call_to c.args.number c.args.place.now)) c.from_residual.ensures.0 c.in_err-put_name.ensures)

pub returns : goal.returns
returns g c =
    rw (text-last (name_commands users.InstanceName (option_map (λ n. n.now) c.args.name)) (call_to c.args.number c.args.place.now))
    (writes-both c.put_command.result (g.met.K.Sink.place_then _ _ _) (g.met.K.Sink.same_then _ _ _) c.in_ok-put_name.ensures
    (rw c.call_of.ensures.call at c.put_command.ensures))
