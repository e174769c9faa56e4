use Rattle.std.proofs.Common.{ap, sym, subst, Bool, Some}
use Rattle.std.specs.Prelude.{is_some}
use Rattle.cif_reader.specs.Behind.{seen, IsBehind}
use Rattle.cif_reader.specs.Expansion.{advance}
use Rattle.cif_reader.specs.Refusals.{Takes}
use Rattle.cif_reader.proofs.BehindLemmas.{inside-behind, outside-behind}
use Rattle.cif_reader.proofs.standing.step_drawing.Goals as goal

pub returns-in-Some : goal.returns-in-Some
returns-in-Some c =
    subst (λ (b : Bool). Takes c.step_inside.result (advance (seen c.args.standing.now) c.args.command.command.now)
    (IsBehind (record c.args.standing.now { definition = Some c.step_inside.new.definition }) b)) (sym (ap is_some c.in-Some.is))
    (inside-behind c.args.standing.now c.in-Some.definition c.step_inside.new.definition c.args.command.command.now c.step_inside.result c.requires c.in-Some.is
    c.args.command.drawing c.step_inside.ensures)

pub returns-in-None : goal.returns-in-None
returns-in-None c =
    subst (λ (b : Bool). Takes c.step_outside.result (advance (seen c.args.standing.now) c.args.command.command.now)
    (IsBehind (record c.args.standing.now { main = c.step_outside.new.main }) b)) (sym (ap is_some c.in-None.is))
    (outside-behind c.args.standing.now c.step_outside.new.main c.args.command.command.now c.step_outside.result c.requires c.in-None.is
    c.args.command.drawing c.step_outside.ensures)
