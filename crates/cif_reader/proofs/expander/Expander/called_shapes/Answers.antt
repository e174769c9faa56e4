use Rattle.std.proofs.Common.{sym, ◌∙◌}
use Rattle.cif_reader.proofs.ExpanderLaws.{called-none, called-some}
use Rattle.cif_reader.proofs.expander.Expander.called_shapes.Goals as goal

pub returns-in-Err-Because : goal.returns-in-Err-Because
returns-in-Err-Because c =
    c.new-shapes.ensures.items
    ∙ called-none c.self.inside.standing c.args.self.now c.args.command.now c.in-Call.n c.in-Call.flip c.in-Call.quarters c.in-Call.dx c.in-Call.dy
    c.in-Err-Because.field-0-0 c.self.view_is c.in-Call.is (rw c.in-Err-Because.field-0-is at (c.in-Err-Because.ensures.gives c.self.inside.standing.main.shapes.items (sym c.self.inside.standing.main.shapes.ok.0 ∙ sym c.len-before.ensures) (rw (c.len-before.ensures, c.self.inside.standing.main.shapes.ok.0) c.self.invariant.few)))

pub returns : goal.returns
returns c =
    c.in_ok-draw.ensures
    ∙ rw c.new-shapes.ensures.items (called-some c.self.inside.standing c.args.self.now c.args.command.now c.in-Call.n c.in-Call.flip c.in-Call.quarters c.in-Call.dx c.in-Call.dy
    _ c.self.view_is c.in-Call.is (c.in-Ok.ensures.gives c.self.inside.standing.main.shapes.items (sym c.self.inside.standing.main.shapes.ok.0 ∙ sym c.len-before.ensures) (rw (c.len-before.ensures, c.self.inside.standing.main.shapes.ok.0) c.self.invariant.few)))
