use Rattle.wire_geom.proofs.drawing.draw.Goals as goal
use Rattle.std.proofs.Common.{◌≡◌, ◌∙◌, arith, length, sym}
use Rattle.std.proofs.lemmas.List.{take_all}
use Rattle.wire_geom.proofs.DrawingLaws.{drawing_wide, drawing_apart, drawing_columns, drawing_contact, drawing_edges, drawing_entries}
use Rattle.wire_geom.specs.Drawing.{drawing}
use Rattle.std_laws.proofs.Places.{take-here}

pub loop-k-preserved : goal.loop-k-preserved
loop-k-preserved c =
    rw (c.in_ok-push.ensures.items, c.loop-k.invariant)
    (sym (take-here (drawing c.args.rules.now c.args.base c.args.wiring.now) c.loop-k.k c.shape_at.result c.shape_at.ensures))

pub returns-clause-drawn : goal.returns-clause-drawn
returns-clause-drawn c =
    let long : length (drawing c.args.rules.now c.args.base c.args.wiring.now) ≡ c.shapes-k-end.result =
    c.shapes-k-end.ensures.drawn c.args.rules.now c.args.base in
    c.loop-k.invariant
    ∙ take_all c.loop-k.k (drawing c.args.rules.now c.args.base c.args.wiring.now) (omega (arith, long, c.loop-k-test.false))

pub returns-clause-wide : goal.returns-clause-wide
returns-clause-wide c =
    λ pins wired. rw (returns-clause-drawn c) (drawing_wide pins c.args.wiring.now wired c.args.rules.now c.pad-pad.ensures.valid c.args.base)

pub returns-clause-apart : goal.returns-clause-apart
returns-clause-apart c =
    λ pins wired. rw (returns-clause-drawn c) (drawing_apart pins c.args.wiring.now wired c.args.rules.now c.pad-pad.ensures.valid c.args.base)

pub returns-clause-contact : goal.returns-clause-contact
returns-clause-contact c =
    λ pins wired. rw (returns-clause-drawn c) (drawing_contact pins c.args.wiring.now wired c.args.rules.now c.pad-pad.ensures.valid c.args.base)

pub returns-clause-columns : goal.returns-clause-columns
returns-clause-columns c =
    λ pins wired. rw (returns-clause-drawn c) (drawing_columns pins c.args.wiring.now wired c.args.rules.now c.pad-pad.ensures.valid c.args.base)

pub returns-clause-edges : goal.returns-clause-edges
returns-clause-edges c =
    λ pins wired. rw (returns-clause-drawn c) (drawing_edges pins c.args.wiring.now wired c.args.rules.now c.pad-pad.ensures.valid c.args.base)

pub returns-clause-entries : goal.returns-clause-entries
returns-clause-entries c =
    λ pins wired. rw (returns-clause-drawn c) (drawing_entries pins c.args.wiring.now wired c.args.rules.now c.pad-pad.ensures.valid c.args.base)
