use Rattle.std.proofs.Common.{◌++◌, codes}
use Rattle.shelf_io.proofs.WritesLaws.{writes-both, writes-stopped}
use Rattle.yal_writer.proofs.TextParts.{parent-parts}
use Rattle.yal_writer.specs.ParentText.{calls_text, lines_text}
use Rattle.yal_writer.proofs.printing.append_parent.Goals as goal

pub returns-in_err-append_heading : goal.returns-in_err-append_heading
returns-in_err-append_heading g c =
    let m = c.args.parent.now in
    rw (← parent-parts m)
    (writes-stopped c.from_residual.result (lines_text m.lines ++ (codes "ENDIOLIST;\nNETWORK;\n" ++ (calls_text m.calls ++ codes "ENDNETWORK;\nENDMODULE;\n"))) c.from_residual.ensures.0 c.in_err-append_heading.ensures)

pub returns-in_err-append_lines : goal.returns-in_err-append_lines
returns-in_err-append_lines g c =
    let m = c.args.parent.now in
    let r = c.from_residual-in_err-append_lines.result in
    rw (← parent-parts m)
    (writes-both r (g.met.K.Sink.place_then _ _ _) (g.met.K.Sink.same_then _ _ _) c.in_ok-append_heading.ensures
    (writes-stopped r (codes "ENDIOLIST;\nNETWORK;\n" ++ (calls_text m.calls ++ codes "ENDNETWORK;\nENDMODULE;\n")) c.from_residual-in_err-append_lines.ensures.0 (rw c.items.ensures at c.in_err-append_lines.ensures)))

pub returns-in_err-append : goal.returns-in_err-append
returns-in_err-append g c =
    let m = c.args.parent.now in
    let r = c.from_residual-in_err-append.result in
    rw (← parent-parts m)
    (writes-both r (g.met.K.Sink.place_then _ _ _) (g.met.K.Sink.same_then _ _ _) c.in_ok-append_heading.ensures
    (writes-both r (g.met.K.Sink.place_then _ _ _) (g.met.K.Sink.same_then _ _ _) (rw c.items.ensures at c.in_ok-append_lines.ensures)
    (writes-stopped r (calls_text m.calls ++ codes "ENDNETWORK;\nENDMODULE;\n") c.from_residual-in_err-append.ensures.0 c.in_err-append.ensures)))

pub returns-in_err-append_calls : goal.returns-in_err-append_calls
returns-in_err-append_calls g c =
    let m = c.args.parent.now in
    let r = c.from_residual-in_err-append_calls.result in
    rw (← parent-parts m)
    (writes-both r (g.met.K.Sink.place_then _ _ _) (g.met.K.Sink.same_then _ _ _) c.in_ok-append_heading.ensures
    (writes-both r (g.met.K.Sink.place_then _ _ _) (g.met.K.Sink.same_then _ _ _) (rw c.items.ensures at c.in_ok-append_lines.ensures)
    (writes-both r (g.met.K.Sink.place_then _ _ _) (g.met.K.Sink.same_then _ _ _) c.in_ok-append.ensures
    (writes-stopped r (codes "ENDNETWORK;\nENDMODULE;\n") c.from_residual-in_err-append_calls.ensures.0 (rw c.items-2.ensures at c.in_err-append_calls.ensures)))))

pub returns : goal.returns
returns g c =
    let m = c.args.parent.now in
    let r = c.append-2.result in
    rw (← parent-parts m)
    (writes-both r (g.met.K.Sink.place_then _ _ _) (g.met.K.Sink.same_then _ _ _) c.in_ok-append_heading.ensures
    (writes-both r (g.met.K.Sink.place_then _ _ _) (g.met.K.Sink.same_then _ _ _) (rw c.items.ensures at c.in_ok-append_lines.ensures)
    (writes-both r (g.met.K.Sink.place_then _ _ _) (g.met.K.Sink.same_then _ _ _) c.in_ok-append.ensures
    (writes-both r (g.met.K.Sink.place_then _ _ _) (g.met.K.Sink.same_then _ _ _) (rw c.items-2.ensures at c.in_ok-append_calls.ensures) c.append-2.ensures))))
