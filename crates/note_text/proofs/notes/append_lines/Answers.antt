use Rattle.note_text.proofs.notes.append_lines.Goals as goal
use Rattle.std.proofs.Common.{◌≡◌, ◌++◌, ◌∷◌, List, ℕ, [], ap, map, true}
use Rattle.std.proofs.lemmas.List.{nil_from_length}
use Rattle.std.specs.String.{string_bytes}
use Rattle.shelf_io.specs.Lines.{line}
use Rattle.shelf_io.proofs.SoFar.{so_far-begun, so_far-done, so_far-failed, so_far-more}
use Rattle.note_text.specs.Lines.{lines_text}

pub loop-text-init : goal.loop-text-init
loop-text-init g c = so_far-begun _ c.args.buffer.now _ _ (g.met.K.Sink.place_here c.args.out.now) (g.met.K.Sink.same_here c.args.out.now)

pub returns-in_err-append_note : goal.returns-in_err-append_note
returns-in_err-append_note g c =
    so_far-failed c.from_residual.result _ (g.met.K.Sink.place_then _ _ _) (g.met.K.Sink.same_then _ _ _) c.from_residual.ensures.0 c.loop-text.invariant
    (ap (λ texts. lines_text (map string_bytes texts)) c.in-Some.ensures.cases.0) c.in_err-append_note.ensures

pub loop-text-preserved : goal.loop-text-preserved
loop-text-preserved g c =
    so_far-more (g.met.K.Sink.place_then _ _ _) (g.met.K.Sink.same_then _ _ _ true) c.loop-text.invariant
    (ap (λ texts. lines_text (map string_bytes texts)) c.in-Some.ensures.cases.0) c.in_ok-append_note.ensures

pub returns : goal.returns
returns g c =
    so_far-done _ (ap (λ texts. lines_text (map string_bytes texts)) (nil_from_length c.loop-text.rest.now c.in_default.ensures.cases)) c.loop-text.invariant
