use Rattle.layout_report.proofs.printing.+print_lines.Goals as goal
use Rattle.std.proofs.Common.{◌≡◌, [], map}
use Rattle.std.proofs.lemmas.List.{nil_from_length}
use Rattle.shelf_io.specs.Lines.{word_text}
use Rattle.layout_report.specs.SummaryText.{lines_text}
use Rattle.shelf_io.proofs.WroteLaws.{ended-none, puts-cut, puts-then}

pub returns-in_default : goal.returns-in_default
returns-in_default g t c =
    let none : c.args.lines.now ≡ [] = nil_from_length c.args.lines.now c.in_default.ensures.cases in
    rw none (record { place = g.met.K.Sink.place_here c.args.out.now; ended = ended-none _ _ (g.met.K.Sink.same_here c.args.out.now); failed = tt })

pub returns-in_err-put_line : goal.returns-in_err-put_line
returns-in_err-put_line g t c =
    rw c.in-Some.ensures.cases.0
    (puts-cut c.from_residual.result (lines_text (map (λ words. map word_text words.now) c.in-Some.after.now)) c.from_residual.ensures.0 c.in_err-put_line.ensures)

pub returns : goal.returns
returns g t c =
    rw c.in-Some.ensures.cases.0
    (puts-then c.print_lines.result (g.met.K.Sink.place_then _ _ _) (g.met.K.Sink.same_then _ _ _) c.in_ok-put_line.ensures c.print_lines.ensures)
