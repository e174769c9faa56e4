use Rattle.layout_report.proofs.printing.print_summary.Goals as goal
use Rattle.std.proofs.Common.{◌++◌}
use Rattle.layout_report.specs.SummaryText.{channels_text, count_words, end_words, lines_text, summary_text, taken_words}
use Rattle.shelf_io.proofs.WroteLaws.{puts-cut, puts-then}

pub returns-in_err-print_lines : goal.returns-in_err-print_lines
unfolding summary_text count_words
returns-in_err-print_lines g c =
    let s = c.args.summary.now in
    puts-cut c.from_residual.result (channels_text 0 s.channels ++ (lines_text (end_words s) ++ lines_text (taken_words s.taken))) c.from_residual.ensures.0 c.in_err-print_lines.ensures

pub returns-in_err-print_channels : goal.returns-in_err-print_channels
unfolding summary_text count_words
returns-in_err-print_channels g c =
    let result = c.from_residual-in_err-print_channels.result in
    puts-then result (g.met.K.Sink.place_then _ _ _) (g.met.K.Sink.same_then _ _ _) c.in_ok-print_lines.ensures
    (puts-cut result (lines_text (end_words c.args.summary.now) ++ lines_text (taken_words c.args.summary.now.taken)) c.from_residual-in_err-print_channels.ensures.0 c.in_err-print_channels.ensures)

pub returns-in_err-print_lines-2 : goal.returns-in_err-print_lines-2
unfolding summary_text count_words end_words
returns-in_err-print_lines-2 g c =
    let result = c.from_residual-in_err-print_lines-2.result in
    puts-then result (g.met.K.Sink.place_then _ _ _) (g.met.K.Sink.same_then _ _ _) c.in_ok-print_lines.ensures
    (puts-then result (g.met.K.Sink.place_then _ _ _) (g.met.K.Sink.same_then _ _ _) c.in_ok-print_channels.ensures
    (puts-cut result (lines_text (taken_words c.args.summary.now.taken)) c.from_residual-in_err-print_lines-2.ensures.0 c.in_err-print_lines-2.ensures))

pub returns : goal.returns
unfolding summary_text count_words end_words
returns g c =
    let result = c.print_taken.result in
    puts-then result (g.met.K.Sink.place_then _ _ _) (g.met.K.Sink.same_then _ _ _) c.in_ok-print_lines.ensures
    (puts-then result (g.met.K.Sink.place_then _ _ _) (g.met.K.Sink.same_then _ _ _) c.in_ok-print_channels.ensures
    (puts-then result (g.met.K.Sink.place_then _ _ _) (g.met.K.Sink.same_then _ _ _) c.in_ok-print_lines-2.ensures c.print_taken.ensures))
