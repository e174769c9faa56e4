use Rattle.greedy_column.proofs.MarkLaws.{MarksWithin-split}
use Rattle.greedy_column.proofs.moment.Moment.ending_lines.Goals as goal

pub take_back-requires : goal.take_back-requires
take_back-requires g c = MarksWithin-split c.args.spans.now c.args.paired.now.pairs c.in_ok-marks.marks.items c.in_ok-marks.ensures
