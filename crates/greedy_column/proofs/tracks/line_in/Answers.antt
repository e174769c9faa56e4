use Rattle.std.proofs.Common.{◌∙◌, ap, sym}
use Rattle.greedy_column.specs.Tracks.{ids, line_of}
use Rattle.greedy_column.proofs.PlacedLaws.{line_of-0}
use Rattle.greedy_column.proofs.tracks.line_in.Goals as goal

pub returns-then-id-eq0 : goal.returns-then-id-eq0
returns-then-id-eq0 c = line_of-0 c.args.tracks.now c.requires ∙ ap (line_of (ids c.args.tracks.now)) (sym c.if-id-eq0.true)
