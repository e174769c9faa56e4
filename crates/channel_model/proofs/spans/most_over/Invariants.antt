use Rattle.std.proofs.Common.{◌≡◌, count_by}
use Rattle.channel_model.specs.Density.{most_over}
use Rattle.channel_model.proofs.DensityLaws.{is_carried}
use Rattle.channel_model.proofs.spans.most_over.Given as goal

abbrev pub invariant-loop-column : goal.invariant-loop-column
invariant-loop-column l = record {
  opened : l.open ≡ count_by (is_carried l.column) l.spans;
  most : l.most ≡ most_over l.spans l.column;
}
