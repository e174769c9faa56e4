use Rattle.std.proofs.Common.{◌≡◌, count_by}
use Rattle.channel_model.specs.Density.{is_over}
use Rattle.channel_model.proofs.DensityLaws.{is_carried}
use Rattle.left_edge.proofs.FullnessLaws.{IsFirstMost}
use Rattle.left_edge.proofs.fullness.fullest_column.Given as goal

abbrev pub invariant-loop-column : goal.invariant-loop-column
invariant-loop-column l = record {
  going : l.fullness.open ≡ count_by (is_carried l.column) l.spanned.spans.now;
  most : IsFirstMost (λ c. count_by (is_over c) l.spanned.spans.now) l.column l.fullness.most l.fullness.column;
}
