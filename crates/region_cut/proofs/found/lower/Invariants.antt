use Rattle.std.proofs.Common.{cond, false}
use Rattle.std.specs.Prelude.{slice_index_or}
use Rattle.region_cut.proofs.CellLaws.{Changing}
use Rattle.region_cut.proofs.found.lower.Given as goal

abbrev pub invariant-loop-column : goal.invariant-loop-column
invariant-loop-column l = Changing (λ k top. cond (slice_index_or l.cells k false) top l.strip) 0 l.column l.initial.tops l.tops
