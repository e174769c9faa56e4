use Rattle.std.proofs.Common.{◌≡◌, length}
use Rattle.port_rows.specs.Ported.{first_among, kind_names}
use Rattle.yal_reader.specs.Kept.{module_names}
use Rattle.port_rows.proofs.clashes.kind_clash.Given as goal

abbrev pub invariant-loop-kind : goal.invariant-loop-kind
invariant-loop-kind l = first_among (module_names l.modules) (kind_names l.rest) ≡ first_among (module_names l.modules) (kind_names l.kinds)

abbrev pub decreases-loop-kind : goal.decreases-loop-kind
decreases-loop-kind l = length l.rest
