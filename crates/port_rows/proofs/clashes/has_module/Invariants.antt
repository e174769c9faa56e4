use Rattle.std.proofs.Common.{◌≡◌, length}
use Rattle.std.specs.List.{list_any}
use Rattle.std.specs.Str.{bytes_eq}
use Rattle.yal_reader.specs.Kept.{module_names}
use Rattle.port_rows.proofs.clashes.has_module.Given as goal

abbrev pub invariant-loop-module : goal.invariant-loop-module
invariant-loop-module l = list_any (bytes_eq l.name) (module_names l.rest) ≡ list_any (bytes_eq l.name) (module_names l.modules)

abbrev pub decreases-loop-module : goal.decreases-loop-module
decreases-loop-module l = length l.rest
