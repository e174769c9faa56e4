use Rattle.std.proofs.Common.{sym, ◌∙◌}
use Rattle.std.specs.Str.{bytes_eq}
use Rattle.std_laws.proofs.Searches.{any-map}
use Rattle.netlist_import.proofs.parents.is_module.Goals as goal

pub returns : goal.returns
returns c = c.has_name.ensures ∙ sym (any-map (λ m. m.name) (bytes_eq c.args.name.now) c.args.modules.now)
