use Rattle.std.proofs.Common.{sym, ◌∙◌}
use Rattle.std.specs.Str.{bytes_eq}
use Rattle.std_laws.proofs.Searches.{any-map}
use Rattle.netlist_import.proofs.cells.is_among.Goals as goal

pub returns : goal.returns
returns c = c.is_borrowed.ensures ∙ sym (any-map (λ x. x.now) (bytes_eq c.args.word.now) c.args.words.now)
