use Rattle.list_facts.proofs.names.place_of.Goals as goal
use Rattle.std.proofs.Common.{◌∙◌, sym}
use Rattle.list_facts.proofs.TextLaws.{place-texts, same}
use Rattle.std_laws.proofs.Searches.{first-place, no-place}

pub returns-in-Some-clause-is : goal.returns-in-Some-clause-is
returns-in-Some-clause-is c =
    sym (first-place (same c.args.name) c.args.names.now.keys c.in-Some.place (sym c.in-Some.ensures.index)) ∙ place-texts c.args.name c.args.names.now.keys

pub returns-in-None-clause-is : goal.returns-in-None-clause-is
returns-in-None-clause-is c =
    c.len.ensures.len ∙ sym (no-place (same c.args.name) c.args.names.now.keys (sym c.in-None.ensures.index)) ∙ place-texts c.args.name c.args.names.now.keys
