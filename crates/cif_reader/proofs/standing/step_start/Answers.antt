use Rattle.cif_reader.proofs.BehindLemmas.{start-twice, start-behind}
use Rattle.cif_reader.proofs.standing.step_start.Goals as goal

pub returns-in-Some : goal.returns-in-Some
returns-in-Some c = start-twice c.args.standing.now c.args.n c.args.scale.a c.args.scale.b _ c.requires.is c.requires.outside c.in-Some.ensures.place

pub returns-in-None : goal.returns-in-None
returns-in-None c =
    start-behind c.args.standing.now c.args.n c.args.scale.a c.args.scale.b c.opened.result c.requires.is c.requires.outside c.in-None.ensures.none c.opened.ensures
