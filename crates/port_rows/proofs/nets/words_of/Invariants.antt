use Rattle.std.proofs.Common.{◌≡◌, drop, fold}
use Rattle.list_facts.specs.Names.{mention, mentions}
use Rattle.list_facts.specs.Texts.{texts}
use Rattle.port_rows.proofs.nets.words_of.Given as goal

abbrev pub invariant-loop-name : goal.invariant-loop-name
invariant-loop-name l = fold mention (texts l.words.keys) (drop l.name-index l.names) ≡ mentions l.names
