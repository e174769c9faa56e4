use Rattle.std.proofs.Common.{◌≡◌, drop, fold}
use Rattle.list_facts.specs.Names.{mention}
use Rattle.list_facts.specs.Texts.{texts}
use Rattle.port_rows.proofs.nets.mention_all.Given as goal

abbrev pub invariant-loop-word : goal.invariant-loop-word
invariant-loop-word l = fold mention (texts l.words.keys) (texts (drop l.word-index l.more)) ≡ fold mention (texts l.initial.words.keys) (texts l.more)
