use Rattle.std.proofs.Common.{◌≡◌, fold, drop}
use Rattle.list_facts.specs.Names.{mention, mentions}
use Rattle.list_facts.specs.Texts.{texts}
use Rattle.netlist_core.specs.Signals.{words_of}
use Rattle.netlist_core.proofs.nets.words_of.Given as goal

abbrev pub invariant-loop-signal : goal.invariant-loop-signal
invariant-loop-signal l = fold mention (texts l.words.keys) (words_of (drop l.signal-index l.signals)) ≡ mentions (words_of l.signals)
