use Rattle.std.proofs.Common.{◌≡◌, ◌≤◌, drop, fold, length}
use Rattle.list_facts.specs.Names.{mention, mentions}
use Rattle.list_facts.specs.Texts.{texts}
use Rattle.layout_check.proofs.names.different.Given as goal

abbrev pub invariant-loop-name : goal.invariant-loop-name
invariant-loop-name l = record {
  mentioned : fold mention (texts l.set.keys) (texts (drop l.name-index l.names)) ≡ mentions (texts l.names);
  fewer : length (texts l.set.keys) ≤ l.name-index;
}
