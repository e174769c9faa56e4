use Rattle.std.proofs.Common.{◌≡◌, map, take}
use Rattle.list_facts.specs.Names.{place_among}
use Rattle.list_facts.specs.Texts.{texts}
use Rattle.layout_check.proofs.names.places.Given as goal

abbrev pub invariant-loop-name : goal.invariant-loop-name
invariant-loop-name l = l.numbers.items ≡ map (place_among (texts l.names.set.now.keys)) (texts (take l.name-index l.names.list.now))
