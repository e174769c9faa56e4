use Rattle.std.proofs.Common.{◌≡◌, ◌++◌, ℕ, List, drop, not}
use Rattle.std.specs.List.{list_any}
use Rattle.std.specs.Str.{bytes_eq}
use Rattle.list_facts.specs.Texts.{texts}
use Rattle.rule_check.specs.Failing.{failing, failing_from}
use Rattle.layout_check.proofs.names.not_among.Given as goal

abbrev pub invariant-loop-k : goal.invariant-loop-k
invariant-loop-k l =
    l.numbers.items ++ failing_from (λ (name : List ℕ). not (list_any (bytes_eq name) (texts l.others.set.now.keys))) l.k (texts (drop l.k l.names.list.now))
    ≡ failing (λ (name : List ℕ). not (list_any (bytes_eq name) (texts l.others.set.now.keys))) (texts l.names.list.now)
