use Rattle.std.proofs.Common.{◌≡◌, ◌++◌, drop}
use Rattle.std.specs.List.{zip}
use Rattle.rule_check.specs.Members.{members_from, wire_member}
use Rattle.rule_check.proofs.wires.wire_members.Given as goal

abbrev pub invariant-loop-k : goal.invariant-loop-k
invariant-loop-k l =
    l.members.items ++ members_from (wire_member l.rules) l.k (drop l.k (zip l.classes l.shapes))
    ≡ members_from (wire_member l.rules) 0 (zip l.classes l.shapes)
