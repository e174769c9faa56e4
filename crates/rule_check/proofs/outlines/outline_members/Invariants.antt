use Rattle.std.proofs.Common.{◌≡◌, ◌++◌, drop}
use Rattle.rule_check.specs.Members.{members_from, outline_member}
use Rattle.rule_check.proofs.outlines.outline_members.Given as goal

abbrev pub invariant-loop-k : goal.invariant-loop-k
invariant-loop-k l =
    l.members.items ++ members_from (outline_member l.rules) l.k (drop l.k l.shapes) ≡ members_from (outline_member l.rules) 0 l.shapes
