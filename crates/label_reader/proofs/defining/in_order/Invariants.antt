use Rattle.std.proofs.Common.{◌≡◌, ◌-◌, ◌≤◌, false}
use Rattle.std.specs.Prelude.{is_some}
use Rattle.label_reader.specs.Defining.{in_order, passes}
use Rattle.label_reader.proofs.defining.in_order.Given as goal

abbrev pub invariant-loop-passes : goal.invariant-loop-passes
invariant-loop-passes l =
    (passes (64 - l.passes) l.fn.commands l.pass.expander l.pass.left.items ≡ in_order l.fn.commands l.fn.expander)
    × (is_some l.pass.expander.state.inside ≡ false)
    × (l.passes ≤ 64)

abbrev pub decreases-loop-passes : goal.decreases-loop-passes
decreases-loop-passes l = 64 - l.passes
