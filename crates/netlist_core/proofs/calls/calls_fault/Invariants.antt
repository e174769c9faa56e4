use Rattle.std.proofs.Common.{◌≡◌, ◌+◌, length}
use Rattle.netlist_core.specs.Answers.{first_fault}
use Rattle.netlist_core.specs.Calls.{call_fault}
use Rattle.netlist_core.proofs.calls.calls_fault.Given as goal

abbrev pub invariant-loop-call : goal.invariant-loop-call
invariant-loop-call l = record {
  fault : first_fault (call_fault l.library) l.i l.rest ≡ first_fault (call_fault l.library) 0 l.calls;
  count : l.i + length l.rest ≡ length l.calls;
}

abbrev pub decreases-loop-call : goal.decreases-loop-call
decreases-loop-call l = length l.rest
