use Rattle.std.proofs.Common.{◌≡◌, drop}
use Rattle.std.specs.List.{enumerate_from}
use Rattle.list_facts.specs.Texts.{texts}
use Rattle.netlist_import.proofs.EachLaws.{with_front}
use Rattle.netlist_import.specs.Calls.{call_of, calls_of}
use Rattle.netlist_import.specs.Faults.{each}
use Rattle.netlist_import.specs.Nets.{all_seen}
use Rattle.netlist_import.proofs.calls.calls_of.Given as goal

abbrev pub invariant-loop-gate : goal.invariant-loop-gate
invariant-loop-gate l = record {
  count : l.number ≡ l.gate-index;
  front : with_front l.found.items (each (call_of l.modules (all_seen l.renamings) (texts l.undriven)) (enumerate_from l.number (drop l.gate-index l.gates)))
      ≡ calls_of l.modules (all_seen l.renamings) (texts l.undriven) l.gates;
}
