use Rattle.std.proofs.Common.{◌∙◌, ◌≤◌, length, ap, arith, sym, subst}
use Rattle.netlist_core.specs.Checked.{CheckedCalls}
use Rattle.netlist_core.specs.Signals.{nets_of}
use Rattle.netlist_core.proofs.NetLaws.{few-nets}
use Rattle.netlist_core.proofs.nets.nets_of.Goals as goal

pub invariant_of-result : goal.invariant_of-result
invariant_of-result c =
    subst (λ l. length l ≤ 200000) (sym c.in_ok-words.ensures)
    (omega (arith, few-nets c.as_slice.result.now, ap length c.as_slice.ensures.value, c.checked.invariant.few_signals))

pub returns : goal.returns
returns c = c.in_ok-words.ensures ∙ ap nets_of (c.as_slice.ensures.value ∙ ap (λ (k : CheckedCalls). k.signals) c.checked.view_is)
