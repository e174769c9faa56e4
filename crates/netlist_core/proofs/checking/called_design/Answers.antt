use Rattle.std.proofs.Common.{◌∙◌, List, map, arith, ap, sym, subst}
use Rattle.std.proofs.lemmas.Result.{IfOk-weaker}
use Rattle.yal_reader.specs.declared.file.Call.{Call}
use Rattle.yal_reader.specs.declared.file.Module.{Module}
use Rattle.design_model.specs.SameNet.{SameNet}
use Rattle.design_model.specs.declared.design.Pin.{Pin}
use Rattle.netlist_core.specs.Checked.{IsChecked}
use Rattle.netlist_core.specs.OnGrid.{used_modules}
use Rattle.netlist_core.specs.SignalWords.{word_of}
use Rattle.netlist_core.specs.Signals.{PinWord, all_signals, nets_of, pin_in}
use Rattle.netlist_core.proofs.CheckedCalls.{checked-calls}
use Rattle.netlist_core.proofs.NetLaws.{nets-agree, words-said}
use Rattle.netlist_core.proofs.checking.called_design.Goals as goal

pub invariant_of-checked : goal.invariant_of-checked
invariant_of-checked c =
    let used = c.in_ok-used.ensures ∙ ap (λ (ms : List Module). used_modules ms c.items-calls.result.now) c.modules.ensures.is
    ∙ ap (used_modules c.circuit.inside.library) c.items-calls.ensures.is in
    subst (λ (calls : List Call). IsChecked c.in_ok-used.used.items c.in_ok-signals.signals.items calls) (sym c.items-calls.ensures.is)
    (checked-calls c.circuit.inside.library c.circuit.inside.calls _ _ used c.in_ok-signals.ensures c.modules.ensures.read c.items-calls.ensures.read
    c.circuit.invariant (omega (arith, c.len.ensures, c.if-len-gt-MOST_PINS.false)))

pub returns-clause-nets : goal.returns-clause-nets
returns-clause-nets c =
    let modules = c.args.circuit.now.0 in
    let calls = c.args.circuit.now.1 in
    let signals = c.in_ok-signals.ensures ∙ ap (λ (k : List Module × List Call). all_signals k.0 k.1) c.circuit.view_is in
    IfOk-weaker c.used_design.result _ _ (λ design is.
    subst (λ (pins : List Pin). SameNet (word_of calls) pins) (sym (is ∙ ap (λ (words : List PinWord). map (pin_in (nets_of words)) words) signals))
    (nets-agree calls (all_signals modules calls) (words-said modules calls)))
    c.used_design.ensures.pins
