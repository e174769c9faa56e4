use Rattle.std.proofs.Common.{◌≡◌, ◌≤◌, ◌++◌, ◌∙◌, ℕ, List, length, map, ap, ap₂, sym, append_assoc, arith}
use Rattle.std.proofs.lemmas.List.{length-map}
use Rattle.std.proofs.lemmas.Result.{on_ok_weaker}
use Rattle.design_model.specs.Netlist.{IsNetlist}
use Rattle.design_model.specs.declared.design.Pin.{Pin}
use Rattle.layout_check.specs.Groups.{differing_pairs, firsts_of}
use Rattle.layout_check.specs.NetFaults.{opened, shorted}
use Rattle.layout_check.specs.declared.finding.Finding.{Finding}
use Rattle.layout_check.specs.declared.finding.Finding.TheVariants.{Opened, Short}
use Rattle.layout_check.proofs.PinGroups.{opened-differing, shorted-differing}
use Rattle.layout_check.proofs.nets.tell_nets.Goals as goal

pub invariant_of-by_net-clause-few : goal.invariant_of-by_net-clause-few
invariant_of-by_net-clause-few c =
    let good : IsNetlist c.args.design.now = rw (← c.design.view_is) c.design.invariant.netlist in
    let few : length c.args.design.now.pins ≤ 200000 = good.few_pins in
    let long : length c.as_slice.result.now ≡ length c.args.design.now.pins =
    ap (λ (l : List ℕ). length l) (c.as_slice.ensures.value ∙ c.in_ok-nets.ensures) ∙ length-map c.args.design.now.pins (λ (p : Pin). p.net) in
    omega arith

pub invariant_of-by_class-clause-few : goal.invariant_of-by_class-clause-few
invariant_of-by_class-clause-few c =
    let good : IsNetlist c.args.design.now = rw (← c.design.view_is) c.design.invariant.netlist in
    let few : length c.args.design.now.pins ≤ 200000 = good.few_pins in
    let long : length c.args.classes.now ≡ length c.args.design.now.pins = c.requires in
    omega arith

pub returns : goal.returns
returns c =
    let nets : c.in_ok-nets.nets.items ≡ map (λ (p : Pin). p.net) c.args.design.now.pins = c.in_ok-nets.ensures in
    let opens : c.as_slice-3.result.now ≡ opened c.args.design.now c.args.classes.now =
    c.as_slice-3.ensures.value ∙ c.in_ok-opened.ensures
    ∙ ap (λ (ns : List ℕ). differing_pairs (firsts_of ns) c.args.classes.now) (c.as_slice.ensures.value ∙ nets)
    ∙ sym (opened-differing c.args.design.now c.args.classes.now c.requires) in
    let shorts : c.as_slice-4.result.now ≡ shorted c.args.design.now c.args.classes.now =
    c.as_slice-4.ensures.value ∙ c.in_ok-shorted.ensures
    ∙ ap (λ (ns : List ℕ). differing_pairs (firsts_of c.args.classes.now) ns) (c.as_slice-2.ensures.value ∙ nets)
    ∙ sym (shorted-differing c.args.design.now c.args.classes.now c.requires) in
    on_ok_weaker c.put_pairs-2.result
    (λ is. is
    ∙ ap₂ (λ (fs : List Finding) (ps : List (ℕ × ℕ)). fs ++ map (λ (p : ℕ × ℕ). Short p.0 p.1) ps)
    (c.in_ok-put_pairs.ensures ∙ ap (λ (ps : List (ℕ × ℕ)). c.args.findings.now.items ++ map (λ (p : ℕ × ℕ). Opened p.0 p.1) ps) opens) shorts
    ∙ append_assoc c.args.findings.now.items (map (λ (p : ℕ × ℕ). Opened p.0 p.1) (opened c.args.design.now c.args.classes.now))
    (map (λ (p : ℕ × ℕ). Short p.0 p.1) (shorted c.args.design.now c.args.classes.now))) c.put_pairs-2.ensures
