use Rattle.std.proofs.Common.{rules, ◌≡◌, ◌∙◌, ◌<◌, ◌-◌, ℕ, List, Some, length, replicate, length-set, get_or, arith, ap, subst, sym}
use Rattle.std.proofs.lemmas.Option.{slice_get-get_or}
use Rattle.std.specs.Prelude.{slice_get}
use Rattle.design_model.specs.Netlist.{IsNetlist, Netlist}
use Rattle.design_model.specs.declared.design.Pin.{Pin}
use Rattle.cif_writer.proofs.PinLaws.{firsts-done, firsts-start, firsts-step, pin-net}
use Rattle.cif_writer.proofs.net_firsts.first_pins.Goals as goal

pub loop-left-init : goal.loop-left-init
loop-left-init c =
    let nets : c.items.result.now ≡ c.args.design.now.nets = search rules in
    let made = c.in_ok-firsts.ensures.items_if_clones_equal (λ y same. same) ∙ ap (λ (l : List (List ℕ)). replicate (length l) (length c.items-pins.result.now)) nets in
    let begun = firsts-start c.items-pins.result.now c.args.design.now.nets c.in_ok-firsts.firsts.items made in
    record { within = omega arith; count = begun.0; each = begun.1 }

pub loop-left-preserved : goal.loop-left-preserved
loop-left-preserved c =
    let good : IsNetlist c.args.design.now = subst (λ (d : Netlist). IsNetlist d) c.design.view_is c.design.invariant.netlist in
    let same : c.items-pins.result.now ≡ c.args.design.now.pins = search rules in
    let pins : List Pin = c.items-pins.result.now in
    let before : ℕ = c.loop-left.left - 1 in
    let pin : Pin = get_or pins before (record { instance = 0; terminal = 0; net = 0 }) in
    let inside : before < length pins = omega (arith, c.loop-left-test.true, c.loop-left.invariant.within) in
    let at : slice_get pins before ≡ Some pin = slice_get-get_or pins before (record { instance = 0; terminal = 0; net = 0 }) inside in
    let net = pin-net c.args.design.now good before pin (ap (λ (l : List Pin). slice_get l before) (sym same) ∙ at) in
    record {
      within = omega (arith, inside);
      count = length-set c.loop-left.firsts.items (pin.net - 1) before ∙ c.loop-left.invariant.count;
      each = firsts-step pins c.loop-left.firsts.items (length c.args.design.now.nets) c.loop-left.left before pin (omega (arith, c.loop-left-test.true)) at net.0 net.1
          c.loop-left.invariant.count c.loop-left.invariant.each;
    }

pub returns : goal.returns
returns c =
    let same : c.items-pins.result.now ≡ c.args.design.now.pins = search rules in
    c.new.ensures ∙ firsts-done c.args.design.now c.items-pins.result.now c.loop-left.firsts.items c.loop-left.left same (omega (arith, c.loop-left-test.false))
    c.loop-left.invariant.count c.loop-left.invariant.each
