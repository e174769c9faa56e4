use Rattle.std.proofs.Common.{◌≡◌, ◌∙◌, ◌-◌, List, ℕ, ap, subst, sym, true, false}
use Rattle.std.proofs.lemmas.Option.{none-some, same_Some}
use Rattle.std.specs.Prelude.{slice_get}
use Rattle.geom_core.specs.Names.{is_name}
use Rattle.design_model.specs.Netlist.{IsNetlist, Netlist}
use Rattle.cif_writer.specs.Labels.{first_pin, writable_name}
use Rattle.cif_writer.proofs.LabelLaws.{begun-none, begun-other, begun-some, named-false, named-true}
use Rattle.cif_writer.proofs.PinLaws.{firsts-at, pin-net}
use Rattle.cif_writer.proofs.marks.begun_net.Goals as goal

pub returns-in_default : goal.returns-in_default
returns-in_default c = sym (begun-none c.args.design.now c.args.pin (sym c.in_default.ensures))

pub of-requires : goal.of-requires
of-requires c =
    let good : IsNetlist c.args.design.now = subst (λ (d : Netlist). IsNetlist d) c.design.view_is c.design.invariant.netlist in
    (pin-net c.args.design.now good c.args.pin c.in-Some.found (sym c.in-Some.ensures)).0

pub returns-in_default-of : goal.returns-in_default-of
returns-in_default-of c =
    let good : IsNetlist c.args.design.now = subst (λ (d : Netlist). IsNetlist d) c.design.view_is c.design.invariant.netlist in
    let net = pin-net c.args.design.now good c.args.pin c.in-Some.found (sym c.in-Some.ensures) in
    absurd (none-some (first_pin c.args.design.now.pins c.in-Some.found.net)
    (c.in_default-of.ensures ∙ ap (λ (l : List ℕ). slice_get l (c.in-Some.found.net - 1)) c.requires ∙ firsts-at c.args.design.now c.in-Some.found.net net.0 net.1))

pub returns-then-first-pin : goal.returns-then-first-pin
returns-then-first-pin c =
    let good : IsNetlist c.args.design.now = subst (λ (d : Netlist). IsNetlist d) c.design.view_is c.design.invariant.netlist in
    let net = pin-net c.args.design.now good c.args.pin c.in-Some.found (sym c.in-Some.ensures) in
    let own : first_pin c.args.design.now.pins c.in-Some.found.net ≡ c.in-Some-of.first =
    sym (same_Some c.in-Some-of.first (first_pin c.args.design.now.pins c.in-Some.found.net)
    (c.in-Some-of.ensures ∙ ap (λ (l : List ℕ). slice_get l (c.in-Some.found.net - 1)) c.requires ∙ firsts-at c.args.design.now c.in-Some.found.net net.0 net.1)) in
    sym (begun-other c.args.design.now c.args.pin c.in-Some-of.first c.in-Some.found (sym c.in-Some.ensures) own c.if-first-pin.true)

pub net_name-requires : goal.net_name-requires
net_name-requires c =
    let good : IsNetlist c.args.design.now = subst (λ (d : Netlist). IsNetlist d) c.design.view_is c.design.invariant.netlist in
    (pin-net c.args.design.now good c.args.pin c.in-Some.found (sym c.in-Some.ensures)).0

pub returns-in_default-net_name : goal.returns-in_default-net_name
returns-in_default-net_name c =
    let good : IsNetlist c.args.design.now = subst (λ (d : Netlist). IsNetlist d) c.design.view_is c.design.invariant.netlist in
    let net = pin-net c.args.design.now good c.args.pin c.in-Some.found (sym c.in-Some.ensures) in
    let own : first_pin c.args.design.now.pins c.in-Some.found.net ≡ c.args.pin =
    sym (same_Some c.in-Some-of.first (first_pin c.args.design.now.pins c.in-Some.found.net)
    (c.in-Some-of.ensures ∙ ap (λ (l : List ℕ). slice_get l (c.in-Some.found.net - 1)) c.requires ∙ firsts-at c.args.design.now c.in-Some.found.net net.0 net.1)) ∙ c.if-first-pin.false in
    sym (begun-some c.args.design.now c.args.pin c.in-Some.found (sym c.in-Some.ensures) own ∙ ap writable_name (sym c.in_default-net_name.ensures))

pub returns-then-is_name : goal.returns-then-is_name
returns-then-is_name c =
    let good : IsNetlist c.args.design.now = subst (λ (d : Netlist). IsNetlist d) c.design.view_is c.design.invariant.netlist in
    let net = pin-net c.args.design.now good c.args.pin c.in-Some.found (sym c.in-Some.ensures) in
    let own : first_pin c.args.design.now.pins c.in-Some.found.net ≡ c.args.pin =
    sym (same_Some c.in-Some-of.first (first_pin c.args.design.now.pins c.in-Some.found.net)
    (c.in-Some-of.ensures ∙ ap (λ (l : List ℕ). slice_get l (c.in-Some.found.net - 1)) c.requires ∙ firsts-at c.args.design.now c.in-Some.found.net net.0 net.1)) ∙ c.if-first-pin.false in
    let shown : is_name c.in-Some-net_name.name.now ≡ true = ap is_name (sym c.items.ensures) ∙ sym c.is_name.ensures ∙ c.if-is_name.true in
    sym (begun-some c.args.design.now c.args.pin c.in-Some.found (sym c.in-Some.ensures) own ∙ ap writable_name (sym c.in-Some-net_name.ensures)
    ∙ named-true c.in-Some-net_name.name.now shown)

pub returns : goal.returns
returns c =
    let good : IsNetlist c.args.design.now = subst (λ (d : Netlist). IsNetlist d) c.design.view_is c.design.invariant.netlist in
    let net = pin-net c.args.design.now good c.args.pin c.in-Some.found (sym c.in-Some.ensures) in
    let own : first_pin c.args.design.now.pins c.in-Some.found.net ≡ c.args.pin =
    sym (same_Some c.in-Some-of.first (first_pin c.args.design.now.pins c.in-Some.found.net)
    (c.in-Some-of.ensures ∙ ap (λ (l : List ℕ). slice_get l (c.in-Some.found.net - 1)) c.requires ∙ firsts-at c.args.design.now c.in-Some.found.net net.0 net.1)) ∙ c.if-first-pin.false in
    let hidden : is_name c.in-Some-net_name.name.now ≡ false = ap is_name (sym c.items.ensures) ∙ sym c.is_name.ensures ∙ c.if-is_name.false in
    sym (begun-some c.args.design.now c.args.pin c.in-Some.found (sym c.in-Some.ensures) own ∙ ap writable_name (sym c.in-Some-net_name.ensures)
    ∙ named-false c.in-Some-net_name.name.now hidden)
