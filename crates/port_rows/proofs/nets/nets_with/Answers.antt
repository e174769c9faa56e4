use Rattle.std.proofs.Common.{◌≡◌, ◌≤◌, ℕ, ◌+◌, ◌++◌, List, length, arith, ap, ap₂, ◌∙◌, subst, length-append}
use Rattle.design_model.specs.Netlist.{IsNetlist}
use Rattle.design_model.proofs.DesignPins.{nets-few}
use Rattle.list_facts.specs.Texts.{texts}
use Rattle.port_rows.specs.Added.{nets_with}
use Rattle.port_rows.specs.PortNames.{PortNames}
use Rattle.port_rows.proofs.MoreNets.{more-few}
use Rattle.port_rows.proofs.nets.nets_with.Goals as goal

pub invariant_of-result : goal.invariant_of-result
invariant_of-result c =
    let d = c.args.design.now in
    let south : List (List ℕ) = c.args.ports.now.south in
    let north : List (List ℕ) = c.args.ports.now.north in
    let few : length d.nets ≤ 200000 = nets-few d (subst IsNetlist c.design.view_is c.design.invariant.netlist) in
    let below = ap texts c.as_slice.ensures.value ∙ ap (λ (p : PortNames). p.south) c.ports.view_is in
    let above = ap texts c.as_slice-2.ensures.value ∙ ap (λ (p : PortNames). p.north) c.ports.view_is in
    let is : texts c.in_ok-words.words.keys ≡ nets_with d.nets (south ++ north) = c.in_ok-words.ensures ∙ ap₂ (λ (s n : List (List ℕ)). nets_with d.nets (s ++ n)) below above in
    let long : length (texts c.in_ok-words.words.keys) ≡ length (nets_with d.nets (south ++ north)) = ap length is in
    let ports : length south + length north ≤ 20000 = c.requires in
    omega (arith, more-few d.nets (south ++ north), length-append south north)
