use Rattle.std.proofs.Common.{◌≡◌, ◌<◌, ◌≤◌, ℕ, ◌+◌, ◌-◌, List, ◌++◌, length, Bool, cond, Option, Some, inl, inr, ap, sym, ◌∙◌, arith}
use Rattle.std.specs.List.{slice_get}
use Rattle.std.specs.Prelude.{nat_lt}
use Rattle.tech_rules.specs.Rules.{RuleValues}
use Rattle.yal_reader.specs.declared.file.Call.{Call}
use Rattle.list_facts.proofs.Different.{place-get}
use Rattle.design_model.specs.Netlist.{IsNetlist, Netlist}
use Rattle.design_model.specs.SameNet.{SameNet}
use Rattle.design_model.specs.declared.design.Pin.{Pin}
use Rattle.design_model.proofs.DesignPins.{pin-within}
use Rattle.netlist_core.specs.SignalWords.{word_of}
use Rattle.port_rows.specs.Added.{nets_with, port_pins, with_ports}
use Rattle.port_rows.specs.PortWords.{BearWords, word_with}
use Rattle.port_rows.proofs.MoreNets.{among-nets, nets-keep, port-word}
use Rattle.std_laws.proofs.Members.{all-get}
use Rattle.std_laws.proofs.Places.{at-place, get-either}
use Rattle.std_laws.proofs.Tests.{nat_lt-is-above, nat_lt-not-above}

-- the net of a pin that a design has
net-there : (d : Netlist) → IsNetlist d → (n : ℕ) (p : Pin) → slice_get d.pins n ≡ Some p → (w : List ℕ) × (slice_get d.nets (p.net - 1) ≡ Some w)
net-there d good n p at =
    let range = all-get (λ (p : Pin). (0 < p.net) × (p.net ≤ length d.nets)) d.pins n p good.nets at in
    let some = range.0 in
    let few = range.1 in
    at-place d.nets (p.net - 1) (omega arith)

-- in a design with ports each pin's net bears its word, where this is so without them
pub ported-words : (rules : RuleValues) (d : Netlist) → IsNetlist d → (calls : List Call) → length d.instances ≡ length calls → BearWords (word_of calls) d
    → (south north : List (List ℕ)) → BearWords (word_with calls (south ++ north)) (with_ports rules d south north)
ported-words rules d good calls count bear south north n p at =
    elim (get-either d.pins (port_pins (nets_with d.nets (south ++ north)) (length d.instances) (south ++ north)) n p at) [ inl old ↦ first old | inr new ↦ second new.0 new.2 ]
  where
    nets : List (List ℕ)
    nets = nets_with d.nets (south ++ north)

    word : Bool → Option (List ℕ)
    word b = cond b (word_of calls p) (slice_get (south ++ north) (p.instance - length calls))

    first : slice_get d.pins n ≡ Some p → slice_get nets (p.net - 1) ≡ word (nat_lt p.instance (length calls))
    first old =
        let net = net-there d good n p old in
        let within = pin-within d good n p old in
        nets-keep d.nets (south ++ north) (p.net - 1) net.0 net.1 ∙ sym net.1 ∙ bear n p old ∙ ap word (sym (nat_lt-is-above p.instance (length calls) (omega arith)))

    second : (k : ℕ) → slice_get (port_pins nets (length d.instances) (south ++ north)) k ≡ Some p → slice_get nets (p.net - 1) ≡ word (nat_lt p.instance (length calls))
    second k new =
        let port = port-word nets (length d.instances) (south ++ north) (among-nets d.nets (south ++ north)) k p new in
        let number : p.instance ≡ length d.instances + k = port.0 in
        let place : p.instance - length calls ≡ k = omega arith in
        port.1.2 ∙ sym port.1.1 ∙ ap (slice_get (south ++ north)) (sym place) ∙ ap word (sym (nat_lt-not-above p.instance (length calls) (omega arith)))

-- where each pin's net bears its word, two pins are in one net exactly where their words are equal
pub words-agree : (word : Pin → Option (List ℕ)) (d : Netlist) → IsNetlist d → BearWords word d → SameNet word d.pins
words-agree word d good bear p q a b at_p at_q = (
  λ same. sym (bear p a at_p) ∙ ap (λ (k : ℕ). slice_get d.nets (k - 1)) same ∙ bear q b at_q,
  λ same. one (bear p a at_p ∙ same ∙ sym (bear q b at_q)),
)
  where
    one : slice_get d.nets (a.net - 1) ≡ slice_get d.nets (b.net - 1) → a.net ≡ b.net
    one same =
        let net = net-there d good p a at_p in
        let first = place-get d.nets (a.net - 1) net.0 good.different_nets net.1 in
        let second = place-get d.nets (b.net - 1) net.0 good.different_nets (sym same ∙ net.1) in
        let range_a = all-get (λ (p : Pin). (0 < p.net) × (p.net ≤ length d.nets)) d.pins p a good.nets at_p in
        let range_b = all-get (λ (p : Pin). (0 < p.net) × (p.net ≤ length d.nets)) d.pins q b good.nets at_q in
        let some_a = range_a.0 in
        let some_b = range_b.0 in
        omega arith
