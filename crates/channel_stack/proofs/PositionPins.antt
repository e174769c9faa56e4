use Rattle.std.proofs.Common.{◌≡◌, ◌≢◌, refl, sym, ap, ◌∙◌, ℕ, ◌<◌, List, [], ◌∷◌, length, map, Bool, true, false, cond, eqb, ◌&&◌, Option, Some, None, Contains, arith}
use Rattle.std.proofs.lemmas.Bool.{and_from, and_parts, both_ways, eq-eqb, eqb-true}
use Rattle.std.proofs.lemmas.List.Elements.{All-contains}
use Rattle.std.proofs.lemmas.Option.{same_Some, slice_get-get_or}
use Rattle.std.specs.List.{AllByRecursion, find}
use Rattle.std.specs.Option.{option_and_then, option_map}
use Rattle.std.specs.Prelude.{get_or, slice_get}
use Rattle.row_model.proofs.WidthLaws.{kind-good}
use Rattle.design_model.specs.Netlist.{Netlist, IsNetlist, IsPosition, terminals_of_kind}
use Rattle.design_model.specs.PinOrder.{instance_terminals, kind_terminals, pin_pair, power_at}
use Rattle.design_model.specs.declared.design.CellKind.{CellKind}
use Rattle.design_model.specs.declared.design.Inst.{Inst}
use Rattle.design_model.specs.declared.design.Pin.{Pin}
use Rattle.design_model.specs.declared.design.Position.{Position}
use Rattle.design_model.specs.declared.design.Terminal.{Terminal}
use Rattle.design_model.proofs.PinsInOrder.{no-pin-power}
use Rattle.row_model.specs.Stands.{positions_in, positions_of}
use Rattle.row_model.specs.Widths.{kind_of}
use Rattle.std_laws.proofs.Members.{find-passes}

-- the terminal of a position is one of its cell's, and no power terminal
record IsFree (terminals : List Terminal) (terminal : ℕ) : Type 0 where
  within : terminal < length terminals
  free : power_at terminals terminal ≡ Some false

free-in : (kind : CellKind) (q : Position) → IsPosition kind q → IsFree kind.terminals q.terminal
free-in kind q is =
    let nothing : Terminal = record { name = []; power = false } in
    let found : Terminal = get_or kind.terminals q.terminal nothing in
    let at : slice_get kind.terminals q.terminal ≡ Some found = slice_get-get_or kind.terminals q.terminal nothing is.within in
    record { within = is.within; free = ap (option_map (λ (t : Terminal). t.power)) at ∙ ap (λ (b : Bool). Some b) (is.terminal found at) }

free-of : (d : Netlist) → IsNetlist d → (instance : ℕ) (q : Position) → Contains (positions_of d instance) q → IsFree (instance_terminals d instance) q.terminal
free-of d good instance q member = by_instance (slice_get d.instances instance) refl member
  where
    by_kind : (kind : Option CellKind) → ((k : CellKind) → kind ≡ Some k → kind_of d instance ≡ Some k) → Contains (positions_in kind) q → IsFree (terminals_of_kind kind) q.terminal
    by_kind None is member = absurd (omega (arith, member.1))
    by_kind (Some kind) is member = free-in kind q (All-contains (IsPosition kind) kind.positions q (kind-good d good instance kind (is kind refl)).positions member)

    by_instance : (i : Option Inst) → slice_get d.instances instance ≡ i → Contains (positions_in (option_and_then (λ (i : Inst). slice_get d.kinds i.kind) i)) q
        → IsFree (kind_terminals d.kinds i) q.terminal
    by_instance None at member = absurd (omega (arith, member.1))
    by_instance (Some i) at member =
        by_kind (slice_get d.kinds i.kind) (λ k is. ap (option_and_then (λ (i : Inst). slice_get d.kinds i.kind)) at ∙ is) member

-- whether a pin is at a terminal of an instance
abbrev is_at : ℕ → ℕ → Pin → Bool
is_at instance terminal p = eqb p.instance instance && eqb p.terminal terminal

-- where none is found, none is there
none-there : (instance terminal : ℕ) (pins : List Pin) → find (is_at instance terminal) pins ≡ None
    → AllByRecursion (λ (pair : ℕ × ℕ). pair ≢ (instance, terminal)) (map pin_pair pins)
none-there instance terminal [] none = tt
none-there instance terminal (p ∷ pins) none = by (is_at instance terminal p) refl none (λ later. none-there instance terminal pins later)
  where
    differs : is_at instance terminal p ≡ false → pin_pair p ≢ (instance, terminal)
    differs is same =
        both_ways (is_at instance terminal p) is
        (and_from (eqb p.instance instance) (eqb p.terminal terminal) (eq-eqb p.instance instance (ap (λ (pair : ℕ × ℕ). pair.0) same))
        (eq-eqb p.terminal terminal (ap (λ (pair : ℕ × ℕ). pair.1) same)))

    by : (b : Bool) → is_at instance terminal p ≡ b → cond b (Some p) (find (is_at instance terminal) pins) ≡ None
        → (find (is_at instance terminal) pins ≡ None → AllByRecursion (λ (pair : ℕ × ℕ). pair ≢ (instance, terminal)) (map pin_pair pins))
        → AllByRecursion (λ (pair : ℕ × ℕ). pair ≢ (instance, terminal)) (map pin_pair (p ∷ pins))
    by true is none more = absurd (cc)
    by false is none more = (differs is, more none)

-- a pin at a terminal of an instance
pub record PinAt (d : Netlist) (instance terminal : ℕ) : Type 0 where
  pub pin : Pin
  pub listed : Contains d.pins pin
  pub instance_is : pin.instance ≡ instance
  pub terminal_is : pin.terminal ≡ terminal

-- each position of a cell is of a pin
pub position-pin : (d : Netlist) → IsNetlist d → (instance : ℕ) (q : Position) → Contains (positions_of d instance) q → PinAt d instance q.terminal
position-pin d good instance q member = by (find (is_at instance q.terminal) d.pins) refl
  where
    by : (o : Option Pin) → find (is_at instance q.terminal) d.pins ≡ o → PinAt d instance q.terminal
    by None is =
        let free = free-of d good instance q member in
        let power = no-pin-power d good instance q.terminal free.within (none-there instance q.terminal d.pins is) in
        absurd (both_ways true (same_Some true false (sym power ∙ free.free)) refl)
    by (Some p) is =
        let passes = find-passes (is_at instance q.terminal) d.pins p is in
        let parts = and_parts (eqb p.instance instance) (eqb p.terminal q.terminal) passes.0 in
        record { pin = p; listed = passes.1; instance_is = eqb-true p.instance instance parts.0; terminal_is = eqb-true p.terminal q.terminal parts.1 }
