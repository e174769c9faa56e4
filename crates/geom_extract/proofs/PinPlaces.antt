use Rattle.std.proofs.Common.{◌≡◌, ◌<◌, ◌+◌, ◌^◌, ◌∙◌, ℕ, List, true, false, Option, Some, None, length, get_or, ap, sym, subst, refl, arith, Contains}
use Rattle.std.specs.List.{list_any, slice_get}
use Rattle.std.specs.Option.{option_map}
use Rattle.std.specs.Prelude.{◌==◌, slice_index}
use Rattle.std.proofs.lemmas.List.{length-map}
use Rattle.std.proofs.lemmas.Option.{get_or_from_slice_get, slice_get-get_or, slice_get-map, slice_get_within}
use Rattle.design_model.specs.Netlist.{IsKind, IsNetlist, Netlist, terminals_of_kind}
use Rattle.design_model.specs.PinOrder.{kind_terminals, pin_pair, power_at}
use Rattle.design_model.specs.declared.design.CellKind.{CellKind}
use Rattle.design_model.specs.declared.design.Inst.{Inst}
use Rattle.design_model.specs.declared.design.Pin.{Pin}
use Rattle.design_model.specs.declared.design.Position.{Position}
use Rattle.design_model.specs.declared.design.Terminal.{Terminal}
use Rattle.design_model.proofs.DesignPins.{pin-within}
use Rattle.design_model.proofs.PinsInOrder.{pin-free}
use Rattle.geom_extract.specs.CellTies.{ArePlaces, Placing, first_place, first_places, positions_at, positions_of_inst, positions_of_kind}
use Rattle.geom_extract.proofs.FirstPlaces.{IsFirst, first-long, first-read, first-there}
use Rattle.std_laws.proofs.Members.{all-get, contains-get}
use Rattle.std_laws.proofs.Places.{at-place}

-- an instance of a design, and its kind
pub record IsOfKind (d : Netlist) (instance : ℕ) : Type 0 where
  pub inst : Inst
  pub kind : CellKind
  pub is_instance : slice_get d.instances instance ≡ Some inst
  pub is_kind : slice_get d.kinds inst.kind ≡ Some kind
  pub good : IsKind kind

pub of-kind : (d : Netlist) (instance : ℕ) → IsNetlist d → instance < length d.instances → IsOfKind d instance
of-kind d instance good below =
    let found = at-place d.instances instance below in
    let within : found.0.kind < length d.kinds = all-get (λ (i : Inst). i.kind < length d.kinds) d.instances instance found.0 good.instances found.1 in
    let kind = at-place d.kinds found.0.kind within in
    record { inst = found.0; kind = kind.0; is_instance = found.1; is_kind = kind.1; good = all-get IsKind d.kinds found.0.kind kind.0 good.kinds kind.1 }

pub positions-are : (d : Netlist) (instance : ℕ) (inst : Inst) (kind : CellKind) → slice_get d.instances instance ≡ Some inst
    → slice_get d.kinds inst.kind ≡ Some kind → positions_at d instance ≡ kind.positions
positions-are d instance inst kind is is_kind = ap (positions_of_inst d.kinds) is ∙ ap positions_of_kind is_kind

-- a pin's terminal is one of its instance's kind, which has a position
pub record IsPinOf (d : Netlist) (p : Pin) : Type 0 where
  pub of : IsOfKind d p.instance
  pub within : p.terminal < length of.kind.terminals
  pub reached : list_any (λ (q : Position). q.terminal == p.terminal) of.kind.positions ≡ true

pub pin-of : (d : Netlist) (n : ℕ) (p : Pin) → IsNetlist d → slice_get d.pins n ≡ Some p → IsPinOf d p
pin-of d n p good is =
    let of : IsOfKind d p.instance = of-kind d p.instance good (pin-within d good n p is) in
    let free : power_at (kind_terminals d.kinds (slice_get d.instances p.instance)) p.terminal ≡ Some false =
    pin-free d good n p.instance p.terminal (ap (option_map pin_pair) is) in
    let there : option_map (λ (t : Terminal). t.power) (slice_get of.kind.terminals p.terminal) ≡ Some false =
    sym (ap (λ (o : Option Inst). power_at (kind_terminals d.kinds o) p.terminal) of.is_instance
    ∙ ap (λ (o : Option CellKind). power_at (terminals_of_kind o) p.terminal) of.is_kind) ∙ free in
    by of (slice_get of.kind.terminals p.terminal) refl there
  where
    by : (of : IsOfKind d p.instance) (o : Option Terminal) → slice_get of.kind.terminals p.terminal ≡ o
        → option_map (λ (t : Terminal). t.power) o ≡ Some false → IsPinOf d p
    by of None at free = let never : ⊥ = cc in absurd never
    by of (Some t) at free =
        let power : t.power ≡ false = cc in
        record { of = of; within = slice_get_within of.kind.terminals p.terminal t at; reached = of.good.reached p.terminal t at power }

-- what a table says of the terminal of a pin
pub record PinRead (positions : List Position) (table : List ℕ) (terminal : ℕ) : Type 0 where
  pub within : terminal < length table
  pub reads : slice_index table terminal ≡ first_place positions terminal
  pub below : first_place positions terminal < length positions

pin-read : (d : Netlist) (p : Pin) (pin : IsPinOf d p) (table : List ℕ) → table ≡ first_places pin.of.kind
    → PinRead (positions_at d p.instance) table p.terminal
pin-read d p pin table tabled =
    let kind : CellKind = pin.of.kind in
    let same : positions_at d p.instance ≡ kind.positions = positions-are d p.instance pin.of.inst kind pin.of.is_instance pin.of.is_kind in
    let first : IsFirst kind.positions p.terminal = first-there kind.positions p.terminal pin.reached in
    let below : first_place kind.positions p.terminal < length kind.positions =
    slice_get_within kind.positions (first_place kind.positions p.terminal) first.position first.is in
    let long : length table ≡ length kind.terminals = ap (λ (l : List ℕ). length l) tabled ∙ first-long kind in
    let within : p.terminal < length kind.terminals = pin.within in
    record {
      within = omega arith;
      reads = ap (λ (l : List ℕ). slice_index l p.terminal) tabled ∙ first-read kind p.terminal within
          ∙ ap (λ (l : List Position). first_place l p.terminal) (sym same);
      below = subst (λ (l : List Position). first_place l p.terminal < length l) (sym same) below;
    }

-- what is read in the tables of places on the way to a pin's shape
pub record PinLookup (places : Placing) (p : Pin) (i : Inst) : Type 0 where
  pub kind : i.kind < length places.firsts
  pub table : (table : List ℕ) → table ≡ get_or places.firsts i.kind table → PinRead (positions_at places.design p.instance) table p.terminal
  pub room : slice_index places.starts p.instance + length (positions_at places.design p.instance) < 2 ^ 32

pub pin-instance : (d : Netlist) (p : Pin) → IsNetlist d → Contains d.pins p → p.instance < length d.instances
pin-instance d p good listed = pin-within d good listed.0 p (contains-get d.pins p listed)

pub pin-lookup : (places : Placing) (p : Pin) (insts : List Inst) (i : Inst) → IsNetlist places.design → ArePlaces places → Contains places.design.pins p
    → insts ≡ places.design.instances → i ≡ get_or insts p.instance i → PinLookup places p i
pin-lookup places p insts i good are listed same read =
    let d : Netlist = places.design in
    let pin : IsPinOf d p = pin-of d listed.0 p good (contains-get d.pins p listed) in
    let below : p.instance < length d.instances = pin-instance d p good listed in
    let at : slice_get d.instances p.instance ≡ Some (get_or d.instances p.instance i) = slice_get-get_or d.instances p.instance i below in
    let is : i ≡ get_or d.instances p.instance i = read ∙ ap (λ (l : List Inst). get_or l p.instance i) same in
    let one : pin.of.inst ≡ i = cc (pin.of.is_instance, at, is) in
    let is_kind : slice_get d.kinds i.kind ≡ Some pin.of.kind = ap (λ (j : Inst). slice_get d.kinds j.kind) (sym one) ∙ pin.of.is_kind in
    let within : i.kind < length d.kinds = slice_get_within d.kinds i.kind pin.of.kind is_kind in
    let long : length places.firsts ≡ length d.kinds = ap (λ (l : List (List ℕ)). length l) are.firsts ∙ length-map d.kinds first_places in
    let there : slice_get places.firsts i.kind ≡ Some (first_places pin.of.kind) =
    ap (λ (l : List (List ℕ)). slice_get l i.kind) are.firsts ∙ slice_get-map first_places d.kinds i.kind ∙ ap (option_map first_places) is_kind in
    record {
      kind = omega arith;
      table = λ table reads.
          pin-read d p pin table (reads ∙ get_or_from_slice_get places.firsts i.kind (first_places pin.of.kind) table there);
      room = are.room p.instance below;
    }
