use Rattle.std.proofs.Common.{◌≡◌, ◌<◌, ◌≤◌, ℕ, suc, ◌+◌, ◌-◌, List, [], ◌∷◌, ◌++◌, length, map, Bool, true, false, cond, ◌||◌, Option, Some, None, refl, ap, ap₂, sym, ◌∙◌, subst, arith, length-append}
use Rattle.std.proofs.lemmas.Bool.{and_from, and_parts}
use Rattle.std.proofs.lemmas.Bool.Decides.{nat_tests}
use Rattle.std.proofs.lemmas.List.{length-map, map-append}
use Rattle.std.proofs.lemmas.List.Elements.{All-from_recursion, recursion_from_All}
use Rattle.std.proofs.lemmas.List.Folds.{list_any-append}
use Rattle.std.specs.List.{AllByRecursion, IsDistinct, list_all, list_any}
use Rattle.std.specs.Prelude.{◌==◌, codes, nat_le, nat_lt}
use Rattle.std.specs.Str.{bytes_eq}
use Rattle.geom_core.specs.Names.{is_name_byte, IsName}
use Rattle.tech_rules.specs.Rules.{RuleValues, ValidRules}
use Rattle.design_model.specs.CellsMatch.{instance_names}
use Rattle.design_model.specs.Netlist.{all_pins, IsKind, IsNetlist, Netlist}
use Rattle.design_model.specs.PinOrder.{pin_pair}
use Rattle.design_model.specs.declared.design.CellKind.{CellKind}
use Rattle.design_model.specs.declared.design.Inst.{Inst}
use Rattle.design_model.specs.declared.design.Pin.{Pin}
use Rattle.netlist_core.specs.OnGrid.{greatest_height}
use Rattle.netlist_core.specs.declared.fault.Count.{Count}
use Rattle.port_rows.specs.Added.{instance_name, nets_with, north_number, port_instance, port_instances, port_kinds, port_pins, with_ports}
use Rattle.port_rows.specs.PortNames.{ArePorts}
use Rattle.port_rows.specs.Ported.{first_among, inst_names, limit_fault, or_fault, over}
use Rattle.port_rows.specs.declared.fault.PortFault.{PortFault}
use Rattle.port_rows.specs.declared.fault.PortFault.TheVariants as faults
use Rattle.port_rows.proofs.KindsFew.{kinds-few}
use Rattle.port_rows.proofs.MoreNets.{among-nets, new-used, nets-different, nets-longer, port-range}
use Rattle.port_rows.proofs.PortKinds.{every-instance, kinds-good, north-terminals, north-within, port-called, south-number, south-terminals}
use Rattle.port_rows.proofs.PortPins.{pins-append, pins-kept, pins-of-ports, port-pins-append, port-pins-length}
use Rattle.std_laws.proofs.Every.{All-from_members, every-append, every-left, every-map, every-right, every-weaker}
use Rattle.std_laws.proofs.Greatest.{greatest-bound, greatest-few}
use Rattle.std_laws.proofs.Bytes.{bytes_flip}
use Rattle.std_laws.proofs.Tests.{nat_lt-above, nat_lt-is-within, or-first-false, or-second-false}

-- where none of two faults stands, neither does
pub first-none : (a b : Option PortFault) → or_fault a b ≡ None → a ≡ None
first-none None b h = refl
first-none (Some fault) b h = h

pub second-none : (a b : Option PortFault) → or_fault a b ≡ None → b ≡ None
second-none None b h = h
second-none (Some fault) b h = cc

not-over : (count : Count) (most n : ℕ) → over count most n ≡ None → n ≤ most
not-over count most n h = nat_lt-is-within most n (by (nat_lt most n) h)
  where
    by : (b : Bool) → ◌≡◌ {A = Option PortFault} (cond b (Some (faults.Limit count n)) None) None → b ≡ false
    by true e = cc
    by false e = refl

-- a design without a fault of limits has room for its ports
pub few-enough : (d : Netlist) (ports : ℕ) → limit_fault d ports ≡ None → (length d.instances + ports ≤ 20000) × (length d.pins + ports ≤ 200000)
unfolding limit_fault
few-enough d ports h = (not-over _ 20000 (length d.instances + ports) (first-none _ _ h), not-over _ 200000 (length d.pins + ports) (second-none _ _ h))

-- as many instances as ports
pub instances-length : (kinds : ℕ) (south north : List (List ℕ)) → length (port_instances kinds south north) ≡ length south + length north
instances-length kinds south north =
    let below = length-map south (port_instance kinds) in
    let above = length-map north (port_instance (north_number kinds south)) in
    omega (arith, length-append (map (port_instance kinds) south) (map (port_instance (north_number kinds south)) north))

-- the names of the ports' instances
names-of : (kind : ℕ) (ports : List (List ℕ)) → inst_names (map (port_instance kind) ports) ≡ map instance_name ports
names-of kind [] = refl
names-of kind (p ∷ ps) = ap (λ (l : List (List ℕ)). instance_name p ∷ l) (names-of kind ps)

pub instances-named : (kinds : ℕ) (south north : List (List ℕ)) → inst_names (port_instances kinds south north) ≡ map instance_name (south ++ north)
instances-named kinds south north =
    map-append (λ (i : Inst). i.name) (map (port_instance kinds) south) (map (port_instance (north_number kinds south)) north)
    ∙ ap₂ (λ (a b : List (List ℕ)). a ++ b) (names-of kinds south) (names-of (north_number kinds south) north)
    ∙ sym (map-append instance_name south north)

name-differs : (name : List ℕ) (ports : List (List ℕ)) → AllByRecursion (λ (p : List ℕ). bytes_eq name p ≡ false) ports
    → AllByRecursion (λ (p : List ℕ). bytes_eq (instance_name name) p ≡ false) (map instance_name ports)
name-differs name [] h = tt
name-differs name (p ∷ ps) h = (h.0, name-differs name ps h.1)

-- they are different where the ports are
names-different : (ports : List (List ℕ)) → IsDistinct bytes_eq ports → IsDistinct bytes_eq (map instance_name ports)
unfolding IsDistinct
names-different [] h = tt
names-different (p ∷ ps) h = (name-differs p ps h.0, names-different ps h.1)

-- none of the second names is among the first
none-among : (there names : List (List ℕ)) → first_among there names ≡ None → AllByRecursion (λ (n : List ℕ). list_any (bytes_eq n) there ≡ false) names
none-among there [] h = tt
none-among there (n ∷ ns) h = by (list_any (bytes_eq n) there) refl h (λ h. none-among there ns h)
  where
    by : (b : Bool) → list_any (bytes_eq n) there ≡ b → ◌≡◌ {A = Option (List ℕ)} (cond b (Some n) (first_among there ns)) None
        → (first_among there ns ≡ None → AllByRecursion (λ (n : List ℕ). list_any (bytes_eq n) there ≡ false) ns)
        → (list_any (bytes_eq n) there ≡ false) × AllByRecursion (λ (n : List ℕ). list_any (bytes_eq n) there ≡ false) ns
    by true is e more = cc
    by false is e more = (is, more e)

-- different names before others that are none of them are different
distinct-joined : (xs ys : List (List ℕ)) → IsDistinct bytes_eq xs → IsDistinct bytes_eq ys → AllByRecursion (λ (y : List ℕ). list_any (bytes_eq y) xs ≡ false) ys
    → IsDistinct bytes_eq (xs ++ ys)
unfolding IsDistinct
distinct-joined [] ys a b other = b
distinct-joined (x ∷ xs) ys a b other = (
  every-append (λ (y : List ℕ). bytes_eq x y ≡ false) xs ys a.0
      (every-weaker (λ (y : List ℕ). list_any (bytes_eq y) (x ∷ xs) ≡ false) (λ (y : List ℕ). bytes_eq x y ≡ false) (λ y h. bytes_flip y x (or-first-false (bytes_eq y x) (list_any (bytes_eq y) xs) h)) ys other),
  distinct-joined xs ys a.1 b
      (every-weaker (λ (y : List ℕ). list_any (bytes_eq y) (x ∷ xs) ≡ false) (λ (y : List ℕ). list_any (bytes_eq y) xs ≡ false) (λ y h. or-second-false (bytes_eq y x) (list_any (bytes_eq y) xs) h) ys other),
)

-- what holds of each port's instance on one side
every-side : (P : Inst → Type 0) (kind : ℕ) (ports : List (List ℕ)) → AllByRecursion (λ (p : List ℕ). P (port_instance kind p)) ports
    → AllByRecursion P (map (port_instance kind) ports)
every-side P kind ports h = every-map P (port_instance kind) ports h

-- each port's kind is one of the kinds
kinds-within : (rules : RuleValues) (kinds : ℕ) (south north : List (List ℕ))
    → AllByRecursion (λ (i : Inst). i.kind < kinds + length (port_kinds rules south north)) (port_instances kinds south north)
kinds-within rules kinds south north =
    every-instance (λ (i : Inst). i.kind < kinds + length (port_kinds rules south north)) kinds south north
    (all kinds south (λ some. let within = south-number rules south north some in omega arith))
    (all (north_number kinds south) north (λ some. north-within rules kinds south north some))
  where
    all : (kind : ℕ) (ports : List (List ℕ)) → (0 < length ports → kind < kinds + length (port_kinds rules south north))
        → AllByRecursion (λ (i : Inst). i.kind < kinds + length (port_kinds rules south north)) (map (port_instance kind) ports)
    all kind [] h = tt
    all kind (p ∷ ps) h = let one : 0 < length (p ∷ ps) = omega arith in (h one, all kind ps (λ some. h one))

-- each kind has an instance
all-called : (rules : RuleValues) (d : Netlist) (south north : List (List ℕ)) → IsNetlist d → (n : ℕ) → n < length (d.kinds ++ port_kinds rules south north)
    → list_any (λ (i : Inst). i.kind == n) (d.instances ++ port_instances (length d.kinds) south north) ≡ true
all-called rules d south north good n within =
    list_any-append (λ (i : Inst). i.kind == n) d.instances (port_instances (length d.kinds) south north)
    ∙ by (nat_lt n (length d.kinds)) refl
  where
    first : (a b : Bool) → a ≡ true → (a || b) ≡ true
    first a b e = ap (λ (c : Bool). c || b) e

    second : (a b : Bool) → b ≡ true → (a || b) ≡ true
    second true b e = refl
    second false b e = e

    by : (b : Bool) → nat_lt n (length d.kinds) ≡ b
        → (list_any (λ (i : Inst). i.kind == n) d.instances || list_any (λ (i : Inst). i.kind == n) (port_instances (length d.kinds) south north)) ≡ true
    by true is = first (list_any (λ (i : Inst). i.kind == n) d.instances) (list_any (λ (i : Inst). i.kind == n) (port_instances (length d.kinds) south north))
        (good.called n (nat_lt-above n (length d.kinds) is))
    by false is =
        let behind : length d.kinds ≤ n = nat_lt-is-within n (length d.kinds) is in
        let long = length-append d.kinds (port_kinds rules south north) in
        let place : length d.kinds + (n - length d.kinds) ≡ n = omega arith in
        second (list_any (λ (i : Inst). i.kind == n) d.instances) (list_any (λ (i : Inst). i.kind == n) (port_instances (length d.kinds) south north))
        (subst (λ (k : ℕ). list_any (λ (i : Inst). i.kind == k) (port_instances (length d.kinds) south north) ≡ true) place
        (port-called rules (length d.kinds) (n - length d.kinds) south north (omega arith)))

-- the pins are those of the instances
all-pinned : (rules : RuleValues) (d : Netlist) (south north : List (List ℕ)) → IsNetlist d
    → map pin_pair (with_ports rules d south north).pins ≡ all_pins (with_ports rules d south north).kinds 0 (with_ports rules d south north).instances
all-pinned rules d south north good =
    let kinds = d.kinds ++ port_kinds rules south north in
    let nets = nets_with d.nets (south ++ north) in
    let n = length d.instances in
    let k = length d.kinds in
    let count = length-map south (port_instance k) in
    let old : map pin_pair d.pins ≡ all_pins kinds 0 d.instances =
    good.pins ∙ sym (pins-kept d.kinds (port_kinds rules south north) 0 d.instances (recursion_from_All (λ (i : Inst). i.kind < length d.kinds) d.instances good.instances)) in
    let lower = pins-of-ports kinds nets (codes "p") k n south (south-terminals rules d.kinds south north) in
    let upper = pins-of-ports kinds nets (codes "p") (north_number k south) (n + length south) north (north-terminals rules d.kinds south north) in
    let new : map pin_pair (port_pins nets n (south ++ north)) ≡ all_pins kinds n (port_instances k south north) =
    ap (map pin_pair) (port-pins-append nets n south north)
    ∙ map-append pin_pair (port_pins nets n south) (port_pins nets (n + length south) north)
    ∙ ap₂ (λ (a b : List (ℕ × ℕ)). a ++ b) (sym lower) (sym upper)
    ∙ ap (λ (c : ℕ). all_pins kinds n (map (port_instance k) south) ++ all_pins kinds (n + c) (map (port_instance (north_number k south)) north)) (sym count)
    ∙ sym (pins-append kinds n (map (port_instance k) south) (map (port_instance (north_number k south)) north)) in
    map-append pin_pair d.pins (port_pins nets n (south ++ north))
    ∙ ap₂ (λ (a b : List (ℕ × ℕ)). a ++ b) old new
    ∙ ap (λ (c : ℕ). all_pins kinds 0 d.instances ++ all_pins kinds c (port_instances k south north)) first
    ∙ sym (pins-append kinds 0 d.instances (port_instances k south north))
  where
    first : length d.instances ≡ 0 + length d.instances
    first = omega arith

-- each net has a pin
all-used : (d : Netlist) (ports : List (List ℕ)) → IsNetlist d → (n : ℕ) → 0 < n → n ≤ length (nets_with d.nets ports)
    → list_any (λ (p : Pin). p.net == n) (d.pins ++ port_pins (nets_with d.nets ports) (length d.instances) ports) ≡ true
all-used d ports good n some within =
    list_any-append (λ (p : Pin). p.net == n) d.pins (port_pins (nets_with d.nets ports) (length d.instances) ports)
    ∙ by (nat_lt (length d.nets) n) refl
  where
    pins : List Pin
    pins = port_pins (nets_with d.nets ports) (length d.instances) ports

    second : (a b : Bool) → b ≡ true → (a || b) ≡ true
    second true b e = refl
    second false b e = e

    by : (b : Bool) → nat_lt (length d.nets) n ≡ b → (list_any (λ (p : Pin). p.net == n) d.pins || list_any (λ (p : Pin). p.net == n) pins) ≡ true
    by true is = second (list_any (λ (p : Pin). p.net == n) d.pins) (list_any (λ (p : Pin). p.net == n) pins)
        (new-used d.nets ports (length d.instances) n good.different_nets (nat_lt-above (length d.nets) n is) within)
    by false is = ap (λ (c : Bool). c || list_any (λ (p : Pin). p.net == n) pins) (good.used n some (nat_lt-is-within (length d.nets) n is))

-- a design with its ports is a good one
pub ported-good : (rules : RuleValues) → ValidRules rules → (d : Netlist) → IsNetlist d → (south north : List (List ℕ)) → ArePorts south north
    → limit_fault d (length south + length north) ≡ None → first_among (instance_names d) (inst_names (port_instances (length d.kinds) south north)) ≡ None
    → IsNetlist (with_ports rules d south north)
ported-good rules valid d good south north ports small free =
    let more = port_kinds rules south north in
    let kinds = d.kinds ++ more in
    let added = port_instances (length d.kinds) south north in
    let instances = d.instances ++ added in
    let nets = nets_with d.nets (south ++ north) in
    let pins = port_pins nets (length d.instances) (south ++ north) in
    let few = few-enough d (length south + length north) small in
    let few_instances : length instances ≤ 20000 = let long = few.0 in omega (arith, length-append d.instances added, instances-length (length d.kinds) south north) in
    let called = all-called rules d south north good in
    let few_kinds : length kinds ≤ length instances = kinds-few (length kinds) instances called in
    let every = every-append IsKind d.kinds more (recursion_from_All IsKind d.kinds good.kinds) (kinds-good rules valid south north) in
    let among = among-nets d.nets (south ++ north) in
    record {
      few_kinds = omega arith;
      called = called;
      few_instances = few_instances;
      few_pins = let long = few.1 in omega (arith, length-append d.pins pins, port-pins-length nets (length d.instances) (south ++ north), length-append south north);
      low = greatest-few 200000000 0 (map (λ (k : CellKind). k.height) kinds) (omega arith)
          (every-map (λ (n : ℕ). n ≤ 200000000) (λ (k : CellKind). k.height) kinds (every-weaker IsKind (λ (k : CellKind). k.height ≤ 200000000) (λ k good. good.low) kinds every));
      highest = All-from_members (λ (k : CellKind). k.height ≤ greatest_height kinds) kinds (greatest-bound (λ (k : CellKind). k.height) 0 kinds);
      kinds = All-from_recursion IsKind kinds every;
      instances = All-from_recursion (λ (i : Inst). i.kind < length kinds) instances
          (subst (λ (n : ℕ). AllByRecursion (λ (i : Inst). i.kind < n) instances) (sym (length-append d.kinds more))
          (every-append (λ (i : Inst). i.kind < length d.kinds + length more) d.instances added
          (every-weaker (λ (i : Inst). i.kind < length d.kinds) (λ (i : Inst). i.kind < length d.kinds + length more) (λ i h. farther i.kind h) d.instances
          (recursion_from_All (λ (i : Inst). i.kind < length d.kinds) d.instances good.instances))
          (kinds-within rules (length d.kinds) south north)));
      instance_names = All-from_recursion (λ (i : Inst). IsName i.name) instances
          (every-append (λ (i : Inst). IsName i.name) d.instances added (recursion_from_All (λ (i : Inst). IsName i.name) d.instances good.instance_names)
          (every-instance (λ (i : Inst). IsName i.name) (length d.kinds) south north
          (every-side (λ (i : Inst). IsName i.name) (length d.kinds) south (every-weaker IsName (λ (p : List ℕ). IsName (instance_name p)) name-good south (every-left IsName south north ports.named)))
          (every-side (λ (i : Inst). IsName i.name) (north_number (length d.kinds) south) north
          (every-weaker IsName (λ (p : List ℕ). IsName (instance_name p)) name-good north (every-right IsName south north ports.named)))));
      different_instances = subst (λ (names : List (List ℕ)). IsDistinct bytes_eq names)
          (sym (map-append (λ (i : Inst). i.name) d.instances added))
          (distinct-joined (inst_names d.instances) (inst_names added) good.different_instances
          (subst (λ (names : List (List ℕ)). IsDistinct bytes_eq names) (sym (instances-named (length d.kinds) south north)) (names-different (south ++ north) ports.different))
          (none-among (instance_names d) (inst_names added) free));
      different_nets = nets-different d.nets (south ++ north) good.different_nets;
      pins = all-pinned rules d south north good;
      nets = All-from_recursion (λ (p : Pin). (0 < p.net) × (p.net ≤ length nets)) (d.pins ++ pins)
          (every-append (λ (p : Pin). (0 < p.net) × (p.net ≤ length nets)) d.pins pins
          (every-weaker (λ (p : Pin). (0 < p.net) × (p.net ≤ length d.nets)) (λ (p : Pin). (0 < p.net) × (p.net ≤ length nets)) (λ p h. (h.0, longer p.net h.1)) d.pins
          (recursion_from_All (λ (p : Pin). (0 < p.net) × (p.net ≤ length d.nets)) d.pins good.nets))
          (port-range nets (length d.instances) (south ++ north) among));
      used = all-used d (south ++ north) good;
    }
  where
    farther : (k : ℕ) → k < length d.kinds → k < length d.kinds + length (port_kinds rules south north)
    farther k h = omega arith

    longer : (n : ℕ) → n ≤ length d.nets → n ≤ length (nets_with d.nets (south ++ north))
    longer n h = let more = nets-longer d.nets (south ++ north) in omega arith

    name-good : (name : List ℕ) → IsName name → IsName (instance_name name)
    name-good name h =
        let parts = and_parts (nat_le 1 (length name)) (list_all is_name_byte name) h in
        and_from (nat_le 1 (length (instance_name name))) (list_all is_name_byte name) (some (length name)) parts.1
      where
        some : (n : ℕ) → nat_le 1 (suc (suc (suc (suc (suc n))))) ≡ true
        some n = grind (arith, nat_tests)
