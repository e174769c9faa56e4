use Rattle.std.proofs.Common.{◌≡◌, ◌≤◌, ℕ, ◌+◌, List, [], ◌∷◌, ◌++◌, length, Option, Some, None, Result, Ok, Err, refl, ap, sym, ◌∙◌, subst, arith, length-append}
use Rattle.std.proofs.lemmas.List.{append-nil}
use Rattle.std.proofs.lemmas.List.Elements.{All-from_recursion, recursion_from_All}
use Rattle.std.specs.List.{range_with_len}
use Rattle.std.specs.List.Sorted.{IsPermutation}
use Rattle.std.specs.Result.{IfOk}
use Rattle.tech_rules.specs.Rules.{RuleValues, ValidRules}
use Rattle.design_model.specs.Netlist.{IsNetlist, Netlist}
use Rattle.design_model.specs.Room.{HasRoom, least_height}
use Rattle.design_model.specs.declared.design.CellKind.{CellKind}
use Rattle.design_model.specs.declared.design.Inst.{Inst}
use Rattle.design_model.specs.declared.design.Pin.{Pin}
use Rattle.netlist_core.specs.OnGrid.{greatest_height}
use Rattle.row_model.specs.Rows.{all_instances, ArePlaced}
use Rattle.row_model.specs.declared.rows.Seat.{Seat}
use Rattle.port_rows.specs.Added.{nets_with, port_instances, port_kind, port_kinds, with_ports}
use Rattle.port_rows.specs.PortRows.{cells_in, HoldCells}
use Rattle.port_rows.specs.Ported.{Agrees, limit_fault, port_fault, ported_with, unless}
use Rattle.port_rows.specs.PortNames.{ArePorts}
use Rattle.port_rows.specs.declared.fault.PortFault.{PortFault}
use Rattle.port_rows.specs.declared.ported.Ported.{Ported}
use Rattle.port_rows.proofs.GoodPorted.{first-none, instances-length, ported-good, second-none}
use Rattle.port_rows.proofs.PortedMade.{clash-free}
use Rattle.port_rows.proofs.PortKinds.{every-port-kind}
use Rattle.std_laws.proofs.Every.{every-append}

-- a design with these ports, and how many they are
abbrev pub with_counts : RuleValues → Netlist → List (List ℕ) → List (List ℕ) → Ported
with_counts rules d south north = record { design = with_ports rules d south north; south = length south; north = length north }

-- an answer that is no refusal
record IsGiven (rules : RuleValues) (modules : List (List ℕ)) (d : Netlist) (south north : List (List ℕ)) (p : Ported) : Type 0 where
  faultless : port_fault rules modules d south north ≡ None
  is : with_counts rules d south north ≡ p

given : (rules : RuleValues) (modules : List (List ℕ)) (d : Netlist) (south north : List (List ℕ)) (p : Ported)
    → ported_with rules modules d south north ≡ Ok p → IsGiven rules modules d south north p
given rules modules d south north p is = by (port_fault rules modules d south north) refl is
  where
    by : (fault : Option PortFault) → port_fault rules modules d south north ≡ fault → unless fault (with_counts rules d south north) ≡ Ok p → IsGiven rules modules d south north p
    by None none e = record { faultless = none; is = same e }
      where
        same : ◌≡◌ {A = Result Ported PortFault} (Ok (with_counts rules d south north)) (Ok p) → with_counts rules d south north ≡ p
        same e = cc
    by (Some fault) none e = absurd (no e)
      where
        no : ◌≡◌ {A = Result Ported PortFault} (Err fault) (Ok p) → ⊥
        no e = cc

-- what the design with its ports has where nothing is wrong with it, each answer has that is one
pub answer-has : (P : Ported → Type 0) (rules : RuleValues) (modules : List (List ℕ)) (d : Netlist) (south north : List (List ℕ)) (answer : Result Ported PortFault)
    → (port_fault rules modules d south north ≡ None → P (with_counts rules d south north)) → Agrees answer (ported_with rules modules d south north) → IfOk answer P
answer-has P rules modules d south north (Ok p) has agrees = let made = given rules modules d south north p agrees in subst P made.is (has made.faultless)
answer-has P rules modules d south north (Err fault) has agrees = tt

-- a design to which nothing is wrong keeps with its ports what every design does
pub faultless-good : (rules : RuleValues) → ValidRules rules → (d : Netlist) → IsNetlist d → (modules south north : List (List ℕ)) → ArePorts south north
    → port_fault rules modules d south north ≡ None → IsNetlist (with_ports rules d south north)
unfolding port_fault
faultless-good rules valid d good modules south north ports none =
    ported-good rules valid d good south north ports (first-none _ _ none)
    (clash-free modules d (port_kinds rules south north) (port_instances (length d.kinds) south north) (second-none (limit_fault d (length south + length north)) _ none))

-- how many instances are no ports
pub cells-count : (rules : RuleValues) (d : Netlist) (south north : List (List ℕ)) → cells_in (with_counts rules d south north) ≡ length d.instances
cells-count rules d south north =
    omega (arith, length-append d.instances (port_instances (length d.kinds) south north), instances-length (length d.kinds) south north)

-- the rows of a design hold the instances that are no ports
pub rows-hold : (rules : RuleValues) (d : Netlist) (south north : List (List ℕ)) (rows : List (List Seat)) → ArePlaced d rows → length rows ≤ 512
    → HoldCells (with_counts rules d south north) rows
rows-hold rules d south north rows placed few = record {
  ports = omega (arith, length-append d.instances (port_instances (length d.kinds) south north), instances-length (length d.kinds) south north);
  some = placed.some;
  few = few;
  once = subst (λ (n : ℕ). IsPermutation (range_with_len 0 n) (all_instances rows)) (sym (cells-count rules d south north)) placed.once;
}

-- a design with ports has room in its kinds where it has without them
pub ports-room : (rules : RuleValues) (d : Netlist) (south north : List (List ℕ)) → HasRoom rules d → HasRoom rules (with_ports rules d south north)
unfolding port_kind
ports-room rules d south north room =
    All-from_recursion (λ (k : CellKind). least_height rules ≤ k.height) (d.kinds ++ port_kinds rules south north)
    (every-append (λ (k : CellKind). least_height rules ≤ k.height) d.kinds (port_kinds rules south north)
    (recursion_from_All (λ (k : CellKind). least_height rules ≤ k.height) d.kinds room)
    (every-port-kind (λ (k : CellKind). least_height rules ≤ k.height) rules south north (omega arith) (omega arith)))

-- a design without ports stays
no-ports : (rules : RuleValues) (d : Netlist) → d.height ≡ greatest_height d.kinds → with_ports rules d [] [] ≡ d
unfolding nets_with
no-ports rules d high =
    ap (λ (x : List CellKind). record (with_ports rules d [] []) { kinds = x; height = greatest_height x }) (append-nil d.kinds)
    ∙ ap (λ (x : ℕ). record (with_ports rules d [] []) { kinds = d.kinds; height = x }) (sym high)
    ∙ ap (λ (x : List Inst). record (with_ports rules d [] []) { kinds = d.kinds; height = d.height; instances = x }) (append-nil d.instances)
    ∙ ap (λ (x : List Pin). record d { pins = x }) (append-nil d.pins)

pub ports-none : (rules : RuleValues) (d : Netlist) (south north : List (List ℕ)) → d.height ≡ greatest_height d.kinds → length south + length north ≡ 0 → with_ports rules d south north ≡ d
ports-none rules d [] [] high none = no-ports rules d high
ports-none rules d [] (p ∷ ps) high none = absurd (omega arith)
ports-none rules d (p ∷ ps) north high none = absurd (omega arith)
