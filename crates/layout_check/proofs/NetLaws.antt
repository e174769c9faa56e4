use Rattle.std.proofs.Common.{◌≡◌, ◌↔◌, ℕ, List, [], ◌++◌, Some, map, ap₂}
use Rattle.std.specs.Prelude.{Contains}
use Rattle.std.specs.List.{slice_get}
use Rattle.geom_core.specs.declared.layout.Layout.{Layout}
use Rattle.tech_rules.specs.Rules.{RuleValues}
use Rattle.design_model.specs.Joined.{PinsJoined}
use Rattle.design_model.specs.Netlist.{Netlist}
use Rattle.design_model.specs.declared.design.Pin.{Pin}
use Rattle.geom_extract.specs.Extracts.{IsExtract}
use Rattle.geom_extract.specs.declared.joined.Extract.{Extract}
use Rattle.layout_check.specs.Findings.{net_findings}
use Rattle.layout_check.specs.NetFaults.{opened, shorted}
use Rattle.layout_check.specs.declared.finding.Finding.TheVariants.{Opened, Short}
use Rattle.layout_check.proofs.PinGroups.{opened-none, shorted-none}
use Rattle.std_laws.proofs.Members.{contains-get, get-contains}
use Rattle.std_laws.proofs.Slices.{both-empty}
use Rattle.std_laws.proofs.Images.{none-mapped}

-- pins are joined just where they are of one net
abbrev pub JoinNets : RuleValues → Netlist → Layout → Type 0
JoinNets r d l = (p q : Pin) → Contains d.pins p → Contains d.pins q → PinsJoined r d l p q ↔ (p.net ≡ q.net)

module _ (r : RuleValues) (d : Netlist) (l : Layout) (e : Extract) (extract : IsExtract r d l e) where
  pub none-join : net_findings d e.pins.items ≡ [] → JoinNets r d l
  none-join none p q p_in q_in =
      let both = both-empty (map (λ (o : ℕ × ℕ). Opened o.0 o.1) (opened d e.pins.items)) (map (λ (s : ℕ × ℕ). Short s.0 s.1) (shorted d e.pins.items)) none in
      let p_is : slice_get d.pins p_in.0 ≡ Some p = contains-get d.pins p p_in in
      let q_is : slice_get d.pins q_in.0 ≡ Some q = contains-get d.pins q q_in in
      let classes = extract.pins p_in.0 q_in.0 p q p_is q_is in (
        λ joined. (shorted-none d e.pins.items extract.all_pins).0 (none-mapped (λ (s : ℕ × ℕ). Short s.0 s.1) (shorted d e.pins.items) both.1)
            p_in.0 q_in.0 p q p_is q_is (classes.1 joined),
        λ same. classes.0 ((opened-none d e.pins.items extract.all_pins).0 (none-mapped (λ (o : ℕ × ℕ). Opened o.0 o.1) (opened d e.pins.items) both.0)
            p_in.0 q_in.0 p q p_is q_is same),
      )

  pub join-none : JoinNets r d l → net_findings d e.pins.items ≡ []
  join-none join =
      ap₂ (λ (os ss : List (ℕ × ℕ)). map (λ (o : ℕ × ℕ). Opened o.0 o.1) os ++ map (λ (s : ℕ × ℕ). Short s.0 s.1) ss)
      ((opened-none d e.pins.items extract.all_pins).1 (λ i j p q p_is q_is same.
      (extract.pins i j p q p_is q_is).1 ((join p q (get-contains d.pins i p p_is) (get-contains d.pins j q q_is)).1 same)))
      ((shorted-none d e.pins.items extract.all_pins).1 (λ i j p q p_is q_is same.
      (join p q (get-contains d.pins i p p_is) (get-contains d.pins j q q_is)).0 ((extract.pins i j p q p_is q_is).0 same)))
