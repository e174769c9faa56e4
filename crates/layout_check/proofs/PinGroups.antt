use Rattle.std.proofs.Common.{◌≡◌, ◌<◌, ◌↔◌, ℕ, List, [], Bool, not, eqb, length, map, Some, ap, ap₂, sym, ◌∙◌, arith}
use Rattle.std.specs.Prelude.{slice_index}
use Rattle.std.specs.List.{slice_get}
use Rattle.std.specs.Option.{option_map}
use Rattle.std.proofs.lemmas.Bool.{eqb-true}
use Rattle.std.proofs.lemmas.List.{length-map}
use Rattle.std.proofs.lemmas.Option.{get_or_from_slice_get, same_Some, slice_get-get_or, slice_get-map, slice_get_within}
use Rattle.design_model.specs.Netlist.{Netlist}
use Rattle.design_model.specs.declared.design.Pin.{Pin}
use Rattle.layout_check.specs.Groups.{differing_pairs, first_of, firsts_of}
use Rattle.layout_check.specs.NetFaults.{opened, pins_by_class, shorted}
use Rattle.layout_check.proofs.Alike.{alike-none, none-alike}
use Rattle.layout_check.proofs.Firsts.{AreGrouped, firsts-differing}
use Rattle.std_laws.proofs.Places.{at-place}
use Rattle.std_laws.proofs.Zips.{at-zip, zip-at, map-firsts, map-seconds}
use Rattle.std_laws.proofs.Searches.{place-map}
use Rattle.std_laws.proofs.Tests.{eqb-flips, eqb-itself}

module _ {A : Type 0} (key kind : A → ℕ) (all : List A) where
  -- whether two are of different kinds
  abbrev pub kinds_differ : A → A → Bool
  kinds_differ x y = not (eqb (kind x) (kind y))

  -- groups by numbers
  pub numbers-grouped : AreGrouped key eqb eqb-true eqb-itself kinds_differ all (firsts_of (map key all)) (map kind all)
  numbers-grouped = record {
    long_firsts = length-map (map key all) (first_of (map key all)) ∙ length-map all key;
    long_kinds = length-map all kind;
    reads = λ j y is.
        let read : slice_get (firsts_of (map key all)) j ≡ Some (first_of (map key all) (key y)) =
        slice_get-map (first_of (map key all)) (map key all) j
        ∙ ap (option_map (first_of (map key all))) (slice_get-map key all j ∙ ap (option_map key) is) in
        get_or_from_slice_get (firsts_of (map key all)) j (first_of (map key all) (key y)) 0 read ∙ place-map key (λ (g : ℕ). eqb (key y) g) all;
    agrees = λ i j x y less x_is y_is same.
        let first : slice_index (map kind all) i ≡ kind x = get_or_from_slice_get (map kind all) i (kind x) 0 (slice_get-map kind all i ∙ ap (option_map kind) x_is) in
        let second : slice_index (map kind all) j ≡ kind y = get_or_from_slice_get (map kind all) j (kind y) 0 (slice_get-map kind all j ∙ ap (option_map kind) y_is) in
        ap not (eqb-flips (kind x) (kind y) ∙ ap₂ eqb (sym second) (sym first));
  }

-- the nets and the classes of pins
module _ (d : Netlist) (classes : List ℕ) (long : length classes ≡ length d.pins) where
  as-long : length (map (λ (p : Pin). p.net) d.pins) ≡ length classes
  as-long = length-map d.pins (λ (p : Pin). p.net) ∙ sym long

  nets-are : map (λ (p : ℕ × ℕ). p.0) (pins_by_class d classes) ≡ map (λ (p : Pin). p.net) d.pins
  nets-are = map-firsts (map (λ (p : Pin). p.net) d.pins) classes as-long

  classes-are : map (λ (p : ℕ × ℕ). p.1) (pins_by_class d classes) ≡ classes
  classes-are = map-seconds (map (λ (p : Pin). p.net) d.pins) classes as-long

  -- what is open is told by the firsts of nets
  pub opened-differing : opened d classes ≡ differing_pairs (firsts_of (map (λ (p : Pin). p.net) d.pins)) classes
  opened-differing =
      firsts-differing (λ (p : ℕ × ℕ). p.0) eqb eqb-true eqb-itself (kinds_differ (λ (p : ℕ × ℕ). p.0) (λ (p : ℕ × ℕ). p.1) (pins_by_class d classes)) (pins_by_class d classes)
      (firsts_of (map (λ (p : ℕ × ℕ). p.0) (pins_by_class d classes))) (map (λ (p : ℕ × ℕ). p.1) (pins_by_class d classes))
      (numbers-grouped (λ (p : ℕ × ℕ). p.0) (λ (p : ℕ × ℕ). p.1) (pins_by_class d classes))
      ∙ ap₂ (λ (ns cs : List ℕ). differing_pairs (firsts_of ns) cs) nets-are classes-are

  -- and what is short, by those of classes
  pub shorted-differing : shorted d classes ≡ differing_pairs (firsts_of classes) (map (λ (p : Pin). p.net) d.pins)
  shorted-differing =
      firsts-differing (λ (p : ℕ × ℕ). p.1) eqb eqb-true eqb-itself (kinds_differ (λ (p : ℕ × ℕ). p.1) (λ (p : ℕ × ℕ). p.0) (pins_by_class d classes)) (pins_by_class d classes)
      (firsts_of (map (λ (p : ℕ × ℕ). p.1) (pins_by_class d classes))) (map (λ (p : ℕ × ℕ). p.0) (pins_by_class d classes))
      (numbers-grouped (λ (p : ℕ × ℕ). p.1) (λ (p : ℕ × ℕ). p.0) (pins_by_class d classes))
      ∙ ap₂ (λ (cs ns : List ℕ). differing_pairs (firsts_of cs) ns) classes-are nets-are

  row-at : (i : ℕ) (p : Pin) → slice_get d.pins i ≡ Some p → slice_get (pins_by_class d classes) i ≡ Some (p.net, slice_index classes i)
  row-at i p is =
      let within : i < length d.pins = slice_get_within d.pins i p is in
      zip-at (map (λ (p : Pin). p.net) d.pins) classes i p.net (slice_index classes i)
      (slice_get-map (λ (p : Pin). p.net) d.pins i ∙ ap (option_map (λ (p : Pin). p.net)) is) (slice_get-get_or classes i 0 (omega arith))

  -- a pin for each row
  at-row : (i : ℕ) (row : ℕ × ℕ) → slice_get (pins_by_class d classes) i ≡ Some row → (p : Pin) × (slice_get d.pins i ≡ Some p) × (row ≡ (p.net, slice_index classes i))
  at-row i row is =
      let at = at-zip (map (λ (p : Pin). p.net) d.pins) classes i row is in
      let within : i < length classes = slice_get_within classes i row.1 at.1 in
      let pin = at-place d.pins i (omega arith) in
      (pin.0, pin.1, same_Some row (pin.0.net, slice_index classes i) (sym is ∙ row-at i pin.0 pin.1))

  net-read : (i : ℕ) (p : Pin) → slice_get d.pins i ≡ Some p → slice_index (map (λ (row : ℕ × ℕ). row.0) (pins_by_class d classes)) i ≡ p.net
  net-read i p is =
      get_or_from_slice_get (map (λ (row : ℕ × ℕ). row.0) (pins_by_class d classes)) i p.net 0
      (slice_get-map (λ (row : ℕ × ℕ). row.0) (pins_by_class d classes) i ∙ ap (option_map (λ (row : ℕ × ℕ). row.0)) (row-at i p is))

  class-read : (i : ℕ) → slice_index (map (λ (row : ℕ × ℕ). row.1) (pins_by_class d classes)) i ≡ slice_index classes i
  class-read i = ap (λ (l : List ℕ). slice_index l i) classes-are

  -- nothing is open where pins of one net have one class
  pub opened-none : (opened d classes ≡ [])
      ↔ ((i j : ℕ) (p q : Pin) → slice_get d.pins i ≡ Some p → slice_get d.pins j ≡ Some q → p.net ≡ q.net → slice_index classes i ≡ slice_index classes j)
  opened-none = (
    λ none i j p q p_is q_is same.
        sym (class-read i)
        ∙ none-alike (λ (row : ℕ × ℕ). row.0) eqb eqb-true eqb-itself (kinds_differ (λ (row : ℕ × ℕ). row.0) (λ (row : ℕ × ℕ). row.1) (pins_by_class d classes)) (pins_by_class d classes) _ _
        (numbers-grouped (λ (row : ℕ × ℕ). row.0) (λ (row : ℕ × ℕ). row.1) (pins_by_class d classes)) none i j (p.net, slice_index classes i) (q.net, slice_index classes j)
        (row-at i p p_is) (row-at j q q_is) same
        ∙ class-read j,
    λ alike. alike-none (λ (row : ℕ × ℕ). row.0) eqb eqb-true eqb-itself (kinds_differ (λ (row : ℕ × ℕ). row.0) (λ (row : ℕ × ℕ). row.1) (pins_by_class d classes)) (pins_by_class d classes) _ _
        (numbers-grouped (λ (row : ℕ × ℕ). row.0) (λ (row : ℕ × ℕ). row.1) (pins_by_class d classes))
        (λ i j x y x_is y_is same.
        let p = at-row i x x_is in
        let q = at-row j y y_is in
        class-read i ∙ alike i j p.0 q.0 p.1 q.1 (sym (ap (λ (row : ℕ × ℕ). row.0) p.2) ∙ same ∙ ap (λ (row : ℕ × ℕ). row.0) q.2) ∙ sym (class-read j)),
  )

  -- nothing is short where pins of one class have one net
  pub shorted-none : (shorted d classes ≡ [])
      ↔ ((i j : ℕ) (p q : Pin) → slice_get d.pins i ≡ Some p → slice_get d.pins j ≡ Some q → slice_index classes i ≡ slice_index classes j → p.net ≡ q.net)
  shorted-none = (
    λ none i j p q p_is q_is same.
        sym (net-read i p p_is)
        ∙ none-alike (λ (row : ℕ × ℕ). row.1) eqb eqb-true eqb-itself (kinds_differ (λ (row : ℕ × ℕ). row.1) (λ (row : ℕ × ℕ). row.0) (pins_by_class d classes)) (pins_by_class d classes) _ _
        (numbers-grouped (λ (row : ℕ × ℕ). row.1) (λ (row : ℕ × ℕ). row.0) (pins_by_class d classes)) none i j (p.net, slice_index classes i) (q.net, slice_index classes j)
        (row-at i p p_is) (row-at j q q_is) same
        ∙ net-read j q q_is,
    λ alike. alike-none (λ (row : ℕ × ℕ). row.1) eqb eqb-true eqb-itself (kinds_differ (λ (row : ℕ × ℕ). row.1) (λ (row : ℕ × ℕ). row.0) (pins_by_class d classes)) (pins_by_class d classes) _ _
        (numbers-grouped (λ (row : ℕ × ℕ). row.1) (λ (row : ℕ × ℕ). row.0) (pins_by_class d classes))
        (λ i j x y x_is y_is same.
        let p = at-row i x x_is in
        let q = at-row j y y_is in
        net-read i p.0 p.1 ∙ alike i j p.0 q.0 p.1 q.1 (sym (ap (λ (row : ℕ × ℕ). row.1) p.2) ∙ same ∙ ap (λ (row : ℕ × ℕ). row.1) q.2) ∙ sym (net-read j q.0 q.1)),
  )
