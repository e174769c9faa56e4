use Rattle.std.proofs.Common.{◌≡◌, ◌<◌, ◌≤◌, ◌+◌, ◌++◌, ◌∷◌, [], ℕ, List, Bool, true, false, Some, length, map, refl, ap, ap₂, sym, ◌∙◌, arith, slice_get, subst}
use Rattle.std.proofs.lemmas.Bool.Decides.{nat_tests}
use Rattle.std.proofs.lemmas.List.{length-map, map-append}
use Rattle.std.proofs.lemmas.List.FromFn.{length-range_with_len}
use Rattle.std.proofs.lemmas.Option.{slice_get_past}
use Rattle.std.specs.List.{range_with_len}
use Rattle.std.specs.Prelude.{nat_lt, slice_range}
use Rattle.design_model.specs.Netlist.{Netlist}
use Rattle.list_facts.specs.Lists.{list_there}
use Rattle.row_board.specs.FlatLists.{first_lists, part_in, AreParts}
use Rattle.row_board.specs.NetPins.{net_pins, own_pin, AreInOrder, AreInstancePins, ArePins, ArePinsByInstance}
use Rattle.row_board.specs.declared.flat_lists.Part.{Part}
use Rattle.row_board.specs.declared.net_pins.InstancePin.{InstancePin}
use Rattle.row_board.specs.declared.net_pins.NetPin.{NetPin}
use Rattle.std_laws.proofs.Images.{map-same}
use Rattle.std_laws.proofs.Ranges.{image-at}
use Rattle.std_laws.proofs.Slices.{slice_range-append, slice_range-last}

-- one list more lies behind those that are there
pub lists-push : {A : Type 0} (items list : List A) (parts : List Part) (p : Part) → AreParts parts (length items) → p.from ≡ length items → p.to ≡ length (items ++ list)
    → map (part_in (items ++ list)) (parts ++ p ∷ []) ≡ map (part_in items) parts ++ list ∷ []
lists-push {A} items list parts p is from to =
    map-append (part_in (items ++ list)) parts (p ∷ [])
    ∙ ap (λ (l : List A). map (part_in (items ++ list)) parts ++ l ∷ []) (ap₂ (slice_range (items ++ list)) from to ∙ slice_range-last items list)
    ∙ ap (λ (ls : List (List A)). ls ++ list ∷ [])
    (map-same (λ (q : Part). (q.from ≤ q.to) × (q.to ≤ length items)) (part_in (items ++ list)) (part_in items) (λ q old. slice_range-append items list q.from q.to old.0 old.1) parts is.each)

-- the first lists of a table are as many as were asked for, each as the table has it
pub first-length : {A : Type 0} (lists : List (List A)) (count : ℕ) → length (first_lists lists count) ≡ count
first-length lists count = length-map (range_with_len 0 count) (λ (n : ℕ). list_there (slice_get lists n)) ∙ length-range_with_len 0 count

pub first-at : {A : Type 0} (lists : List (List A)) (count k : ℕ) → k < count → slice_get (first_lists lists count) k ≡ Some (list_there (slice_get lists k))
first-at lists count k within =
    let same : 0 + k ≡ k = omega arith in
    image-at (λ (n : ℕ). list_there (slice_get lists n)) 0 count k within ∙ ap (λ (n : ℕ). Some (list_there (slice_get lists n))) same

-- what holds of each list of a table, and of no items, holds of what it has anywhere
pub anywhere : {A : Type 0} (P : List A → Type 0) (lists : List (List A)) (k : ℕ) → (k < length lists → P (list_there (slice_get lists k))) → (length lists ≤ k → P [])
    → P (list_there (slice_get lists k))
anywhere P lists k each none = by (nat_lt k (length lists)) refl
  where
    by : (b : Bool) → nat_lt k (length lists) ≡ b → P (list_there (slice_get lists k))
    by true test = each (grind (arith, nat_tests))
    by false test =
        let past : length lists ≤ k = grind (arith, nat_tests) in
        subst P (sym (ap list_there (slice_get_past lists k past))) (none past)

-- so they have the pins of each net and of each instance
pub pins-first : (d : Netlist) (pins made : List (List NetPin)) (count : ℕ) → made ≡ first_lists pins count → length d.nets < count → ArePins d pins → ArePins d made
pins-first d pins made count is all are = record {
  each = λ net few.
      ap (λ (ls : List (List NetPin)). slice_get ls net) is ∙ first-at pins count net (omega (arith, all, few))
      ∙ ap (λ o. Some (list_there o)) (are.each net few);
}

own-first : (pins made : List (List InstancePin)) (count i : ℕ) → made ≡ first_lists pins count → i < count → list_there (slice_get made i) ≡ list_there (slice_get pins i)
own-first pins made count i is within = ap (λ (ls : List (List InstancePin)). list_there (slice_get ls i)) is ∙ ap list_there (first-at pins count i within)

pub instances-first : (d : Netlist) (pins made : List (List InstancePin)) (count : ℕ) → made ≡ first_lists pins count → length d.instances ≡ count → ArePinsByInstance d pins
    → ArePinsByInstance d made
instances-first d pins made count is all are = record {
  each = λ i within.
      subst (AreInstancePins (net_pins d) (length d.nets) i) (sym (own-first pins made count i is (omega (arith, all, within)))) (are.each i within);
}

pub order-first : (d : Netlist) (pins made : List (List InstancePin)) (count : ℕ) → made ≡ first_lists pins count → length d.instances ≡ count → AreInOrder d pins → AreInOrder d made
order-first d pins made count is all are = record {
  each = λ i within. ap (map (own_pin i)) (own-first pins made count i is (omega (arith, all, within))) ∙ are.each i within;
}
