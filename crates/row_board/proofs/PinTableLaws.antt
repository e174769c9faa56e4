use Rattle.std.proofs.Common.{◌≡◌, ◌⊎◌, inl, inr, ◌<◌, ◌≤◌, ℕ, List, [], ◌∷◌, ◌++◌, length, map, filter, Bool, true, false, cond, Option, None, Some, refl, ap, ap₂, sym, ◌∙◌, subst, arith, Contains, append_assoc, length-append}
use Rattle.std.proofs.lemmas.Bool.Decides.{nat_tests}
use Rattle.std.proofs.lemmas.List.{length-map, map-append}
use Rattle.std.proofs.lemmas.List.Elements.{Contains-append_left, Contains-push, Contains-push_cases}
use Rattle.std.proofs.lemmas.Option.{same_Some}
use Rattle.std.specs.List.{slice_get, AllByRecursion}
use Rattle.std.specs.Option.{option_map}
use Rattle.std.specs.Prelude.{nat_eq, nat_lt}
use Rattle.design_model.specs.Netlist.{IsNetlist, Netlist}
use Rattle.design_model.specs.declared.design.Pin.{Pin}
use Rattle.list_facts.specs.Lists.{list_there, with_item}
use Rattle.row_board.specs.Cost.{pins_of_net}
use Rattle.row_board.specs.NetPins.{as_net_pin, net_pin, net_pins, own_pin, pin_with_net, pins_of_instance, AreInOrder, AreInstancePins}
use Rattle.row_board.specs.declared.net_pins.InstancePin.{InstancePin}
use Rattle.row_board.specs.declared.net_pins.NetPin.{NetPin}
use Rattle.design_model.proofs.DesignPins.{pins-within}
use Rattle.row_board.proofs.CostLaws.{net-pins-within}
use Rattle.std_laws.proofs.Counts.{filter-short}
use Rattle.std_laws.proofs.Every.{every-get, every-weaker}
use Rattle.std_laws.proofs.Members.{member-none}
use Rattle.std_laws.proofs.Places.{get-before, get-pushed, map-get, slice_get-push}
use Rattle.std_laws.proofs.Tests.{nat_eq-equal, nat_eq-false, nat_eq-itself, nat_eq-true}

-- what stands in a list stands there once an item is put behind
kept : {A : Type 0} (b : Bool) (item : A) (xs : List A) (k : ℕ) (x : A) → slice_get xs k ≡ Some x → slice_get (with_item b item xs) k ≡ Some x
kept true item xs k x at = get-before xs (item ∷ []) k x at
kept false item xs k x at = at

still : {A : Type 0} (b : Bool) (item : A) (xs : List A) (x : A) → Contains xs x → Contains (with_item b item xs) x
still true item xs x has = Contains-append_left xs (item ∷ []) x has
still false item xs x has = has

member-with : {A : Type 0} (b : Bool) (item : A) (xs : List A) (x : A) → Contains (with_item b item xs) x → Contains xs x ⊎ ((b ≡ true) × (item ≡ x))
member-with true item xs x has = elim (Contains-push_cases xs item x has) [ inl old ↦ inl old | inr new ↦ inr (refl, new) ]
member-with false item xs x has = inl has

place-with : {A : Type 0} (b : Bool) (item : A) (xs : List A) (k : ℕ) (x : A) → slice_get (with_item b item xs) k ≡ Some x
    → (slice_get xs k ≡ Some x) ⊎ ((b ≡ true) × (k ≡ length xs) × (x ≡ item))
place-with true item xs k x at = elim (slice_get-push xs k item x at) [ inl new ↦ inr (refl, new.0, new.1) | inr old ↦ inl old ]
place-with false item xs k x at = inl at

-- one more pin stands at the end of its net, and is put behind those of its instance
pub pins-push : (nets nets' : ℕ → List NetPin) (count i : ℕ) (own own' : List InstancePin) (p : InstancePin) (q : NetPin)
    → ((net : ℕ) → net ≤ count → nets' net ≡ with_item (nat_eq p.net net) q (nets net)) → own' ≡ with_item (nat_eq q.instance i) p own
    → as_net_pin q.instance p ≡ q → p.place ≡ length (nets p.net) → AreInstancePins nets count i own → AreInstancePins nets' count i own'
pins-push nets nets' count i own own' p q by_net by_instance same place is = record {
  each = λ r has low. each r (subst (λ (l : List InstancePin). Contains l r) by_instance has) low;
  all = λ net k r low at mine. all net k r low (sym (ap (λ (l : List NetPin). slice_get l k) (by_net net low)) ∙ at) mine;
}
  where
    each : (r : InstancePin) → Contains (with_item (nat_eq q.instance i) p own) r → r.net ≤ count → slice_get (nets' r.net) r.place ≡ Some (as_net_pin i r)
    each r has low =
        elim (member-with (nat_eq q.instance i) p own r has) [
          | inl old ↦
              ap (λ (l : List NetPin). slice_get l r.place) (by_net r.net low) ∙ kept (nat_eq p.net r.net) q (nets r.net) r.place (as_net_pin i r) (is.each r old low)
          | inr new ↦ subst (λ (s : InstancePin). s.net ≤ count → slice_get (nets' s.net) s.place ≡ Some (as_net_pin i s)) new.1 (here (nat_eq-equal q.instance i new.0)) low
        ]
      where
        here : q.instance ≡ i → p.net ≤ count → slice_get (nets' p.net) p.place ≡ Some (as_net_pin i p)
        here mine low =
            ap (λ (l : List NetPin). slice_get l p.place) (by_net p.net low) ∙ ap (λ (b : Bool). slice_get (with_item b q (nets p.net)) p.place) (nat_eq-itself p.net)
            ∙ ap (slice_get (nets p.net ++ q ∷ [])) place ∙ get-pushed (nets p.net) q
            ∙ ap (λ (x : NetPin). Some x) (sym same) ∙ ap (λ (n : ℕ). Some (as_net_pin n p)) mine

    all : (net k : ℕ) (r : NetPin) → net ≤ count → slice_get (with_item (nat_eq p.net net) q (nets net)) k ≡ Some r → r.instance ≡ i
        → (s : InstancePin) × Contains own' s × (s.net ≡ net) × (s.place ≡ k)
    all net k r low at mine =
        elim (place-with (nat_eq p.net net) q (nets net) k r at) [
          | inl old ↦ (
              let s = is.all net k r low old mine in
              (s.0, subst (λ (l : List InstancePin). Contains l s.0) (sym by_instance) (still (nat_eq q.instance i) p own s.0 s.1), s.2, s.3)
              )
          | inr new ↦ (
              let net_is : p.net ≡ net = nat_eq-equal p.net net new.0 in
              let own_is : q.instance ≡ i = sym (ap (λ (x : NetPin). x.instance) new.2) ∙ mine in
              let behind : own' ≡ own ++ p ∷ [] = by_instance ∙ ap (λ (b : Bool). with_item b p own) (nat_eq-true q.instance i own_is) in
              (p, subst (λ (l : List InstancePin). Contains l p) (sym behind) (Contains-push own p), net_is, place ∙ ap (λ (n : ℕ). length (nets n)) net_is ∙ sym new.1)
              )
        ]

-- in the end the lists are those of the nets
pub pins-all : (nets nets' : ℕ → List NetPin) (count i : ℕ) (own : List InstancePin) → ((net : ℕ) → net ≤ count → nets net ≡ nets' net) → AreInstancePins nets count i own
    → AreInstancePins nets' count i own
pins-all nets nets' count i own same is = record {
  each = λ p has low. sym (ap (λ (l : List NetPin). slice_get l p.place) (same p.net low)) ∙ is.each p has low;
  all = λ net k q low at mine. is.all net k q low (ap (λ (l : List NetPin). slice_get l k) (same net low) ∙ at) mine;
}

-- an instance that a design does not have has no pins
pub pins-nowhere : (d : Netlist) (i : ℕ) → IsNetlist d → length d.instances ≤ i → AreInstancePins (net_pins d) (length d.nets) i []
pins-nowhere d i good past = record {
  each = λ p has low. absurd (member-none p has);
  all = λ net k q low at mine.
      let pin = map-get (net_pin d) (pins_of_net d net) k q at in
      let within : pin.0.instance < length d.instances =
      every-get (λ (p : Pin). p.instance < length d.instances) (pins_of_net d net) k pin.0 (net-pins-within d good net) pin.1 in
      let is : pin.0.instance ≡ q.instance = ap (λ (x : NetPin). x.instance) pin.2 in
      absurd (omega (arith, within, is, mine, past));
}

-- a net has no more pins than the design
pub net-short : (d : Netlist) (net : ℕ) → IsNetlist d → length (net_pins d net) ≤ 200000
net-short d net good =
    omega (arith, length-map (pins_of_net d net) (net_pin d), filter-short (λ (p : Pin). nat_eq p.net net) d.pins, good.few_pins)

-- what a list has before more is put behind
pub held : {A : Type 0} (o : Option (List A)) (more all : List A) → option_map (λ (xs : List A). xs ++ more) o ≡ Some all
    → (o ≡ Some (list_there o)) × (list_there o ++ more ≡ all) × (length (list_there o) ≤ length all)
held None more all is = cc
held {A} (Some xs) more all is =
    let same : xs ++ more ≡ all = same_Some (xs ++ more) all is in
    (refl, same, omega (arith, length-append xs more, ap length same))

-- one more pin of the nets is tabled
pub nets-more : (d : Netlist) (n : ℕ) (p : Pin) (q : NetPin) (rest after : List Pin) (old new : Option (List NetPin)) → rest ≡ p ∷ after → q ≡ net_pin d p
    → new ≡ option_map (with_item (nat_eq p.net n) q) old
    → option_map (λ (xs : List NetPin). xs ++ map (net_pin d) (filter (λ (r : Pin). nat_eq r.net n) after)) new
    ≡ option_map (λ (xs : List NetPin). xs ++ map (net_pin d) (filter (λ (r : Pin). nat_eq r.net n) rest)) old
nets-more d n p q rest after old new is same put =
    ap (option_map (λ (xs : List NetPin). xs ++ map (net_pin d) (filter (λ (r : Pin). nat_eq r.net n) after))) (put ∙ ap (λ (x : NetPin). option_map (with_item (nat_eq p.net n) x) old) same)
    ∙ by old (nat_eq p.net n) ∙ sym (ap (λ (ps : List Pin). option_map (λ (xs : List NetPin). xs ++ map (net_pin d) (filter (λ (r : Pin). nat_eq r.net n) ps)) old) is)
  where
    by : (o : Option (List NetPin)) (b : Bool)
        → option_map (λ (xs : List NetPin). xs ++ map (net_pin d) (filter (λ (r : Pin). nat_eq r.net n) after)) (option_map (with_item b (net_pin d p)) o)
        ≡ option_map (λ (xs : List NetPin). xs ++ map (net_pin d) (cond b (p ∷ filter (λ (r : Pin). nat_eq r.net n) after) (filter (λ (r : Pin). nat_eq r.net n) after))) o
    by None b = refl
    by (Some xs) true = ap (λ (l : List NetPin). Some l) (append_assoc xs (net_pin d p ∷ []) (map (net_pin d) (filter (λ (r : Pin). nat_eq r.net n) after)))
    by (Some xs) false = refl

-- a list of a table with an item put behind it
pub there-with : {A : Type 0} (b : Bool) (item : A) (old new : Option (List A)) (xs : List A) → old ≡ Some xs → new ≡ option_map (with_item b item) old
    → list_there new ≡ with_item b item (list_there old)
there-with {A} b item old new xs at put =
    ap list_there (put ∙ ap (option_map (with_item b item)) at) ∙ ap (λ (o : Option (List A)). with_item b item (list_there o)) (sym at)

-- one more pin of an instance is tabled
pub own-more : (d : Netlist) (i : ℕ) (p : Pin) (own : InstancePin) (one : NetPin) (xs xs' : List InstancePin) (rest after : List Pin) → rest ≡ p ∷ after → one ≡ net_pin d p
    → own.net ≡ p.net → own.upright ≡ one.upright → own.mirrored ≡ one.mirrored → xs' ≡ with_item (nat_eq p.instance i) own xs
    → map (own_pin i) xs' ++ map (pin_with_net d) (filter (λ (q : Pin). nat_eq q.instance i) after)
    ≡ map (own_pin i) xs ++ map (pin_with_net d) (filter (λ (q : Pin). nat_eq q.instance i) rest)
own-more d i p own one xs xs' rest after is made net upright mirrored put =
    ap (λ (l : List InstancePin). map (own_pin i) l ++ map (pin_with_net d) (filter (λ (q : Pin). nat_eq q.instance i) after)) put
    ∙ by (nat_eq p.instance i) refl
    ∙ sym (ap (λ (ps : List Pin). map (own_pin i) xs ++ map (pin_with_net d) (filter (λ (q : Pin). nat_eq q.instance i) ps)) is)
  where
    same : p.instance ≡ i → own_pin i own ≡ pin_with_net d p
    same mine =
        ap₂ (λ (n k : ℕ). (n, record { instance = i; upright = k; mirrored = own.mirrored })) net (upright ∙ ap (λ (q : NetPin). q.upright) made)
        ∙ ap₂ (λ (j k : ℕ). (p.net, record { instance = j; upright = (net_pin d p).upright; mirrored = k })) (sym mine) (mirrored ∙ ap (λ (q : NetPin). q.mirrored) made)

    by : (b : Bool) → nat_eq p.instance i ≡ b
        → map (own_pin i) (with_item b own xs) ++ map (pin_with_net d) (filter (λ (q : Pin). nat_eq q.instance i) after)
        ≡ map (own_pin i) xs ++ map (pin_with_net d) (cond b (p ∷ filter (λ (q : Pin). nat_eq q.instance i) after) (filter (λ (q : Pin). nat_eq q.instance i) after))
    by true mine =
        ap (λ (l : List (ℕ × NetPin)). l ++ map (pin_with_net d) (filter (λ (q : Pin). nat_eq q.instance i) after)) (map-append (own_pin i) xs (own ∷ []))
        ∙ append_assoc (map (own_pin i) xs) (own_pin i own ∷ []) (map (pin_with_net d) (filter (λ (q : Pin). nat_eq q.instance i) after))
        ∙ ap (λ (x : ℕ × NetPin). map (own_pin i) xs ++ x ∷ map (pin_with_net d) (filter (λ (q : Pin). nat_eq q.instance i) after)) (same (nat_eq-equal p.instance i mine))
    by false other = refl

-- where no pin passes a test, none is left
pub filter-none : (p : Pin → Bool) (xs : List Pin) → AllByRecursion (λ (x : Pin). p x ≡ false) xs → filter p xs ≡ []
filter-none p [] none = refl
filter-none p (x ∷ xs) none = ap (λ (b : Bool). cond b (x ∷ filter p xs) (filter p xs)) none.0 ∙ filter-none p xs none.1

-- an instance that a design does not have has no pins there either
pub own-nowhere : (d : Netlist) (i : ℕ) → IsNetlist d → length d.instances ≤ i → [] ≡ map (pin_with_net d) (pins_of_instance d i)
own-nowhere d i good past =
    ap (map (pin_with_net d)) (sym (filter-none (λ (p : Pin). nat_eq p.instance i) d.pins
    (every-weaker (λ (p : Pin). p.instance < length d.instances) (λ (p : Pin). nat_eq p.instance i ≡ false) (λ p below. nat_eq-false p.instance i (λ same. omega (arith, below, past, same))) d.pins (pins-within d good))))

-- no instance has more pins than the longest of their lists
pub pins-most : (d : Netlist) (lists : List (List InstancePin)) (most : ℕ) → IsNetlist d → AreInOrder d lists
    → ((i : ℕ) → i < length d.instances → length (list_there (slice_get lists i)) ≤ most) → (i : ℕ) → length (pins_of_instance d i) ≤ most
pins-most d lists most good in_order all i = by (nat_lt i (length d.instances)) refl
  where
    by : (b : Bool) → nat_lt i (length d.instances) ≡ b → length (pins_of_instance d i) ≤ most
    by true test =
        let within : i < length d.instances = grind (arith, nat_tests) in
        omega (
          arith,
          all i within,
          ap length (in_order.each i within),
          length-map (list_there (slice_get lists i)) (own_pin i),
          length-map (pins_of_instance d i) (pin_with_net d),
        )
    by false test =
        let past : length d.instances ≤ i = grind (arith, nat_tests) in
        omega (arith, ap length (own-nowhere d i good past), length-map (pins_of_instance d i) (pin_with_net d))
