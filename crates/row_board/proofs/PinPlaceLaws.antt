use Rattle.std.proofs.Common.{◌≡◌, ◌≢◌, ◌⊎◌, inl, inr, ◌<◌, ◌≤◌, ℕ, ◌+◌, ◌*◌, List, [], ◌∷◌, ◌++◌, length, map, set, sum, Bool, true, false, cond, Option, None, Some, refl, ap, ap₂, sym, ◌∙◌, arith, Contains}
use Rattle.std.proofs.lemmas.Bool.{cases_lt}
use Rattle.std.proofs.lemmas.List.FromFn.{length-range_with_len, map-range_with_len_more}
use Rattle.std.proofs.lemmas.List.{length-map, length-set}
use Rattle.std.proofs.lemmas.Option.{slice_get-map, slice_get_past, slice_get_within}
use Rattle.std.specs.List.{range_with_len, slice_get}
use Rattle.std.specs.Option.{option_map}
use Rattle.std.specs.Prelude.{nat_eq}
use Rattle.design_model.specs.Netlist.{Netlist}
use Rattle.row_board.specs.Cost.{spread}
use Rattle.row_board.specs.NetCosts.{table_costs}
use Rattle.row_board.specs.NetPins.{as_net_pin, measured, net_pins, offset_in, pin_column, pin_row, AreInstancePins}
use Rattle.row_board.specs.PinPlaces.{columns_by, instance_column, puts, rows_by}
use Rattle.row_board.specs.Spot.{Spot}
use Rattle.row_board.specs.Spreads.{number_put, NumberLists}
use Rattle.row_board.specs.Standings.{standing_in, standing_of}
use Rattle.row_board.specs.Weights.{Weighing}
use Rattle.row_board.specs.declared.net_pins.InstancePin.{InstancePin}
use Rattle.row_board.specs.declared.net_pins.NetPin.{NetPin}
use Rattle.std_laws.proofs.Images.{map-map}
use Rattle.std_laws.proofs.Members.{member-cases, member-head, member-none, member-tail}
use Rattle.std_laws.proofs.Places.{get-set-other, get-set-same, list-same, map-at}
use Rattle.std_laws.proofs.Ranges.{image-at}
use Rattle.std_laws.proofs.Sums.{sum-both, sum-scaled}
use Rattle.std_laws.proofs.Tests.{equal_or_not, nat_eq-differ, nat_eq-equal}

-- what is left to be put: each pin of the net that is to be put has the target at its place, and each place has its target or is that of such a pin
record ArePending (number : InstancePin → ℕ) (ps : List InstancePin) (net : ℕ) (numbers target : List ℕ) : Type 0 where
  pub long : length numbers ≡ length target
  pub each : (p : InstancePin) → Contains ps p → p.net ≡ net → slice_get target p.place ≡ Some (number p)
  pub right : (k : ℕ) → (slice_get numbers k ≡ slice_get target k) ⊎ ((p : InstancePin) × Contains ps p × (p.net ≡ net) × (p.place ≡ k))

pending-step : (number : InstancePin → ℕ) (p : InstancePin) (ps : List InstancePin) (net : ℕ) (numbers target : List ℕ) → ArePending number (p ∷ ps) net numbers target
    → ArePending number ps net (number_put p.net p.place (number p) net numbers) target
pending-step number p ps net numbers target h = by (nat_eq p.net net) refl
  where
    later : (k : ℕ) → (p.net ≡ net → p.place ≡ k → ⊥) → (q : InstancePin) × Contains (p ∷ ps) q × (q.net ≡ net) × (q.place ≡ k)
        → (q : InstancePin) × Contains ps q × (q.net ≡ net) × (q.place ≡ k)
    later k off there =
        elim (member-cases p ps there.0 there.1) [
          | inl same ↦ absurd (off (ap (λ (q : InstancePin). q.net) same ∙ there.2) (ap (λ (q : InstancePin). q.place) same ∙ there.3))
          | inr rest ↦ (there.0, rest, there.2, there.3)
        ]

    at : p.net ≡ net → (k : ℕ) → (k ≡ p.place) ⊎ (k ≢ p.place)
        → (slice_get numbers k ≡ slice_get target k) ⊎ ((q : InstancePin) × Contains (p ∷ ps) q × (q.net ≡ net) × (q.place ≡ k))
        → (slice_get (set numbers p.place (number p)) k ≡ slice_get target k) ⊎ ((q : InstancePin) × Contains ps q × (q.net ≡ net) × (q.place ≡ k))
    at hit k (inl same) was =
        let here : slice_get target p.place ≡ Some (number p) = h.each p (member-head p ps) hit in
        let within : p.place < length numbers = omega (arith, slice_get_within target p.place (number p) here, h.long) in
        inl (ap (slice_get (set numbers p.place (number p))) same ∙ get-set-same numbers p.place (number p) within ∙ sym here ∙ ap (slice_get target) (sym same))
    at hit k (inr other) (inl right) = inl (get-set-other numbers p.place k (number p) other ∙ right)
    at hit k (inr other) (inr there) = inr (later k (λ net_is place_is. other (sym place_is)) there)

    by : (b : Bool) → nat_eq p.net net ≡ b → ArePending number ps net (cond b (set numbers p.place (number p)) numbers) target
    by true test = record {
      long = length-set numbers p.place (number p) ∙ h.long;
      each = λ q member is. h.each q (member-tail p ps q member) is;
      right = λ k. at (nat_eq-equal p.net net test) k (equal_or_not k p.place) (h.right k);
    }
    by false test = record {
      long = h.long;
      each = λ q member is. h.each q (member-tail p ps q member) is;
      right = λ k.
          elim (h.right k) [
            | inl right ↦ inl right
            | inr there ↦ inr (later k (λ net_is place_is. nat_eq-differ p.net net test net_is) there)
          ];
    }

-- once all are put, the numbers are the target
puts-right : (number : InstancePin → ℕ) (ps : List InstancePin) (net : ℕ) (numbers target : List ℕ) → ArePending number ps net numbers target → puts number ps net numbers ≡ target
puts-right number [] net numbers target h =
    list-same numbers target (λ k. elim (h.right k) [ inl right ↦ right | inr there ↦ absurd (member-none there.0 there.1) ])
puts-right number (p ∷ ps) net numbers target h =
    puts-right number ps net (number_put p.net p.place (number p) net numbers) target (pending-step number p ps net numbers target h)

-- one more is put
pub puts-more : (number : InstancePin → ℕ) (p : InstancePin) (rest after : List InstancePin) (net n : ℕ) (old new : Option (List ℕ)) → rest ≡ p ∷ after → n ≡ number p
    → new ≡ option_map (number_put p.net p.place n net) old → option_map (puts number after net) new ≡ option_map (puts number rest net) old
puts-more number p rest after net n old new is same put =
    ap (option_map (puts number after net)) (put ∙ ap (λ (m : ℕ). option_map (number_put p.net p.place m net) old) same) ∙ by old
    ∙ sym (ap (λ (ps : List InstancePin). option_map (puts number ps net) old) is)
  where
    by : (o : Option (List ℕ)) → option_map (puts number after net) (option_map (number_put p.net p.place (number p) net) o) ≡ option_map (puts number (p ∷ after) net) o
    by None = refl
    by (Some l) = refl

-- the numbers of a net's pins once those of the pins of an instance are put, where those of no others changed
net-put : (old new : NetPin → ℕ) (number : InstancePin → ℕ) (nets : ℕ → List NetPin) (count i : ℕ) (ps : List InstancePin) (net : ℕ) → net ≤ count → AreInstancePins nets count i ps
    → ((q : NetPin) → q.instance ≢ i → old q ≡ new q) → ((p : InstancePin) → new (as_net_pin i p) ≡ number p) → puts number ps net (map old (nets net)) ≡ map new (nets net)
net-put old new number nets count i ps net few own same is = puts-right number ps net (map old (nets net)) (map new (nets net)) (record {
  long = length-map (nets net) old ∙ sym (length-map (nets net) new);
  each = λ p member here.
      let low : p.net ≤ count = omega (arith, here, few) in
      map-at new (nets net) p.place (as_net_pin i p) (ap (λ (n : ℕ). slice_get (nets n) p.place) (sym here) ∙ own.each p member low) ∙ ap (λ (n : ℕ). Some n) (is p);
  right = λ k. by k (slice_get (nets net) k) refl;
})
  where
    by : (k : ℕ) (o : Option NetPin) → slice_get (nets net) k ≡ o
        → (slice_get (map old (nets net)) k ≡ slice_get (map new (nets net)) k) ⊎ ((p : InstancePin) × Contains ps p × (p.net ≡ net) × (p.place ≡ k))
    by k None none =
        inl (slice_get-map old (nets net) k ∙ ap (option_map old) none ∙ sym (slice_get-map new (nets net) k ∙ ap (option_map new) none))
    by k (Some q) at =
        elim (equal_or_not q.instance i) [
          | inl mine ↦ inr (own.all net k q few at mine)
          | inr other ↦ inl (map-at old (nets net) k q at ∙ ap (λ (n : ℕ). Some n) (same q other) ∙ sym (map-at new (nets net) k q at))
        ]

-- where each net is changed by a rule that is right, all are
lists-put : (d : Netlist) (old new : NetPin → ℕ) (rule : ℕ → List ℕ → List ℕ) (before after : List (List ℕ))
    → before ≡ map (λ (net : ℕ). map old (net_pins d net)) (range_with_len 0 (length d.nets + 1)) → ((net : ℕ) → slice_get after net ≡ option_map (rule net) (slice_get before net))
    → ((net : ℕ) → net ≤ length d.nets → rule net (map old (net_pins d net)) ≡ map new (net_pins d net))
    → after ≡ map (λ (net : ℕ). map new (net_pins d net)) (range_with_len 0 (length d.nets + 1))
lists-put d old new rule before after is each right = list-same after (map (λ (net : ℕ). map new (net_pins d net)) (range_with_len 0 (length d.nets + 1))) (λ k. by k (cases_lt k (length d.nets + 1)))
  where
    past : (f : ℕ → List ℕ) (k : ℕ) → length d.nets + 1 ≤ k → slice_get (map f (range_with_len 0 (length d.nets + 1))) k ≡ None
    past f k high =
        slice_get_past (map f (range_with_len 0 (length d.nets + 1))) k
        (omega (arith, high, length-map (range_with_len 0 (length d.nets + 1)) f, length-range_with_len 0 (length d.nets + 1)))

    image : (f : ℕ → List ℕ) (k : ℕ) → k < length d.nets + 1 → slice_get (map f (range_with_len 0 (length d.nets + 1))) k ≡ Some (f k)
    image f k low = let none : 0 + k ≡ k = omega arith in image-at f 0 (length d.nets + 1) k low ∙ ap (λ (n : ℕ). Some (f n)) none

    by : (k : ℕ) → (k < length d.nets + 1) ⊎ (length d.nets + 1 ≤ k)
        → slice_get after k ≡ slice_get (map (λ (net : ℕ). map new (net_pins d net)) (range_with_len 0 (length d.nets + 1))) k
    by k (inl low) =
        each k ∙ ap (λ (l : List (List ℕ)). option_map (rule k) (slice_get l k)) is ∙ ap (option_map (rule k)) (image (λ (net : ℕ). map old (net_pins d net)) k low)
        ∙ ap (λ (l : List ℕ). Some l) (right k (omega (arith, low))) ∙ sym (image (λ (net : ℕ). map new (net_pins d net)) k low)
    by k (inr high) =
        each k ∙ ap (λ (l : List (List ℕ)). option_map (rule k) (slice_get l k)) is ∙ ap (option_map (rule k)) (past (λ (net : ℕ). map old (net_pins d net)) k high)
        ∙ sym (past (λ (net : ℕ). map new (net_pins d net)) k high)

-- where an instance that is put elsewhere stands, and that the others stay
put-here : (standings : List Spot) (i : ℕ) (s : Spot) → i < length standings → standing_of (set standings i s) i ≡ s
put-here standings i s within = ap standing_in (get-set-same standings i s within)

put-other : (standings : List Spot) (i : ℕ) (s : Spot) (j : ℕ) → j ≢ i → standing_of (set standings i s) j ≡ standing_of standings j
put-other standings i s j other = ap standing_in (get-set-other standings i j s other)

-- the columns of all pins once an instance is put elsewhere
pub columns-put : (d : Netlist) (standings : List Spot) (i : ℕ) (s : Spot) (ps : List InstancePin) (before after : NumberLists) → i < length standings → AreInstancePins (net_pins d) (length d.nets) i ps
    → before ≡ record { most = 2004294967295; lists = columns_by d standings } → after.most ≡ before.most
    → ((net : ℕ) → slice_get after.lists net ≡ option_map (puts (instance_column s) ps net) (slice_get before.lists net))
    → after ≡ record { most = 2004294967295; lists = columns_by d (set standings i s) }
columns-put d standings i s ps before after within own is most each =
    ap₂ (λ (m : ℕ) (l : List (List ℕ)). record { most = m; lists = l }) (most ∙ ap (λ (b : NumberLists). b.most) is)
    (lists-put d (pin_column standings) (pin_column (set standings i s)) (puts (instance_column s) ps) before.lists after.lists (ap (λ (b : NumberLists). b.lists) is) each
    (λ net few. net-put (pin_column standings) (pin_column (set standings i s)) (instance_column s) (net_pins d) (length d.nets) i ps net few own
    (λ q other. ap (λ (t : Spot). t.left + offset_in q t.mirror) (sym (put-other standings i s q.instance other)))
    (λ p. ap (λ (t : Spot). t.left + offset_in (as_net_pin i p) t.mirror) (put-here standings i s within))))

-- and their rows
same-row : (standings : List Spot) (i : ℕ) (s was : Spot) → i < length standings → slice_get standings i ≡ Some was → was.row ≡ s.row → (q : NetPin)
    → pin_row standings q ≡ pin_row (set standings i s) q
same-row standings i s was within at same q =
    elim (equal_or_not q.instance i) [
      | inl mine ↦
          ap (λ (j : ℕ). (standing_of standings j).row) mine ∙ ap (λ (t : Spot). t.row) (ap standing_in at) ∙ same ∙ sym (ap (λ (t : Spot). t.row) (put-here standings i s within))
          ∙ ap (λ (j : ℕ). (standing_of (set standings i s) j).row) (sym mine)
      | inr other ↦ ap (λ (t : Spot). t.row) (sym (put-other standings i s q.instance other))
    ]

images-equal : (f g : NetPin → ℕ) → ((q : NetPin) → f q ≡ g q) → (qs : List NetPin) → map f qs ≡ map g qs
images-equal f g same [] = refl
images-equal f g same (q ∷ qs) = ap₂ (λ (n : ℕ) (ns : List ℕ). n ∷ ns) (same q) (images-equal f g same qs)

pub rows-put : (d : Netlist) (standings : List Spot) (i : ℕ) (s was : Spot) (from to : ℕ) (ps : List InstancePin) (before after : NumberLists) → slice_get standings i ≡ Some was
    → from ≡ was.row → to ≡ s.row → AreInstancePins (net_pins d) (length d.nets) i ps → before ≡ record { most = 513; lists = rows_by d standings } → after.most ≡ before.most
    → ((net : ℕ) → slice_get after.lists net ≡ option_map (λ (l : List ℕ). cond (nat_eq from to) l (puts (λ (p : InstancePin). to) ps net l)) (slice_get before.lists net))
    → after ≡ record { most = 513; lists = rows_by d (set standings i s) }
rows-put d standings i s was from to ps before after at is_from is_to own is most each =
    ap₂ (λ (m : ℕ) (l : List (List ℕ)). record { most = m; lists = l }) (most ∙ ap (λ (b : NumberLists). b.most) is)
    (lists-put d (pin_row standings) (pin_row (set standings i s)) (λ (net : ℕ) (l : List ℕ). cond (nat_eq from to) l (puts (λ (p : InstancePin). to) ps net l)) before.lists after.lists
    (ap (λ (b : NumberLists). b.lists) is) each (λ net few. by net few (nat_eq from to) refl))
  where
    within : i < length standings
    within = slice_get_within standings i was at

    by : (net : ℕ) → net ≤ length d.nets → (b : Bool) → nat_eq from to ≡ b
        → cond b (map (pin_row standings) (net_pins d net)) (puts (λ (p : InstancePin). to) ps net (map (pin_row standings) (net_pins d net))) ≡ map (pin_row (set standings i s)) (net_pins d net)
    by net few true test =
        images-equal (pin_row standings) (pin_row (set standings i s)) (λ q. same-row standings i s was within at (sym is_from ∙ nat_eq-equal from to test ∙ is_to) q) (net_pins d net)
    by net few false test =
        net-put (pin_row standings) (pin_row (set standings i s)) (λ (p : InstancePin). to) (net_pins d) (length d.nets) i ps net few own
        (λ q other. ap (λ (t : Spot). t.row) (sym (put-other standings i s q.instance other))) (λ p. ap (λ (t : Spot). t.row) (put-here standings i s within) ∙ sym is_to)

-- what the nets cost is how far the columns of their pins spread, and the rows as the weights tell
pub costs-sum : (d : Netlist) (w : Weighing) (standings : List Spot)
    → sum (map spread (columns_by d standings)) + w.row_cost * sum (map spread (rows_by d standings)) ≡ sum (table_costs d w standings)
unfolding measured
costs-sum d w standings =
    let nets = range_with_len 0 (length d.nets + 1) in
    let across = λ (net : ℕ). spread (map (pin_column standings) (net_pins d net)) in
    let along = λ (net : ℕ). spread (map (pin_row standings) (net_pins d net)) in
    ap₂ (λ (m n : ℕ). m + n) (ap sum (map-map (λ (net : ℕ). map (pin_column standings) (net_pins d net)) spread nets))
    (ap (λ (l : List ℕ). w.row_cost * sum l) (map-map (λ (net : ℕ). map (pin_row standings) (net_pins d net)) spread nets) ∙ sym (sum-scaled w.row_cost along nets))
    ∙ sym (sum-both across (λ (net : ℕ). w.row_cost * along net) nets)

-- the places of one net more
pub places-more : (d : Netlist) (f : NetPin → ℕ) (net m : ℕ) (old new : NumberLists) (list : List ℕ) → new ≡ record { most = old.most; lists = old.lists ++ list ∷ [] }
    → old ≡ record { most = m; lists = map (λ (n : ℕ). map f (net_pins d n)) (range_with_len 0 net) } → list ≡ map f (net_pins d net)
    → new ≡ record { most = m; lists = map (λ (n : ℕ). map f (net_pins d n)) (range_with_len 0 (net + 1)) }
places-more d f net m old new list put so_far is =
    put
    ∙ ap₂ (λ (k : ℕ) (l : List (List ℕ)). record { most = k; lists = l }) (ap (λ (v : NumberLists). v.most) so_far)
    (ap₂ (λ (ls : List (List ℕ)) (l : List ℕ). ls ++ l ∷ []) (ap (λ (v : NumberLists). v.lists) so_far) is
    ∙ sym (map-range_with_len_more (λ (n : ℕ). map f (net_pins d n)) 0 net net (omega arith)))
