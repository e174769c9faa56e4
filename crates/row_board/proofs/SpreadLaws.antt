use Rattle.std.proofs.Common.{◌≡◌, ◌≢◌, ◌⊎◌, inl, inr, ◌<◌, ◌≤◌, ℕ, ◌+◌, ◌-◌, ◌*◌, List, [], ◌∷◌, ◌++◌, length, get_or, map, set, take, drop, sum, Bool, true, false, cond, Option, None, Some, refl, ap, sym, ◌∙◌, subst, arith}
use Rattle.std.proofs.Math.Nat.{mul-le-mul_left}
use Rattle.std.proofs.lemmas.Bool.{cases_order, cond-true, cond-false}
use Rattle.std.proofs.lemmas.List.Sums.{get_or-le-sum_by}
use Rattle.std.proofs.lemmas.List.{length-append, length-map, length-set, map-append, map-set}
use Rattle.std.proofs.lemmas.Option.{get_or_from_slice_get, same_Some, slice_get-map, slice_get_within}
use Rattle.std.specs.List.{AllByRecursion, slice_get}
use Rattle.std.specs.Option.{option_map}
use Rattle.std.specs.Prelude.{nat_eq}
use Rattle.row_board.specs.Cost.{spread}
use Rattle.row_board.specs.Extremes.{part_of, distance, AreBehind, AreExtremes, AreExtremesOf}
use Rattle.row_board.specs.Spreads.{number_put}
use Rattle.row_board.specs.SpreadsView.{AreSpreads}
use Rattle.row_board.specs.declared.extremes.Extremes.{Extremes}
use Rattle.row_board.specs.declared.spreads.Spreads.TheInside.{Inside}
use Rattle.row_board.proofs.ExtremesLaws.{extremes-before, extremes-here, extremes-last, extremes-other, extremes-spread}
use Rattle.std_laws.proofs.Every.{every-append, every-dropped, every-from-get, every-get, every-map, every-push, every-set, every-taken, every-weaker}
use Rattle.std_laws.proofs.Greatest.{greatest-few}
use Rattle.std_laws.proofs.Images.{map-map, map-same}
use Rattle.std_laws.proofs.Places.{get-set-other, get-set-same, map-at, slice_get-push}
use Rattle.std_laws.proofs.Sums.{sum-push, sum-set, sum-small}
use Rattle.std_laws.proofs.Tests.{equal_or_not, nat_eq-equal, nat_eq-false, nat_eq-true}

-- numbers up to a bound spread no farther
pub spread-small : (most : ℕ) (ns : List ℕ) → AllByRecursion (λ (n : ℕ). n ≤ most) ns → spread ns ≤ most
spread-small most [] all = omega arith
spread-small most (n ∷ ns) all = let top = greatest-few most n ns all.0 all.1 in omega (arith, top)

-- lists of such numbers spread as their extremes tell, in all no farther than as many times the bound
pub spreads-are : (numbers : List ℕ) (extremes : List Extremes) → AllByRecursion (AreExtremesOf numbers) extremes → map spread (map (part_of numbers) extremes) ≡ map distance extremes
spreads-are numbers extremes all =
    map-map (part_of numbers) spread extremes
    ∙ map-same (AreExtremesOf numbers) (λ (p : Extremes). spread (part_of numbers p)) distance (λ p is. extremes-spread (part_of numbers p) p is.is) extremes all

width-small : (most : ℕ) (numbers : List ℕ) (p : Extremes) → AllByRecursion (λ (n : ℕ). n ≤ most) numbers → AreExtremesOf numbers p → distance p ≤ most
width-small most numbers p small is =
    omega (
      arith,
      extremes-spread (part_of numbers p) p is.is,
      spread-small most (part_of numbers p)
          (every-taken (λ (n : ℕ). n ≤ most) p.count (drop p.start numbers) (every-dropped (λ (n : ℕ). n ≤ most) p.start numbers small)),
    )

pub widths-small : (most : ℕ) (numbers : List ℕ) (extremes : List Extremes) → AllByRecursion (λ (n : ℕ). n ≤ most) numbers → AllByRecursion (AreExtremesOf numbers) extremes
    → sum (map distance extremes) ≤ most * length extremes
widths-small most numbers extremes small all =
    let each =
    every-map (λ (n : ℕ). n ≤ most) distance extremes
    (every-weaker (AreExtremesOf numbers) (λ (p : Extremes). distance p ≤ most) (λ p is. width-small most numbers p small is) extremes all) in
    omega (arith, sum-small most (map distance extremes) each, ap (λ (n : ℕ). most * n) (length-map extremes distance))

-- so for at most 200,001 lists of numbers up to 2^41 the sum is small
pub widths-fit : (most : ℕ) (numbers : List ℕ) (extremes : List Extremes) → AllByRecursion (λ (n : ℕ). n ≤ most) numbers → AllByRecursion (AreExtremesOf numbers) extremes → most ≤ 2199023255552
    → length extremes ≤ 200001 → sum (map distance extremes) ≤ 439806850133655552
widths-fit most numbers extremes small all low few =
    let one : most * length extremes ≤ most * 200001 = mul-le-mul_left most few in
    omega (arith, widths-small most numbers extremes small all, one, low)

-- one list more, which is put behind the others
extremes-more : (numbers list : List ℕ) (extremes : List Extremes) (p : Extremes) → AllByRecursion (AreExtremesOf numbers) extremes → p.start ≡ length numbers → AreExtremes list p → length list ≤ 200000
    → AllByRecursion (AreExtremesOf (numbers ++ list)) (extremes ++ p ∷ [])
extremes-more numbers list extremes p all start is few =
    every-push (AreExtremesOf (numbers ++ list)) extremes p
    (every-weaker (AreExtremesOf numbers) (AreExtremesOf (numbers ++ list)) (λ q old. record {
      is = subst (λ (l : List ℕ). AreExtremes l q) (sym (extremes-before numbers list q old.within)) old.is;
      within = omega (arith, old.within, length-append numbers list);
      few = old.few;
    }) extremes all)
    (record {
      is = subst (λ (l : List ℕ). AreExtremes l p) (sym (extremes-last numbers list p start is.count)) is;
      within = omega (arith, start, is.count, length-append numbers list);
      few = omega (arith, is.count, few);
    })

behind-more : (numbers : List ℕ) (extremes : List Extremes) (p : Extremes) → AllByRecursion (AreExtremesOf numbers) extremes → AreBehind extremes → p.start ≡ length numbers → AreBehind (extremes ++ p ∷ [])
behind-more numbers extremes p all behind start = record {
  each = λ i j q r at_i at_j less. by i j q r less (slice_get-push extremes i p q at_i) (slice_get-push extremes j p r at_j);
}
  where
    by : (i j : ℕ) (q r : Extremes) → i < j → ((i ≡ length extremes) × (q ≡ p)) ⊎ (slice_get extremes i ≡ Some q) → ((j ≡ length extremes) × (r ≡ p)) ⊎ (slice_get extremes j ≡ Some r)
        → q.start + q.count ≤ r.start
    by i j q r less (inr one) (inr other) = behind.each i j q r one other less
    by i j q r less (inr one) (inl last) =
        let is = every-get (AreExtremesOf numbers) extremes i q all one in omega (arith, is.within, start, ap (λ (x : Extremes). x.start) last.1)
    by i j q r less (inl last) (inl other) = absurd (omega (arith, less, last.0, other.0))
    by i j q r less (inl last) (inr other) = absurd (omega (arith, less, last.0, slice_get_within extremes j r other))

pub lists-more : (numbers list : List ℕ) (extremes : List Extremes) (p : Extremes) → AllByRecursion (AreExtremesOf numbers) extremes → p.start ≡ length numbers → AreExtremes list p
    → map (part_of (numbers ++ list)) (extremes ++ p ∷ []) ≡ map (part_of numbers) extremes ++ list ∷ []
lists-more numbers list extremes p all start is =
    map-append (part_of (numbers ++ list)) extremes (p ∷ [])
    ∙ ap (λ (l : List ℕ). map (part_of (numbers ++ list)) extremes ++ l ∷ []) (extremes-last numbers list p start is.count)
    ∙ ap (λ (ls : List (List ℕ)). ls ++ list ∷ [])
    (map-same (AreExtremesOf numbers) (part_of (numbers ++ list)) (part_of numbers) (λ q old. extremes-before numbers list q old.within) extremes all)

-- a number of a list is written, which has other extremes then
pub record IsWritten (numbers : List ℕ) (extremes : List Extremes) (n place number : ℕ) (old new : Extremes) : Type 0 where
  pub all : AllByRecursion (AreExtremesOf numbers) extremes
  pub behind : AreBehind extremes
  pub at : slice_get extremes n ≡ Some old
  pub inside : place < old.count
  pub start : new.start ≡ old.start
  pub count : new.count ≡ old.count
  pub is : AreExtremes (part_of (set numbers (old.start + place) number) old) new

-- where the other lists lie
apart : (numbers : List ℕ) (extremes : List Extremes) (n place number : ℕ) (old new : Extremes) → IsWritten numbers extremes n place number old new → (k : ℕ) (q : Extremes) → slice_get extremes k ≡ Some q → k ≢ n
    → (old.start + place < q.start) ⊎ (q.start + q.count ≤ old.start + place)
apart numbers extremes n place number old new w k q at other =
    elim (cases_order k n) [
      | inl same ↦ absurd (other same)
      | inr order ↦ elim order [
        | inl before ↦ inr (omega (arith, w.behind.each k n q old at w.at before))
        | inr behind ↦ inl (omega (arith, w.behind.each n k old q w.at at behind, w.inside))
      ]
    ]

new-extremes : (numbers : List ℕ) (old new : Extremes) → new.start ≡ old.start → new.count ≡ old.count → part_of numbers new ≡ part_of numbers old
new-extremes numbers old new start count = ap (λ (c : ℕ). take c (drop new.start numbers)) count ∙ ap (λ (s : ℕ). take old.count (drop s numbers)) start

pub extremes-written : (numbers : List ℕ) (extremes : List Extremes) (n place number : ℕ) (old new : Extremes) → IsWritten numbers extremes n place number old new
    → AllByRecursion (AreExtremesOf (set numbers (old.start + place) number)) (set extremes n new)
extremes-written numbers extremes n place number old new w =
    every-from-get (AreExtremesOf (set numbers (old.start + place) number)) (set extremes n new) (λ k q at. by k q at (equal_or_not k n))
  where
    was : AreExtremesOf numbers old
    was = every-get (AreExtremesOf numbers) extremes n old w.all w.at

    here : AreExtremesOf (set numbers (old.start + place) number) new
    here = record {
      is = subst (λ (l : List ℕ). AreExtremes l new) (sym (new-extremes (set numbers (old.start + place) number) old new w.start w.count)) w.is;
      within = omega (arith, was.within, w.start, w.count, length-set numbers (old.start + place) number);
      few = omega (arith, was.few, w.count);
    }

    by : (k : ℕ) (q : Extremes) → slice_get (set extremes n new) k ≡ Some q → (k ≡ n) ⊎ (k ≢ n) → AreExtremesOf (set numbers (old.start + place) number) q
    by k q at (inl same) =
        let is : new ≡ q =
        same_Some new q (sym (get-set-same extremes n new (slice_get_within extremes n old w.at)) ∙ ap (slice_get (set extremes n new)) (sym same) ∙ at) in
        subst (AreExtremesOf (set numbers (old.start + place) number)) is here
    by k q at (inr other) =
        let before : slice_get extremes k ≡ Some q = sym (get-set-other extremes n k new other) ∙ at in
        let is = every-get (AreExtremesOf numbers) extremes k q w.all before in
        record {
          is = subst (λ (l : List ℕ). AreExtremes l q) (sym (extremes-other numbers q (old.start + place) number (apart numbers extremes n place number old new w k q before other))) is.is;
          within = omega (arith, is.within, length-set numbers (old.start + place) number);
          few = is.few;
        }

behind-written : (numbers : List ℕ) (extremes : List Extremes) (n place number : ℕ) (old new : Extremes) → IsWritten numbers extremes n place number old new → AreBehind (set extremes n new)
behind-written numbers extremes n place number old new w = record {
  each = λ i j q r at_i at_j less.
      let one = was i q at_i (equal_or_not i n) in
      let other = was j r at_j (equal_or_not j n) in
      omega (arith, w.behind.each i j one.0 other.0 one.1 other.1 less, one.2, one.3, other.2);
}
  where
    was : (k : ℕ) (q : Extremes) → slice_get (set extremes n new) k ≡ Some q → (k ≡ n) ⊎ (k ≢ n)
        → (p : Extremes) × (slice_get extremes k ≡ Some p) × (q.start ≡ p.start) × (q.count ≡ p.count)
    was k q at (inl same) =
        let is : new ≡ q =
        same_Some new q (sym (get-set-same extremes n new (slice_get_within extremes n old w.at)) ∙ ap (slice_get (set extremes n new)) (sym same) ∙ at) in
        (old, ap (slice_get extremes) same ∙ w.at, sym (ap (λ (x : Extremes). x.start) is) ∙ w.start, sym (ap (λ (x : Extremes). x.count) is) ∙ w.count)
    was k q at (inr other) = (q, sym (get-set-other extremes n k new other) ∙ at, refl, refl)

-- so one number of one list is another
pub lists-written : (numbers : List ℕ) (extremes : List Extremes) (n place number : ℕ) (old new : Extremes) → IsWritten numbers extremes n place number old new
    → (k : ℕ) → slice_get (map (part_of (set numbers (old.start + place) number)) (set extremes n new)) k ≡ option_map (number_put n place number k) (slice_get (map (part_of numbers) extremes) k)
lists-written numbers extremes n place number old new w k = by (slice_get extremes k) refl (equal_or_not k n)
  where
    by : (o : Option Extremes) → slice_get extremes k ≡ o → (k ≡ n) ⊎ (k ≢ n)
        → slice_get (map (part_of (set numbers (old.start + place) number)) (set extremes n new)) k ≡ option_map (number_put n place number k) (slice_get (map (part_of numbers) extremes) k)
    by o at (inl same) =
        let there : slice_get (set extremes n new) k ≡ Some new = ap (slice_get (set extremes n new)) same ∙ get-set-same extremes n new (slice_get_within extremes n old w.at) in
        let before : slice_get (map (part_of numbers) extremes) k ≡ Some (part_of numbers old) = map-at (part_of numbers) extremes k old (ap (slice_get extremes) same ∙ w.at) in
        map-at (part_of (set numbers (old.start + place) number)) (set extremes n new) k new there
        ∙ ap (λ (l : List ℕ). Some l) (new-extremes (set numbers (old.start + place) number) old new w.start w.count ∙ extremes-here numbers old place number w.inside)
        ∙ ap (λ (l : List ℕ). Some l) (sym (cond-true (nat_eq n k) (set (part_of numbers old) place number) (part_of numbers old) (nat_eq-true n k (sym same))))
        ∙ sym (ap (option_map (number_put n place number k)) before)
    by None none (inr other) =
        slice_get-map (part_of (set numbers (old.start + place) number)) (set extremes n new) k
        ∙ ap (option_map (part_of (set numbers (old.start + place) number))) (get-set-other extremes n k new other ∙ none)
        ∙ sym (ap (option_map (number_put n place number k)) (slice_get-map (part_of numbers) extremes k ∙ ap (option_map (part_of numbers)) none))
    by (Some q) at (inr other) =
        let there : slice_get (set extremes n new) k ≡ Some q = get-set-other extremes n k new other ∙ at in
        map-at (part_of (set numbers (old.start + place) number)) (set extremes n new) k q there
        ∙ ap (λ (l : List ℕ). Some l) (extremes-other numbers q (old.start + place) number (apart numbers extremes n place number old new w k q at other))
        ∙ ap (λ (l : List ℕ). Some l)
        (sym (cond-false (nat_eq n k) (set (part_of numbers q) place number) (part_of numbers q) (nat_eq-false n k (λ same. other (sym same)))))
        ∙ sym (ap (option_map (number_put n place number k)) (map-at (part_of numbers) extremes k q at))

-- and where there is no such place, none is
pub lists-same : (lists : List (List ℕ)) (list place number : ℕ) → ((ns : List ℕ) → slice_get lists list ≡ Some ns → set ns place number ≡ ns)
    → (n : ℕ) → slice_get lists n ≡ option_map (number_put list place number n) (slice_get lists n)
lists-same lists list place number same n = by (slice_get lists n) refl (nat_eq list n) refl
  where
    by : (o : Option (List ℕ)) → slice_get lists n ≡ o → (b : Bool) → nat_eq list n ≡ b → o ≡ option_map (λ (ns : List ℕ). cond (nat_eq list n) (set ns place number) ns) o
    by None at b test = refl
    by (Some ns) at true test =
        ap (λ (l : List ℕ). Some l)
        (sym (cond-true (nat_eq list n) (set ns place number) ns test ∙ same ns (ap (slice_get lists) (nat_eq-equal list n test) ∙ at)))
    by (Some ns) at false test = ap (λ (l : List ℕ). Some l) (sym (cond-false (nat_eq list n) (set ns place number) ns test))

-- the sum after the extremes of one list changed
pub widths-changed : (extremes : List Extremes) (n : ℕ) (old new : Extremes) → slice_get extremes n ≡ Some old
    → (distance old ≤ sum (map distance extremes)) × (sum (map distance (set extremes n new)) ≡ (sum (map distance extremes) - distance old) + distance new)
widths-changed extremes n old new at = (
  omega (arith, get_or-le-sum_by (λ (m : ℕ). m) (map distance extremes) n (distance old) within, read),
  ap sum (map-set distance extremes n new) ∙ sum-set (map distance extremes) n (distance new) (distance old) within read,
)
  where
    there : slice_get (map distance extremes) n ≡ Some (distance old)
    there = map-at distance extremes n old at

    within : n < length (map distance extremes)
    within = slice_get_within (map distance extremes) n (distance old) there

    read : get_or (map distance extremes) n (distance old) ≡ distance old
    read = get_or_from_slice_get (map distance extremes) n (distance old) (distance old) there

-- all is kept where a list is put behind the others
pub spreads-more : (a b : Inside) (list : List ℕ) (p : Extremes) → AreSpreads a → b.numbers.items ≡ a.numbers.items ++ list → b.lists.items ≡ a.lists.items ++ p ∷ [] → b.most ≡ a.most
    → b.sum ≡ a.sum + distance p → p.start ≡ length a.numbers.items → AreExtremes list p → length list ≤ 200000 → AllByRecursion (λ (n : ℕ). n ≤ a.most) list → length a.lists.items < 200001
    → AreSpreads b
spreads-more a b list p old numbers extremes most sum_is start is short small few = record {
  sum =
      sum_is ∙ ap (λ (n : ℕ). n + distance p) old.sum ∙ sym (sum-push (map distance a.lists.items) (distance p))
      ∙ sym (ap sum (ap (map distance) extremes ∙ map-append distance a.lists.items (p ∷ [])));
  each =
      subst (AllByRecursion (AreExtremesOf b.numbers.items)) (sym extremes)
      (subst (λ (l : List ℕ). AllByRecursion (AreExtremesOf l) (a.lists.items ++ p ∷ [])) (sym numbers) (extremes-more a.numbers.items list a.lists.items p old.each start is short));
  behind = subst AreBehind (sym extremes) (behind-more a.numbers.items a.lists.items p old.each old.behind start);
  small =
      subst (λ (m : ℕ). AllByRecursion (λ (n : ℕ). n ≤ m) b.numbers.items) (sym most)
      (subst (AllByRecursion (λ (n : ℕ). n ≤ a.most)) (sym numbers) (every-append (λ (n : ℕ). n ≤ a.most) a.numbers.items list old.small small));
  few = omega (arith, ap length extremes, length-append a.lists.items (p ∷ []), few);
  low = omega (arith, most, old.low);
}

-- and where a number is written
pub spreads-written : (a b : Inside) (n place number : ℕ) (p q : Extremes) → AreSpreads a → IsWritten a.numbers.items a.lists.items n place number p q
    → b.numbers.items ≡ set a.numbers.items (p.start + place) number → b.lists.items ≡ set a.lists.items n q → b.most ≡ a.most → b.sum ≡ (a.sum - distance p) + distance q
    → number ≤ a.most → AreSpreads b
spreads-written a b n place number p q old w numbers extremes most sum_is few = record {
  sum =
      sum_is ∙ ap (λ (m : ℕ). (m - distance p) + distance q) old.sum ∙ sym (widths-changed a.lists.items n p q w.at).1
      ∙ sym (ap (λ (l : List Extremes). sum (map distance l)) extremes);
  each =
      subst (AllByRecursion (AreExtremesOf b.numbers.items)) (sym extremes)
      (subst (λ (l : List ℕ). AllByRecursion (AreExtremesOf l) (set a.lists.items n q)) (sym numbers) (extremes-written a.numbers.items a.lists.items n place number p q w));
  behind = subst AreBehind (sym extremes) (behind-written a.numbers.items a.lists.items n place number p q w);
  small =
      subst (λ (m : ℕ). AllByRecursion (λ (n : ℕ). n ≤ m) b.numbers.items) (sym most)
      (subst (AllByRecursion (λ (n : ℕ). n ≤ a.most)) (sym numbers) (every-set (λ (n : ℕ). n ≤ a.most) a.numbers.items (p.start + place) number old.small few));
  few = omega (arith, ap length extremes, length-set a.lists.items n q, old.few);
  low = omega (arith, most, old.low);
}
