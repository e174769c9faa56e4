use Rattle.std.proofs.Common.{◌≡◌, ◌<◌, ◌≤◌, ℕ, suc, ◌+◌, ◌-◌, List, [], ◌∷◌, ◌++◌, length, get_or, map, set, take, Bool, true, false, cond, Some, refl, ap, ap₂, sym, ◌∙◌, arith, fold, min, max, Contains, subst}
use Rattle.std.proofs.lemmas.Bool.{cond-false}
use Rattle.std.proofs.lemmas.Bool.Decides.{nat_tests}
use Rattle.std.proofs.lemmas.List.Sums.{sum_by-cons, sum_by-set, sum_by_push}
use Rattle.std.proofs.lemmas.List.{length-take-le, take_more}
use Rattle.std.proofs.lemmas.Option.{get_or_from_slice_get, slice_get_within}
use Rattle.std.specs.List.{AllByRecursion, count_by, slice_get}
use Rattle.std.specs.Prelude.{nat_eq, nat_lt}
use Rattle.row_board.specs.Cost.{spread}
use Rattle.row_board.specs.Extreme.{extreme_of, extreme_with, extreme_without, farthest, is_beyond, IsExtreme}
use Rattle.row_board.specs.declared.extreme.Extreme.{Extreme}
use Rattle.row_board.specs.declared.extreme.Side.{Side}
use Rattle.row_board.specs.declared.extreme.Side.TheVariants.{Low, High}
use Rattle.std_laws.proofs.Every.{every-at, every-left, every-push, every-set, every-weaker}
use Rattle.std_laws.proofs.Greatest.{greatest-all, greatest-few, least-all}
use Rattle.std_laws.proofs.Images.{map-itself}
use Rattle.std_laws.proofs.Members.{member-same, member-tail}
use Rattle.std_laws.proofs.Tests.{nat_eq-equal, nat_eq-itself, nat_lt-is-within}

-- no number is beyond itself
beyond-itself : (side : Side) (n : ℕ) → is_beyond side n n ≡ false
beyond-itself Low n = grind (arith, nat_tests)
beyond-itself High n = grind (arith, nat_tests)

-- what is not beyond a number is not beyond one that is, and is another
beyond-farther : (side : Side) (far at n : ℕ) → is_beyond side far at ≡ true → is_beyond side n at ≡ false → is_beyond side n far ≡ false
beyond-farther Low far at n out within = grind (arith, nat_tests)
beyond-farther High far at n out within = grind (arith, nat_tests)

beyond-apart : (side : Side) (far at n : ℕ) → is_beyond side far at ≡ true → is_beyond side n at ≡ false → nat_eq n far ≡ false
beyond-apart Low far at n out within = grind (arith, nat_tests)
beyond-apart High far at n out within = grind (arith, nat_tests)

-- how often a number stands among others, and one more of it or of another
count-none : (p : ℕ → Bool) (ns : List ℕ) → AllByRecursion (λ (n : ℕ). p n ≡ false) ns → count_by p ns ≡ 0
count-none p [] all = refl
count-none p (n ∷ ns) all = omega (arith, sum_by-cons (λ (m : ℕ). cond (p m) 1 0) n ns, cond-false {A = ℕ} (p n) 1 0 all.0, count-none p ns all.1)

count-push : (p : ℕ → Bool) (ns : List ℕ) (n : ℕ) (b : Bool) → p n ≡ b → count_by p (ns ++ n ∷ []) ≡ count_by p ns + cond b 1 0
count-push p ns n b is = sum_by_push (λ (m : ℕ). cond (p m) 1 0) ns n ∙ ap (λ (c : Bool). count_by p ns + cond c 1 0) is

-- where a number counts, it is among them
count-member : (at : ℕ) (ns : List ℕ) → 0 < count_by (λ (m : ℕ). nat_eq m at) ns → Contains ns at
count-member at [] some = absurd (omega arith)
count-member at (n ∷ ns) some = by (nat_eq n at) refl (count-member at ns)
  where
    by : (b : Bool) → nat_eq n at ≡ b → (0 < count_by (λ (m : ℕ). nat_eq m at) ns → Contains ns at) → Contains (n ∷ ns) at
    by true here rest = member-same n at ns (nat_eq-equal n at here)
    by false off rest =
        member-tail n ns at
        (rest (omega (arith, some, sum_by-cons (λ (m : ℕ). cond (nat_eq m at) 1 0) n ns, cond-false {A = ℕ} (nat_eq n at) 1 0 off)))

-- one number more
extreme-more : (side : Side) (ns : List ℕ) (e : Extreme) (n : ℕ) → 0 < length ns → IsExtreme side ns e → IsExtreme side (ns ++ n ∷ []) (extreme_with side e n)
extreme-more side ns e n long is = by (is_beyond side n e.at) refl (nat_eq n e.at) refl
  where
    by : (b : Bool) → is_beyond side n e.at ≡ b → (c : Bool) → nat_eq n e.at ≡ c
        → IsExtreme side (ns ++ n ∷ []) (cond b (record { at = n; count = 1 }) (cond c (record { at = e.at; count = e.count + 1 }) e))
    by true out c test =
        let farther =
        every-weaker (λ (m : ℕ). is_beyond side m e.at ≡ false) (λ (m : ℕ). is_beyond side m n ≡ false) (λ m within. beyond-farther side n e.at m out within) ns is.within in
        let others =
        every-weaker (λ (m : ℕ). is_beyond side m e.at ≡ false) (λ (m : ℕ). nat_eq m n ≡ false) (λ m within. beyond-apart side n e.at m out within) ns is.within in
        record {
          within = every-push (λ (m : ℕ). is_beyond side m n ≡ false) ns n farther (beyond-itself side n);
          count = omega (arith, count-none (λ (m : ℕ). nat_eq m n) ns others, count-push (λ (m : ℕ). nat_eq m n) ns n true (nat_eq-itself n));
          some = λ more. omega arith;
        }
    by false inside true on = record {
      within = every-push (λ (m : ℕ). is_beyond side m e.at ≡ false) ns n is.within inside;
      count = omega (arith, is.count, count-push (λ (m : ℕ). nat_eq m e.at) ns n true on);
      some = λ more. omega arith;
    }
    by false inside false off = record {
      within = every-push (λ (m : ℕ). is_beyond side m e.at ≡ false) ns n is.within inside;
      count = omega (arith, is.count, count-push (λ (m : ℕ). nat_eq m e.at) ns n false off);
      some = λ more. is.some long;
    }

-- the next of numbers is looked at
pub extreme-next : (side : Side) (numbers others : List ℕ) (first k n : ℕ) (e : Extreme) → numbers ≡ first ∷ others → k < length others → n ≡ get_or others k n → IsExtreme side (take (k + 1) numbers) e
    → IsExtreme side (take (k + 1 + 1) numbers) (extreme_with side e n)
extreme-next side numbers others first k n e is within here so_far =
    subst (λ (l : List ℕ). IsExtreme side l (extreme_with side e n)) (sym more) (extreme-more side (take (k + 1) numbers) e n some so_far)
  where
    long : k + 1 < length numbers
    long = omega (arith, ap length is, within)

    some : 0 < length (take (k + 1) numbers)
    some = omega (arith, length-take-le (k + 1) numbers (omega (arith, long)))

    read : get_or numbers (k + 1) n ≡ n
    read =
        let next : k + 1 ≡ suc k = omega arith in
        ap (λ (l : List ℕ). get_or l (k + 1) n) is ∙ ap (λ (j : ℕ). get_or (first ∷ others) j n) next ∙ sym here

    more : take (k + 1 + 1) numbers ≡ take (k + 1) numbers ++ n ∷ []
    more = take_more numbers (k + 1) n long ∙ ap (λ (m : ℕ). take (k + 1) numbers ++ m ∷ []) read

-- and one that it takes the place of is gone
extreme-less : (side : Side) (ns : List ℕ) (e : Extreme) (k was now : ℕ) → slice_get ns k ≡ Some was → IsExtreme side (ns ++ now ∷ []) e → 0 < (extreme_without e was).count
    → IsExtreme side (set ns k now) (extreme_without e was)
extreme-less side ns e k was now at is = by (nat_eq was e.at) refl
  where
    within : AllByRecursion (λ (m : ℕ). is_beyond side m e.at ≡ false) (set ns k now)
    within =
        every-set (λ (m : ℕ). is_beyond side m e.at ≡ false) ns k now (every-left (λ (m : ℕ). is_beyond side m e.at ≡ false) ns (now ∷ []) is.within)
        (every-at (λ (m : ℕ). is_beyond side m e.at ≡ false) ns [] now is.within)

    counted : (b : Bool) → nat_eq was e.at ≡ b → count_by (λ (m : ℕ). nat_eq m e.at) (set ns k now) + cond b 1 0 ≡ e.count
    counted b test =
        ap (λ (c : Bool). count_by (λ (m : ℕ). nat_eq m e.at) (set ns k now) + cond c 1 0) (sym test)
        ∙ ap (λ (m : ℕ). count_by (λ (m : ℕ). nat_eq m e.at) (set ns k now) + cond (nat_eq m e.at) 1 0) (sym (get_or_from_slice_get ns k was was at))
        ∙ sum_by-set (λ (m : ℕ). cond (nat_eq m e.at) 1 0) ns k now was (slice_get_within ns k was at)
        ∙ sym (sum_by_push (λ (m : ℕ). cond (nat_eq m e.at) 1 0) ns now) ∙ sym is.count

    by : (b : Bool) → nat_eq was e.at ≡ b → 0 < (cond b (record { at = e.at; count = e.count - 1 }) e).count
        → IsExtreme side (set ns k now) (cond b (record { at = e.at; count = e.count - 1 }) e)
    by true on some = record {
      within = within;
      count = omega (arith, counted true on);
      some = λ long. some;
    }
    by false off some = record {
      within = within;
      count = omega (arith, counted false off);
      some = λ long. some;
    }

-- so where some are left there, the extreme is right after a number became another
pub extreme-moved : (side : Side) (ns : List ℕ) (e : Extreme) (k was now : ℕ) → IsExtreme side ns e → slice_get ns k ≡ Some was → 0 < (extreme_without (extreme_with side e now) was).count
    → IsExtreme side (set ns k now) (extreme_without (extreme_with side e now) was)
extreme-moved side ns e k was now is at some =
    extreme-less side ns (extreme_with side e now) k was now at (extreme-more side ns e now (omega (arith, slice_get_within ns k was at)) is) some

-- and where neither number is there or farther out it is as before
pub extreme-kept : (side : Side) (ns : List ℕ) (e : Extreme) (k was now : ℕ) → IsExtreme side ns e → slice_get ns k ≡ Some was → nat_eq was e.at ≡ false → nat_eq now e.at ≡ false
    → is_beyond side now e.at ≡ false → IsExtreme side (set ns k now) e
extreme-kept side ns e k was now is at off other inside =
    let same : extreme_without (extreme_with side e now) was ≡ e =
    ap (λ (x : Extreme). extreme_without x was)
    (ap₂ (λ (x y : Bool). cond x (record { at = now; count = 1 }) (cond y (record { at = e.at; count = e.count + 1 }) e)) inside other)
    ∙ ap (λ (x : Bool). cond x (record { at = e.at; count = e.count - 1 }) e) off in
    let some : 0 < e.count = is.some (omega (arith, slice_get_within ns k was at)) in
    subst (λ (x : Extreme). IsExtreme side (set ns k now) x) same (extreme-moved side ns e k was now is at (omega (arith, some, ap (λ (x : Extreme). x.count) same)))

-- the least of numbers that are at least a bound is at least that
least-many : (bound first : ℕ) (ns : List ℕ) → bound ≤ first → AllByRecursion (λ (n : ℕ). bound ≤ n) ns → bound ≤ fold min first ns
least-many bound first [] low all = low
least-many bound first (n ∷ ns) low all = least-many bound (min first n) ns (omega (arith, low, all.0)) all.1

-- the extreme of numbers on a side is the number that is farthest out there
farthest-is : (side : Side) (n : ℕ) (ns : List ℕ) (e : Extreme) → IsExtreme side (n ∷ ns) e → e.at ≡ farthest side (n ∷ ns)
farthest-is Low n ns e is =
    let some : 0 < count_by (λ (m : ℕ). nat_eq m e.at) (n ∷ ns) = omega (arith, is.some (omega arith), is.count) in
    let from : fold min n (map (λ (m : ℕ). m) ns) ≤ e.at = least-all (λ (m : ℕ). m) n ns e.at (count-member e.at (n ∷ ns) some) in
    let above : e.at ≤ fold min n ns =
    least-many e.at n ns (nat_lt-is-within n e.at is.within.0)
    (every-weaker (λ (m : ℕ). nat_lt m e.at ≡ false) (λ (m : ℕ). e.at ≤ m) (λ m within. nat_lt-is-within m e.at within) ns is.within.1) in
    omega (arith, from, above, ap (fold min n) (map-itself ns))
farthest-is High n ns e is =
    let some : 0 < count_by (λ (m : ℕ). nat_eq m e.at) (n ∷ ns) = omega (arith, is.some (omega arith), is.count) in
    let to : e.at ≤ fold max n (map (λ (m : ℕ). m) ns) = greatest-all (λ (m : ℕ). m) n ns e.at (count-member e.at (n ∷ ns) some) in
    let below : fold max n ns ≤ e.at =
    greatest-few e.at n ns (nat_lt-is-within e.at n is.within.0)
    (every-weaker (λ (m : ℕ). nat_lt e.at m ≡ false) (λ (m : ℕ). m ≤ e.at) (λ m within. nat_lt-is-within e.at m within) ns is.within.1) in
    omega (arith, to, below, ap (fold max n) (map-itself ns))

pub extreme-is : (side : Side) (n : ℕ) (ns : List ℕ) (e : Extreme) → IsExtreme side (n ∷ ns) e → e ≡ extreme_of side (n ∷ ns)
extreme-is side n ns e is =
    let at = farthest-is side n ns e is in
    ap₂ (λ (at count : ℕ). record { at = at; count = count }) at (is.count ∙ ap (λ (at : ℕ). count_by (λ (m : ℕ). nat_eq m at) (n ∷ ns)) at)

-- numbers spread from one extreme to the other
pub spread-extremes : (ns : List ℕ) (low high : Extreme) → IsExtreme Low ns low → IsExtreme High ns high → (length ns ≡ 0 → high.at ≤ low.at) → spread ns ≡ high.at - low.at
spread-extremes [] low high least greatest none = let flat : high.at ≤ low.at = none refl in omega arith
spread-extremes (n ∷ ns) low high least greatest none = omega (arith, farthest-is Low n ns low least, farthest-is High n ns high greatest)
