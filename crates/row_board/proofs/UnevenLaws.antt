use Rattle.std.proofs.Common.{◌≡◌, ◌≢◌, ◌≤◌, ℕ, zero, suc, ◌+◌, ◌-◌, ◌*◌, List, [], ◌∷◌, length, map, sum, Bool, true, false, cond, Option, None, Some, refl, ap, ap₂, sym, ◌∙◌, subst, arith}
use Rattle.std.proofs.lemmas.List.Sums.{sum_by-cons}
use Rattle.std.proofs.lemmas.Option.{same_Some, slice_get_within}
use Rattle.std.specs.List.{range_with_len, slice_get}
use Rattle.std.specs.Option.{option_map}
use Rattle.std.specs.Prelude.{nat_eq}
use Rattle.design_model.specs.Netlist.{Netlist}
use Rattle.row_board.specs.Cost.{difference}
use Rattle.row_board.specs.Moving.{ArePut, IsAt}
use Rattle.row_board.specs.Standings.{put_in}
use Rattle.row_model.specs.Widths.{columns_of, row_width}
use Rattle.row_model.specs.declared.rows.Seat.{Seat}
use Rattle.row_board.proofs.BoardLaws.{width-whole}
use Rattle.row_board.proofs.NearLaws.{second, was}
use Rattle.row_board.proofs.ShareLaws.{sum-at}
use Rattle.std_laws.proofs.Sums.{sum-both, sum-cons, sum-once}
use Rattle.std_laws.proofs.Tests.{nat_eq-equal, nat_eq-flips}

-- a row is about as wide as another, if there is one
abbrev AreAlike : Netlist → ℕ → Option (List Seat) → Option (List Seat) → Type 0
AreAlike d e None new = 0 ≤ e
AreAlike d e (Some seats) None = suc e ≤ e
AreAlike d e (Some seats) (Some new) = difference (row_width d seats) (row_width d new) ≤ e

-- one for each of two rows with this number
abbrev marks : ℕ → ℕ → ℕ → ℕ
marks ra rb r = cond (nat_eq ra r) 1 0 + cond (nat_eq rb r) 1 0

marked : ℕ → ℕ → List ℕ → ℕ
marked ra rb rs = sum (map (λ (r : ℕ). cond (nat_eq ra r) 1 0) rs) + sum (map (λ (r : ℕ). cond (nat_eq rb r) 1 0) rs)

marked-cons : (ra rb r : ℕ) (rs : List ℕ) → marked ra rb (r ∷ rs) ≡ marks ra rb r + marked ra rb rs
unfolding marked
marked-cons ra rb r rs =
    omega (arith, sum_by-cons (λ (n : ℕ). n) (cond (nat_eq ra r) 1 0) (map (λ (r : ℕ). cond (nat_eq ra r) 1 0) rs), sum_by-cons (λ (n : ℕ). n) (cond (nat_eq rb r) 1 0) (map (λ (r : ℕ). cond (nat_eq rb r) 1 0) rs))

rows-near : (d : Netlist) (t u ra rb first : ℕ) (rows new : List (List Seat)) → ((r : ℕ) → AreAlike d (u * marks ra rb (first + r)) (slice_get rows r) (slice_get new r))
    → sum (map (λ (seats : List Seat). difference (row_width d seats) t) rows)
    ≤ sum (map (λ (seats : List Seat). difference (row_width d seats) t) new) + u * marked ra rb (range_with_len first (length rows))
rows-near d t u ra rb first [] new near = omega arith
rows-near d t u ra rb first (x ∷ xs) [] near = let no = near 0 in absurd (omega (arith, no))
rows-near d t u ra rb first (x ∷ xs) (y ∷ ys) near =
    let one : difference (row_width d x) (row_width d y) ≤ u * marks ra rb first =
    subst (λ (n : ℕ). difference (row_width d x) (row_width d y) ≤ u * marks ra rb n) (none first) (near 0) in
    let rest = rows-near d t u ra rb (first + 1) xs ys (λ r. subst (λ (n : ℕ). AreAlike d (u * marks ra rb n) (slice_get xs r) (slice_get ys r)) (next first r) (near (suc r))) in
    let all = ap (λ (n : ℕ). u * n) (marked-cons ra rb first (range_with_len (first + 1) (length xs))) in
    omega (
      arith,
      one,
      rest,
      all,
      sum_by-cons (λ (n : ℕ). n) (difference (row_width d x) t) (map (λ (seats : List Seat). difference (row_width d seats) t) xs),
      sum_by-cons (λ (n : ℕ). n) (difference (row_width d y) t) (map (λ (seats : List Seat). difference (row_width d seats) t) ys),
    )
  where
    none : (n : ℕ) → n + 0 ≡ n
    none n = omega arith

    next : (n r : ℕ) → n + suc r ≡ (n + 1) + r
    next n r = omega arith

-- the width of a row after two seats are put
put-near : (ca cb w w1 w2 : ℕ) (x y : Bool) → w1 ≡ cond x (w + cb - ca) w → w2 ≡ cond y (w1 + ca - cb) w1 → difference w w2 ≤ difference ca cb * (cond x 1 0 + cond y 1 0)
put-near ca cb w w1 w2 true true one two = omega (arith, one, two)
put-near ca cb w w1 w2 true false one two = omega (arith, one, two)
put-near ca cb w w1 w2 false true one two = omega (arith, one, two)
put-near ca cb w w1 w2 false false one two = omega (arith, one, two)

-- a swap brings rows nearer to their target by no more than twice the difference of the two widths
pub uneven-near : (d : Netlist) (rows new : List (List Seat)) (ra pa rb pb t : ℕ) (a b : Seat) → IsAt rows ra pa a → IsAt rows rb pb b → a.instance ≢ b.instance → ArePut ra pa b rb pb a rows new
    → sum (map (λ (seats : List Seat). difference (row_width d seats) t) rows)
    ≤ sum (map (λ (seats : List Seat). difference (row_width d seats) t) new) + 2 * difference (columns_of d a.instance) (columns_of d b.instance)
unfolding marked
uneven-near d rows new ra pa rb pb t a b at_a at_b apart puts =
    let u = difference (columns_of d a.instance) (columns_of d b.instance) in
    let all = rows-near d t u ra rb 0 rows new (λ r. alike r (slice_get rows r) refl) in
    let few = at-most u (sum (map (λ (r : ℕ). cond (nat_eq ra r) 1 0) (range_with_len 0 (length rows)))) (sum (map (λ (r : ℕ). cond (nat_eq rb r) 1 0) (range_with_len 0 (length rows))))
    (sum-once 1 ra 0 (length rows)) (sum-once 1 rb 0 (length rows)) in
    omega (arith, all, few)
  where
    at-most : (u m n : ℕ) → m ≤ 1 → n ≤ 1 → u * (m + n) ≤ 2 * u
    at-most u zero zero one two = omega arith
    at-most u zero (suc zero) one two = omega arith
    at-most u (suc zero) zero one two = omega arith
    at-most u (suc zero) (suc zero) one two = omega arith
    at-most u (suc (suc m)) n one two = absurd (omega (arith, one))
    at-most u zero (suc (suc n)) one two = absurd (omega (arith, two))
    at-most u (suc zero) (suc (suc n)) one two = absurd (omega (arith, two))

    alike : (r : ℕ) (o : Option (List Seat)) → slice_get rows r ≡ o → AreAlike d (difference (columns_of d a.instance) (columns_of d b.instance) * marks ra rb (0 + r)) o (slice_get new r)
    alike r None at = omega arith
    alike r (Some seats) at =
        subst (λ (o : Option (List Seat)). AreAlike d (difference (columns_of d a.instance) (columns_of d b.instance) * marks ra rb (0 + r)) (Some seats) o)
        (sym (puts.each r ∙ ap (option_map (λ (l : List Seat). put_in rb pb a r (put_in ra pa b r l))) at))
        (subst (λ (n : ℕ). difference (row_width d seats) (row_width d (put_in rb pb a r (put_in ra pa b r seats))) ≤ difference (columns_of d a.instance) (columns_of d b.instance) * n)
        (flip r)
        (put-near (columns_of d a.instance) (columns_of d b.instance) (row_width d seats) (row_width d (put_in ra pa b r seats)) (row_width d (put_in rb pb a r (put_in ra pa b r seats))) (nat_eq r ra) (nat_eq r rb)
        (width-whole d ra pa b a r seats (was rows r seats at a ra pa at_a))
        (width-whole d rb pb a b r (put_in ra pa b r seats) (second rows ra pa rb pb a b at_a at_b apart r seats at))))
      where
        flip : (r : ℕ) → cond (nat_eq r ra) 1 0 + cond (nat_eq r rb) 1 0 ≡ marks ra rb (0 + r)
        flip r =
            let same : 0 + r ≡ r = omega arith in
            ap₂ (λ (x y : Bool). cond x 1 0 + cond y 1 0) (nat_eq-flips r ra) (nat_eq-flips r rb) ∙ ap (λ (n : ℕ). marks ra rb n) (sym same)

-- a row misses its target by so much more than another, and by so much less, if there is one
abbrev IsTold : Netlist → ℕ → ℕ → ℕ → Option (List Seat) → Option (List Seat) → Type 0
IsTold d t gain loss None new = 0 ≤ loss
IsTold d t gain loss (Some seats) None = suc loss ≤ loss
IsTold d t gain loss (Some seats) (Some new) = difference (row_width d seats) t + gain ≤ difference (row_width d new) t + loss

rows-told : (d : Netlist) (t : ℕ) (gain loss : ℕ → ℕ) (first : ℕ) (rows new : List (List Seat)) → ((r : ℕ) → IsTold d t (gain (first + r)) (loss (first + r)) (slice_get rows r) (slice_get new r))
    → sum (map (λ (seats : List Seat). difference (row_width d seats) t) rows) + sum (map gain (range_with_len first (length rows)))
    ≤ sum (map (λ (seats : List Seat). difference (row_width d seats) t) new) + sum (map loss (range_with_len first (length rows)))
rows-told d t gain loss first [] new near = omega arith
rows-told d t gain loss first (x ∷ xs) [] near = let no = near 0 in absurd (omega (arith, no))
rows-told d t gain loss first (x ∷ xs) (y ∷ ys) near =
    let one : difference (row_width d x) t + gain first ≤ difference (row_width d y) t + loss first =
    subst (λ (n : ℕ). difference (row_width d x) t + gain n ≤ difference (row_width d y) t + loss n) (none first) (near 0) in
    let rest = rows-told d t gain loss (first + 1) xs ys (λ r. subst (λ (n : ℕ). IsTold d t (gain n) (loss n) (slice_get xs r) (slice_get ys r)) (next first r) (near (suc r))) in
    omega (
      arith,
      one,
      rest,
      sum-cons (gain first) (map gain (range_with_len (first + 1) (length xs))),
      sum-cons (loss first) (map loss (range_with_len (first + 1) (length xs))),
      sum-cons (difference (row_width d x) t) (map (λ (seats : List Seat). difference (row_width d seats) t) xs),
      sum-cons (difference (row_width d y) t) (map (λ (seats : List Seat). difference (row_width d seats) t) ys),
    )
  where
    none : (n : ℕ) → n + 0 ≡ n
    none n = omega arith

    next : (n r : ℕ) → n + suc r ≡ (n + 1) + r
    next n r = omega arith

-- a number for each of two rows
abbrev either : ℕ → ℕ → ℕ → ℕ → ℕ → ℕ
either ra rb x y r = cond (nat_eq ra r) x 0 + cond (nat_eq rb r) y 0

-- a swap between two rows changes how far these miss the target, and no others
pub uneven-apart : (d : Netlist) (rows new : List (List Seat)) (ra pa rb pb t : ℕ) (a b : Seat) (at_a : IsAt rows ra pa a) (at_b : IsAt rows rb pb b) → a.instance ≢ b.instance → ra ≢ rb
    → ArePut ra pa b rb pb a rows new
    → sum (map (λ (seats : List Seat). difference (row_width d seats) t) rows)
    + (difference (row_width d at_a.seats + columns_of d b.instance - columns_of d a.instance) t + difference (row_width d at_b.seats + columns_of d a.instance - columns_of d b.instance) t)
    ≤ sum (map (λ (seats : List Seat). difference (row_width d seats) t) new) + (difference (row_width d at_a.seats) t + difference (row_width d at_b.seats) t)
uneven-apart d rows new ra pa rb pb t a b at_a at_b apart differ puts =
    let ca = columns_of d a.instance in
    let cb = columns_of d b.instance in
    let ga = difference (row_width d at_a.seats + cb - ca) t in
    let gb = difference (row_width d at_b.seats + ca - cb) t in
    let la = difference (row_width d at_a.seats) t in
    let lb = difference (row_width d at_b.seats) t in
    let all = rows-told d t (either ra rb ga gb) (either ra rb la lb) 0 rows new (λ r. told r (slice_get rows r) refl) in
    let within = slice_get_within rows ra at_a.seats at_a.in_row in
    let within' = slice_get_within rows rb at_b.seats at_b.in_row in
    let more = sum-both (λ (r : ℕ). cond (nat_eq ra r) ga 0) (λ (r : ℕ). cond (nat_eq rb r) gb 0) (range_with_len 0 (length rows)) in
    let less = sum-both (λ (r : ℕ). cond (nat_eq ra r) la 0) (λ (r : ℕ). cond (nat_eq rb r) lb 0) (range_with_len 0 (length rows)) in
    omega (
      arith,
      all,
      more,
      less,
      sum-at ga ra 0 (length rows) (omega arith) (omega (arith, within)),
      sum-at gb rb 0 (length rows) (omega arith) (omega (arith, within')),
      sum-once la ra 0 (length rows),
      sum-once lb rb 0 (length rows),
    )
  where
    told : (r : ℕ) (o : Option (List Seat)) → slice_get rows r ≡ o
        → IsTold d t
        (either ra rb (difference (row_width d at_a.seats + columns_of d b.instance - columns_of d a.instance) t)
        (difference (row_width d at_b.seats + columns_of d a.instance - columns_of d b.instance) t) (0 + r))
        (either ra rb (difference (row_width d at_a.seats) t) (difference (row_width d at_b.seats) t) (0 + r)) o (slice_get new r)
    told r None at = omega arith
    told r (Some seats) at =
        subst (λ (o : Option (List Seat)). IsTold d t (either ra rb ga gb (0 + r)) (either ra rb la lb (0 + r)) (Some seats) o)
        (sym (puts.each r ∙ ap (option_map (λ (l : List Seat). put_in rb pb a r (put_in ra pa b r l))) at))
        (subst (λ (n : ℕ). difference w t + either ra rb ga gb n ≤ difference w2 t + either ra rb la lb n) (sym same)
        (subst (λ (x : Bool). difference w t + (cond x ga 0 + cond (nat_eq rb r) gb 0) ≤ difference w2 t + (cond x la 0 + cond (nat_eq rb r) lb 0)) (nat_eq-flips r ra)
        (subst (λ (y : Bool). difference w t + (cond (nat_eq r ra) ga 0 + cond y gb 0) ≤ difference w2 t + (cond (nat_eq r ra) la 0 + cond y lb 0)) (nat_eq-flips r rb)
        (by (nat_eq r ra) refl (nat_eq r rb) refl))))
      where
        ca : ℕ
        ca = columns_of d a.instance

        cb : ℕ
        cb = columns_of d b.instance

        ga : ℕ
        ga = difference (row_width d at_a.seats + cb - ca) t

        gb : ℕ
        gb = difference (row_width d at_b.seats + ca - cb) t

        la : ℕ
        la = difference (row_width d at_a.seats) t

        lb : ℕ
        lb = difference (row_width d at_b.seats) t

        w : ℕ
        w = row_width d seats

        w1 : ℕ
        w1 = row_width d (put_in ra pa b r seats)

        w2 : ℕ
        w2 = row_width d (put_in rb pb a r (put_in ra pa b r seats))

        same : 0 + r ≡ r
        same = omega arith

        first : w1 ≡ cond (nat_eq r ra) (w + cb - ca) w
        first = width-whole d ra pa b a r seats (was rows r seats at a ra pa at_a)

        last : w2 ≡ cond (nat_eq r rb) (w1 + ca - cb) w1
        last = width-whole d rb pb a b r (put_in ra pa b r seats) (second rows ra pa rb pb a b at_a at_b apart r seats at)

        here : (row place : ℕ) (s : Seat) (is : IsAt rows row place s) → r ≡ row → w ≡ row_width d is.seats
        here row place s is at_row = ap (row_width d) (same_Some seats is.seats (sym at ∙ ap (slice_get rows) at_row ∙ is.in_row))

        by : (x : Bool) → nat_eq r ra ≡ x → (y : Bool) → nat_eq r rb ≡ y → difference w t + (cond x ga 0 + cond y gb 0) ≤ difference w2 t + (cond x la 0 + cond y lb 0)
        by true one true two = absurd (differ (sym (nat_eq-equal r ra one) ∙ nat_eq-equal r rb two))
        by true one false two =
            let wide = here ra pa a at_a (nat_eq-equal r ra one) in
            let new : w2 ≡ row_width d at_a.seats + cb - ca =
            last ∙ ap (λ (y : Bool). cond y (w1 + ca - cb) w1) two ∙ first ∙ ap (λ (x : Bool). cond x (w + cb - ca) w) one ∙ ap (λ (n : ℕ). n + cb - ca) wide in
            omega (arith, ap (λ (n : ℕ). difference n t) wide, ap (λ (n : ℕ). difference n t) new)
        by false one true two =
            let wide = here rb pb b at_b (nat_eq-equal r rb two) in
            let kept : w1 ≡ row_width d at_b.seats = first ∙ ap (λ (x : Bool). cond x (w + cb - ca) w) one ∙ wide in
            let new : w2 ≡ row_width d at_b.seats + ca - cb = last ∙ ap (λ (y : Bool). cond y (w1 + ca - cb) w1) two ∙ ap (λ (n : ℕ). n + ca - cb) kept in
            omega (arith, ap (λ (n : ℕ). difference n t) wide, ap (λ (n : ℕ). difference n t) new)
        by false one false two =
            let new : w2 ≡ w = last ∙ ap (λ (y : Bool). cond y (w1 + ca - cb) w1) two ∙ first ∙ ap (λ (x : Bool). cond x (w + cb - ca) w) one in
            omega (arith, ap (λ (n : ℕ). difference n t) new)
