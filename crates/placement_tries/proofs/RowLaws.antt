use Rattle.std.proofs.Common.{◌≡◌, ◌≤◌, ◌<◌, ℕ, zero, suc, ◌+◌, ◌*◌, ◌/◌, ◌%◌, ◌++◌, List, [], ◌∷◌, length, map, fold, max, min, Bool, true, false, cond, if◌then◌else◌, get_or, subst, sym, arith, slice_index}
use Rattle.std.proofs.lemmas.List.{get_or_read, length-append}
use Rattle.std.specs.List.{AllByRecursion, list_any}
use Rattle.placement_tries.specs.RowCounts.{part_of, row_list, rows_at, with_new}
use Rattle.std.specs.Prelude.{◌==◌}

-- a number of rows is 1 to 512
pub record IsRows (n : ℕ) : Type 0 where
  pub some : 1 ≤ n
  pub few : n ≤ 512

part-within : (square eighths : ℕ) → IsRows (part_of square eighths)
part-within square eighths = record { some = omega arith; few = omega arith }

parts-within : (square : ℕ) (eighths : List ℕ) → AllByRecursion IsRows (map (part_of square) eighths)
parts-within square [] = tt
parts-within square (e ∷ eighths) = (part-within square e, parts-within square eighths)

behind-within : (list : List ℕ) (n : ℕ) → AllByRecursion IsRows list → IsRows n → AllByRecursion IsRows (list ++ n ∷ [])
behind-within [] n all here = (here, tt)
behind-within (m ∷ list) n all here = (all.0, behind-within list n all.1 here)

new-within : (list : List ℕ) (n : ℕ) → AllByRecursion IsRows list → IsRows n → AllByRecursion IsRows (with_new list n)
new-within list n all here = by (list_any (λ m. m == n) list)
  where
    by : (stands : Bool) → AllByRecursion IsRows (if stands then list else list ++ n ∷ [])
    by true = all
    by false = behind-within list n all here

new-longer : (list : List ℕ) (n : ℕ) → length list ≤ length (with_new list n)
new-longer list n = by (list_any (λ m. m == n) list)
  where
    by : (stands : Bool) → length list ≤ length (if stands then list else list ++ n ∷ [])
    by true = omega arith
    by false = omega (arith, length-append list (n ∷ []))

all-within : (list ns : List ℕ) → AllByRecursion IsRows list → AllByRecursion IsRows ns → AllByRecursion IsRows (fold with_new list ns)
all-within list [] all more = all
all-within list (n ∷ ns) all more = all-within (with_new list n) ns (new-within list n all more.0) more.1

all-longer : (list ns : List ℕ) → length list ≤ length (fold with_new list ns)
all-longer list [] = omega arith
all-longer list (n ∷ ns) = omega (arith, all-longer (with_new list n) ns, new-longer list n)

-- there is a number of rows to try, and each is 1 to 512
pub list-some : (square : ℕ) → 0 < length (row_list square)
unfolding row_list
list-some square = omega (arith, all-longer (square ∷ []) (map (part_of square) (7 ∷ 6 ∷ 9 ∷ 5 ∷ 4 ∷ 3 ∷ [])))

pub list-within : (square : ℕ) → 1 ≤ square → square ≤ 512 → AllByRecursion IsRows (row_list square)
unfolding row_list
list-within square some few =
    all-within (square ∷ []) (map (part_of square) (7 ∷ 6 ∷ 9 ∷ 5 ∷ 4 ∷ 3 ∷ [])) (record { some = some; few = few }, tt) (parts-within square (7 ∷ 6 ∷ 9 ∷ 5 ∷ 4 ∷ 3 ∷ []))

at-within : (list : List ℕ) (k : ℕ) → AllByRecursion IsRows list → k < length list → IsRows (slice_index list k)
at-within [] k all within = absurd (omega arith)
at-within (n ∷ list) zero all within = all.0
at-within (n ∷ list) (suc k) all within = at-within list k all.1 (omega arith)

-- and so is one that is read of them
pub read-within : (list : List ℕ) (square number n r : ℕ) → 1 ≤ square → square ≤ 512 → list ≡ row_list square → n ≡ length list → r ≡ get_or list (number % n) r → IsRows r
read-within list square number n r some few is long read =
    let here : 0 < length list = subst (λ (l : List ℕ). 0 < length l) (sym is) (list-some square) in
    let within : number % n < length list = omega (arith, here, long) in
    let at : r ≡ get_or list (number % n) 0 = get_or_read list (number % n) r within read 0 in
    subst IsRows (sym at) (at-within list (number % n) (subst (AllByRecursion IsRows) (sym is) (list-within square some few)) within)

pub ruleset row_laws = (list-some)
