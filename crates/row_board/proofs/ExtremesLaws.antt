use Rattle.std.proofs.Common.{◌≡◌, ◌⊎◌, inl, inr, ◌<◌, ◌≤◌, ℕ, zero, suc, ◌+◌, ◌-◌, List, [], ◌∷◌, ◌++◌, length, get_or, set, take, drop, Some, refl, ap, sym, ◌∙◌, arith}
use Rattle.std.proofs.lemmas.List.{drop-append-le, drop-set-add, drop-set-lt, drop_at, get_or-drop, get_or-take, length-drop, length-take-le, take-append-le, take-set-le, take_all}
use Rattle.std.proofs.lemmas.Option.{slice_get-get_or}
use Rattle.std.specs.List.{slice_get}
use Rattle.row_board.specs.Cost.{spread}
use Rattle.row_board.specs.Extremes.{part_of, distance, AreExtremes}
use Rattle.row_board.specs.declared.extremes.Extremes.{Extremes}
use Rattle.row_board.proofs.ExtremeLaws.{spread-extremes}

-- a number that is written elsewhere leaves a list as it was
pub extremes-other : (numbers : List ℕ) (p : Extremes) (at n : ℕ) → (at < p.start) ⊎ (p.start + p.count ≤ at) → part_of (set numbers at n) p ≡ part_of numbers p
extremes-other numbers p at n (inl before) = ap (take p.count) (drop-set-lt p.start numbers at n before)
extremes-other numbers p at n (inr behind) =
    let there : at ≡ p.start + (at - p.start) = omega (arith, behind) in
    ap (λ (k : ℕ). take p.count (drop p.start (set numbers k n))) there ∙ ap (take p.count) (drop-set-add p.start numbers (at - p.start) n)
    ∙ take-set-le p.count (drop p.start numbers) (at - p.start) n (omega (arith, behind))

-- one that is written in it is written at its place
take-set-in : (k : ℕ) (xs : List ℕ) (i n : ℕ) → i < k → take k (set xs i n) ≡ set (take k xs) i n
take-set-in zero xs i n within = absurd (omega (arith, within))
take-set-in (suc k) [] i n within = refl
take-set-in (suc k) (x ∷ xs) zero n within = refl
take-set-in (suc k) (x ∷ xs) (suc i) n within = ap (λ (l : List ℕ). x ∷ l) (take-set-in k xs i n (omega (arith, within)))

pub extremes-here : (numbers : List ℕ) (p : Extremes) (place n : ℕ) → place < p.count → part_of (set numbers (p.start + place) n) p ≡ set (part_of numbers p) place n
extremes-here numbers p place n within = ap (take p.count) (drop-set-add p.start numbers place n) ∙ take-set-in p.count (drop p.start numbers) place n within

-- how many numbers a list has
pub extremes-length : (numbers : List ℕ) (p : Extremes) → p.start + p.count ≤ length numbers → length (part_of numbers p) ≡ p.count
extremes-length numbers p within = length-take-le p.count (drop p.start numbers) (omega (arith, within, length-drop p.start numbers))

-- as the slice of a list has it
pub slice-here : (numbers : List ℕ) (p : Extremes) (end place n : ℕ) → end ≡ p.start + p.count → place < p.count
    → take (end - p.start) (drop p.start (set numbers (p.start + place) n)) ≡ set (part_of numbers p) place n
slice-here numbers p end place n is within =
    let long : end - p.start ≡ p.count = omega (arith, is) in
    ap (λ (k : ℕ). take k (drop p.start (set numbers (p.start + place) n))) long ∙ extremes-here numbers p place n within

-- the number at a place of it
pub extremes-get : (numbers : List ℕ) (p : Extremes) (place d : ℕ) → p.start + p.count ≤ length numbers → place < p.count
    → slice_get (part_of numbers p) place ≡ Some (get_or numbers (p.start + place) d)
extremes-get numbers p place d all within =
    slice_get-get_or (part_of numbers p) place d (omega (arith, extremes-length numbers p all, within))
    ∙ ap (λ (n : ℕ). Some n) (get_or-take p.count (drop p.start numbers) place d within ∙ get_or-drop p.start numbers place d)

-- more numbers behind all leave it, too, and are themselves a list
pub extremes-before : (numbers more : List ℕ) (p : Extremes) → p.start + p.count ≤ length numbers → part_of (numbers ++ more) p ≡ part_of numbers p
extremes-before numbers more p within =
    ap (take p.count) (drop-append-le p.start numbers more (omega (arith, within)))
    ∙ take-append-le p.count (drop p.start numbers) more (omega (arith, within, length-drop p.start numbers))

pub extremes-last : (numbers more : List ℕ) (p : Extremes) → p.start ≡ length numbers → p.count ≡ length more → part_of (numbers ++ more) p ≡ more
extremes-last numbers more p start count = ap (take p.count) (drop_at numbers more p.start (sym start)) ∙ take_all p.count more (omega (arith, count))

-- a list spreads from one of its extremes to the other
pub extremes-spread : (numbers : List ℕ) (p : Extremes) → AreExtremes numbers p → spread numbers ≡ distance p
extremes-spread numbers p is = spread-extremes numbers _ _ is.low is.high is.none
