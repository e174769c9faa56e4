use Rattle.std.proofs.Common.{◌≡◌, ◌↔◌, ℕ, ◌<◌, ℤ, pos, ◌+ℤ◌, ◌-ℤ◌, List, [], ◌∷◌, Bool, true, false, ◌&&◌, ◌||◌, Option, None, Some, refl, ap, sym, ◌∙◌, subst, arith}
use Rattle.std.proofs.lemmas.Int.{ints}
use Rattle.std.specs.Int.{int_min}
use Rattle.std.specs.Ordering.{int_eq}
use Rattle.std.specs.Prelude.{unsigned_abs, int_lt, if◌then◌else◌}
use Rattle.netlist_core.specs.Outline.{are_pairs, between, has_turns, outline_of, AreEnds, upward, downward, IsRing, along_x, along_y, HasCorners, IsOutlineOf}
use Rattle.netlist_core.specs.declared.outline.Outline.{Outline}
use Rattle.netlist_core.proofs.OutlineLaws.{made}
use Rattle.std_laws.proofs.Integers.{int-distance, int-under, int-over, int-equal, int-itself, int-differ}
use Rattle.std.proofs.lemmas.Option.{same_Some}

-- the ends of a side, by which is the lower
ends-of : (x x' : ℤ) → AreEnds (int_min x x') (unsigned_abs (x -ℤ x')) x x'
ends-of x x' = by (int_lt x' x) refl
  where
    by : (b : Bool) → int_lt x' x ≡ b → AreEnds (if b then x' else x) (unsigned_abs (x -ℤ x')) x x'
    by true is = downward (int-under x x' is) refl
    by false is = upward refl (int-over x x' is)

-- four pairs of equal numbers
pub record Equals (p p' q q' r r' s s' : ℤ) : Type 0 where
  pub first : p ≡ p'
  pub second : q ≡ q'
  pub third : r ≡ r'
  pub fourth : s ≡ s'

pairs-of : (p p' q q' r r' s s' : ℤ) → are_pairs p p' q q' r r' s s' ≡ true → Equals p p' q q' r r' s s'
unfolding are_pairs
pairs-of p p' q q' r r' s s' = by (int_eq p p') refl (int_eq q q') refl (int_eq r r') refl (int_eq s s') refl
  where
    by : (a : Bool) → int_eq p p' ≡ a → (b : Bool) → int_eq q q' ≡ b → (c : Bool) → int_eq r r' ≡ c → (d : Bool) → int_eq s s' ≡ d
        → (a && b && c && d) ≡ true → Equals p p' q q' r r' s s'
    by true a true b true c true d h = record { first = int-equal p p' a; second = int-equal q q' b; third = int-equal r r' c; fourth = int-equal s s' d }
    by true a true b true c false d h = cc
    by true a true b false c e d h = cc
    by true a false b f c e d h = cc
    by false a g b f c e d h = cc

self-pairs : (p q r s : ℤ) → are_pairs p p q q r r s s ≡ true
unfolding are_pairs
self-pairs p q r s = rw (int-itself p, int-itself q, int-itself r, int-itself s) refl

-- an outline between corners that are not on one line
pub record IsBetween (x y x' y' : ℤ) (o : Outline) : Type 0 where
  pub beside : int_eq x x' ≡ false
  pub above : int_eq y y' ≡ false
  pub box : (let b : Outline = record { left = int_min x x'; low = int_min y y'; width = unsigned_abs (x -ℤ x'); height = unsigned_abs (y -ℤ y') } in b) ≡ o

between-of : (x y x' y' : ℤ) (o : Outline) → between x y x' y' ≡ Some o → IsBetween x y x' y' o
unfolding between
between-of x y x' y' o = by (int_eq x x') refl (int_eq y y') refl
  where
    by : (a : Bool) → int_eq x x' ≡ a → (b : Bool) → int_eq y y' ≡ b
        → (if a then None else if b then None else Some (record { left = int_min x x'; low = int_min y y'; width = unsigned_abs (x -ℤ x'); height = unsigned_abs (y -ℤ y') })) ≡ Some o
        → IsBetween x y x' y' o
    by true ha b hb h = cc
    by false ha true hb h = cc
    by false ha false hb h = record { beside = ha; above = hb; box = same_Some _ _ h }

-- the outline has the corners that it lies between
has-ring : (x y x' y' : ℤ) (o : Outline) (corners : List ℤ) → IsBetween x y x' y' o
    → ((b : Outline) → AreEnds b.left b.width x x' → AreEnds b.low b.height y y' → IsRing b corners) → HasCorners o corners
has-ring x y x' y' o corners is ring =
    subst (λ (b : Outline). HasCorners b corners) is.box (record {
      wide = int-distance x x' is.beside;
      high = int-distance y y' is.above;
      ring = ring (record { left = int_min x x'; low = int_min y y'; width = unsigned_abs (x -ℤ x'); height = unsigned_abs (y -ℤ y') }) (ends-of x x') (ends-of y y');
    })

eight : (x0 y0 x1 y1 x2 y2 x3 y3 a0 b0 a1 b1 a2 b2 a3 b3 : ℤ) → x0 ≡ a0 → y0 ≡ b0 → x1 ≡ a1 → y1 ≡ b1 → x2 ≡ a2 → y2 ≡ b2 → x3 ≡ a3 → y3 ≡ b3
    → (let l : List ℤ = x0 ∷ y0 ∷ x1 ∷ y1 ∷ x2 ∷ y2 ∷ x3 ∷ y3 ∷ [] in l) ≡ a0 ∷ b0 ∷ a1 ∷ b1 ∷ a2 ∷ b2 ∷ a3 ∷ b3 ∷ []
eight x0 y0 x1 y1 x2 y2 x3 y3 a0 b0 a1 b1 a2 b2 a3 b3 h0 h1 h2 h3 h4 h5 h6 h7 = cc

turned-ring : (x0 y0 x1 y1 x2 y2 x3 y3 : ℤ) (o : Outline) → has_turns x0 y0 x1 y1 x2 y2 x3 y3 ≡ true → IsBetween x0 y0 x2 y2 o
    → HasCorners o (x0 ∷ y0 ∷ x1 ∷ y1 ∷ x2 ∷ y2 ∷ x3 ∷ y3 ∷ [])
unfolding has_turns
turned-ring x0 y0 x1 y1 x2 y2 x3 y3 o turns is =
    by (are_pairs y0 y1 x1 x2 y2 y3 x3 x0) refl (are_pairs x0 x1 y1 y2 x2 x3 y3 y0) refl turns
  where
    by : (a : Bool) → are_pairs y0 y1 x1 x2 y2 y3 x3 x0 ≡ a → (b : Bool) → are_pairs x0 x1 y1 y2 x2 x3 y3 y0 ≡ b → (a || b) ≡ true
        → HasCorners o (x0 ∷ y0 ∷ x1 ∷ y1 ∷ x2 ∷ y2 ∷ x3 ∷ y3 ∷ [])
    by true a b hb h =
        let e : Equals y0 y1 x1 x2 y2 y3 x3 x0 = pairs-of y0 y1 x1 x2 y2 y3 x3 x0 a in
        has-ring x0 y0 x2 y2 o (x0 ∷ y0 ∷ x1 ∷ y1 ∷ x2 ∷ y2 ∷ x3 ∷ y3 ∷ []) is
        (λ box wide high. along_x x0 y0 x2 y2 wide high
        (eight x0 y0 x1 y1 x2 y2 x3 y3 x0 y0 x2 y0 x2 y2 x0 y2 refl refl e.second (sym e.first) refl refl e.fourth (sym e.third)))
    by false a true hb h =
        let e : Equals x0 x1 y1 y2 x2 x3 y3 y0 = pairs-of x0 x1 y1 y2 x2 x3 y3 y0 hb in
        has-ring x0 y0 x2 y2 o (x0 ∷ y0 ∷ x1 ∷ y1 ∷ x2 ∷ y2 ∷ x3 ∷ y3 ∷ []) is
        (λ box wide high. along_y x0 y0 x2 y2 wide high
        (eight x0 y0 x1 y1 x2 y2 x3 y3 x0 y0 x0 y2 x2 y2 x2 y0 refl refl (sym e.first) e.second refl refl (sym e.third) e.fourth))
    by false a false hb h = cc

-- the outline of corners has them
corners-of : (corners : List ℤ) (o : Outline) → outline_of corners ≡ Some o → HasCorners o corners
corners-of (x0 ∷ y0 ∷ x1 ∷ y1 ∷ x2 ∷ y2 ∷ x3 ∷ y3 ∷ []) o = by (has_turns x0 y0 x1 y1 x2 y2 x3 y3) refl
  where
    by : (b : Bool) → has_turns x0 y0 x1 y1 x2 y2 x3 y3 ≡ b → (if b then between x0 y0 x2 y2 else None) ≡ Some o
        → HasCorners o (x0 ∷ y0 ∷ x1 ∷ y1 ∷ x2 ∷ y2 ∷ x3 ∷ y3 ∷ [])
    by true turns h = turned-ring x0 y0 x1 y1 x2 y2 x3 y3 o turns (between-of x0 y0 x2 y2 o h)
    by false turns h = cc
corners-of _ o = λ h. cc

-- what the ends of a side that is above 0 say: they differ, and which is the lower and how far they are apart
pub record IsSide (from : ℤ) (size : ℕ) (a b : ℤ) : Type 0 where
  pub differ : int_eq a b ≡ false
  pub least : from ≡ int_min a b
  pub length : size ≡ unsigned_abs (a -ℤ b)

side-up : (from : ℤ) (size : ℕ) → 0 < size → IsSide from size from (from +ℤ pos size)
side-up from size some = record {
  differ = int-differ from (from +ℤ pos size) (λ (e : from ≡ from +ℤ pos size). omega (arith, ints));
  least = least;
  length = omega (arith, ints);
}
  where
    least : from ≡ int_min from (from +ℤ pos size)
    least = grind (arith, ints)

side-down : (from : ℤ) (size : ℕ) → 0 < size → IsSide from size (from +ℤ pos size) from
side-down from size some = record {
  differ = int-differ (from +ℤ pos size) from (λ (e : from +ℤ pos size ≡ from). omega (arith, ints));
  least = least;
  length = omega (arith, ints);
}
  where
    least : from ≡ int_min (from +ℤ pos size) from
    least = grind (arith, ints)

side-of : (from : ℤ) (size : ℕ) (a b : ℤ) → 0 < size → AreEnds from size a b → IsSide from size a b
side-of from size a b some (upward x y) =
    subst (λ (u : ℤ). IsSide from size u b) (sym x) (subst (λ (v : ℤ). IsSide from size from v) (sym y) (side-up from size some))
side-of from size a b some (downward x y) =
    subst (λ (u : ℤ). IsSide from size u b) (sym x) (subst (λ (v : ℤ). IsSide from size (from +ℤ pos size) v) (sym y) (side-down from size some))

between-ends : (o : Outline) (x y x' y' : ℤ) → 0 < o.width → 0 < o.height → AreEnds o.left o.width x x' → AreEnds o.low o.height y y'
    → between x y x' y' ≡ Some o
between-ends o x y x' y' wide high sides ends =
    let h : IsSide o.left o.width x x' = side-of o.left o.width x x' wide sides in
    let v : IsSide o.low o.height y y' = side-of o.low o.height y y' high ends in
    sym (made x y x' y' o.left o.low o.width o.height h.differ v.differ h.least v.least h.length v.length)

turns-x : (x y x' y' : ℤ) → has_turns x y x' y x' y' x y' ≡ true
unfolding has_turns
turns-x x y x' y' = ap (λ (b : Bool). b || are_pairs x x' y y' x' x y' y) (self-pairs y x' y' x)

turns-y : (x y x' y' : ℤ) → has_turns x y x y' x' y' x' y ≡ true
unfolding has_turns
turns-y x y x' y' = by (are_pairs y y' x x' y' y x' x) (self-pairs x y' x' y)
  where
    by : (a : Bool) {b : Bool} → b ≡ true → (a || b) ≡ true
    by true h = refl
    by false h = h

-- corners that an outline has have that outline
outline-of : (corners : List ℤ) (o : Outline) → HasCorners o corners → outline_of corners ≡ Some o
outline-of corners o h = by h.ring
  where
    by : IsRing o corners → outline_of corners ≡ Some o
    by (along_x x y x' y' sides ends are) =
        ap outline_of are ∙ ap (λ (b : Bool). if b then between x y x' y' else None) (turns-x x y x' y') ∙ between-ends o x y x' y' h.wide h.high sides ends
    by (along_y x y x' y' sides ends are) =
        ap outline_of are ∙ ap (λ (b : Bool). if b then between x y x' y' else None) (turns-y x y x' y') ∙ between-ends o x y x' y' h.wide h.high sides ends

-- corners have an outline just where it has them
outline-corners : (corners : List ℤ) (o : Outline) → (outline_of corners ≡ Some o) ↔ HasCorners o corners
outline-corners corners o = (corners-of corners o, outline-of corners o)

-- and an answer that is the outline of corners says so
pub answer : (corners : List ℤ) (o : Option Outline) → o ≡ outline_of corners → IsOutlineOf corners o
answer corners o is = subst (λ (p : Option Outline). IsOutlineOf corners p) (sym is) (outline-corners corners)
