use Rattle.std.proofs.Common.{◌≡◌, refl, ap, sym, ℕ, suc, ℤ, List, [], ◌∷◌, ◌++◌, append_assoc, length, Bool, true, false, Option, Some, None, Ok, Err}
use Rattle.std.specs.Prelude.{if◌then◌else◌, nat_lt, nat_abs}
use Rattle.geom_core.specs.Extent.{Extent}
use Rattle.cif_text.specs.Scales.{scaled_extent, with_extent, scaled_extents}
use Rattle.cif_reader.specs.Limits.{farthest, first_far, sides_of, sides_of_all}
use Rattle.cif_reader.specs.Sides.{ok_unless, unless_far}

-- as many rectangles at a scale as there are
pub scaled-count : (a b : ℕ) (es rs : List Extent) → scaled_extents a b es ≡ Some rs → length rs ≡ length es
scaled-count a b [] rs is = let same : [] ≡ rs = cc in rw (sym same) refl
scaled-count a b (e ∷ es) rs is = by (scaled_extent a b e) (scaled_extents a b es) is (scaled-count a b es)
  where
    by : (first : Option Extent) (others : Option (List Extent)) → with_extent first others ≡ Some rs → ((ss : List Extent) → others ≡ Some ss → length ss ≡ length es)
        → length rs ≡ length (e ∷ es)
    by (Some f) (Some fs) is more = let same : f ∷ fs ≡ rs = cc is in rw (sym same) (ap suc (more fs refl))
    by (Some f) None is more = cc
    by None others is more = cc

-- rectangles before others, at a scale
abbrev pub with_rects : List Extent → Option (List Extent) → Option (List Extent)
with_rects front None = None
with_rects front (Some es) = Some (front ++ es)

pub rects-begin : (o : Option (List Extent)) → with_rects [] o ≡ o
rects-begin None = refl
rects-begin (Some es) = refl

pub rects-on : (a b : ℕ) (front : List Extent) (e f : Extent) (es : List Extent) → Some f ≡ scaled_extent a b e
    → with_rects front (scaled_extents a b (e ∷ es)) ≡ with_rects (front ++ f ∷ []) (scaled_extents a b es)
rects-on a b front e f es is = rw (sym is) (by (scaled_extents a b es))
  where
    by : (o : Option (List Extent)) → with_rects front (with_extent (Some f) o) ≡ with_rects (front ++ f ∷ []) o
    by None = refl
    by (Some fs) = ap Some (sym (append_assoc front (f ∷ []) fs))

pub rects-inexact : (a b : ℕ) (front : List Extent) (e : Extent) (es : List Extent) → None ≡ scaled_extent a b e → with_rects front (scaled_extents a b (e ∷ es)) ≡ None
rects-inexact a b front e es is = rw (sym is) refl

-- the sides of rectangles, one rectangle after another
pub far-first : (e : Extent) (es : List Extent) (z : ℤ) → first_far (sides_of e) ≡ Some z → first_far (sides_of_all (e ∷ es)) ≡ Some z
far-first e es z is = first-of (sides_of e) (sides_of_all es) z is
  where
    first-of : (xs ys : List ℤ) (z : ℤ) → first_far xs ≡ Some z → first_far (xs ++ ys) ≡ Some z
    first-of [] ys z is = cc
    first-of (x ∷ xs) ys z is = by (nat_lt farthest (nat_abs x)) is (first-of xs ys z)
      where
        by : (b : Bool) → (if b then Some x else first_far xs) ≡ Some z → (first_far xs ≡ Some z → first_far (xs ++ ys) ≡ Some z)
            → (if b then Some x else first_far (xs ++ ys)) ≡ Some z
        by true is more = is
        by false is more = more is

pub far-next : (e : Extent) (es : List Extent) → first_far (sides_of e) ≡ None → first_far (sides_of_all (e ∷ es)) ≡ first_far (sides_of_all es)
far-next e es none = none-of (sides_of e) (sides_of_all es) none
  where
    none-of : (xs ys : List ℤ) → first_far xs ≡ None → first_far (xs ++ ys) ≡ first_far ys
    none-of [] ys none = refl
    none-of (x ∷ xs) ys none = by (nat_lt farthest (nat_abs x)) none (none-of xs ys)
      where
        by : (b : Bool) → (if b then Some x else first_far xs) ≡ None → (first_far xs ≡ None → first_far (xs ++ ys) ≡ first_far ys)
            → (if b then Some x else first_far (xs ++ ys)) ≡ first_far ys
        by true none more = cc
        by false none more = more none

pub unless-err : {A : Type 0} (zs : List ℤ) (x : A) (z : ℤ) → Err z ≡ unless_far zs x → first_far zs ≡ Some z
unless-err zs x z is = by (first_far zs) is
  where
    by : (o : Option ℤ) → Err z ≡ ok_unless o x → o ≡ Some z
    by None is = cc
    by (Some y) is = cc

pub unless-ok : {A : Type 0} (zs : List ℤ) (x y : A) → Ok y ≡ unless_far zs x → (first_far zs ≡ None) × (y ≡ x)
unless-ok zs x y is = by (first_far zs) is
  where
    by : (o : Option ℤ) → Ok y ≡ ok_unless o x → (o ≡ None) × (y ≡ x)
    by None is = (refl, cc)
    by (Some z) is = cc
