use Rattle.std.proofs.Common.{◌≡◌, refl, ◌∙◌, subst, ℕ, zero, suc, ◌≤◌, ℤ, nat_abs, List, [], ◌∷◌, ◌++◌, Bool, true, false, Option, Some, None, append-nil, arith}
use Rattle.std.proofs.lemmas.Int.{ints, clamps}
use Rattle.std.proofs.lemmas.Bool.Decides.{nat_tests}
use Rattle.std.specs.List.{AllByRecursion}
use Rattle.std.specs.Option.{ForSome}
use Rattle.std.specs.Prelude.{nat_lt, option_map}
use Rattle.geom_core.specs.declared.layout.Shape.{Shape}
use Rattle.geom_core.specs.Extent.{Extent}
use Rattle.geom_core.specs.Reach.{IsExtentInReach}
use Rattle.geom_core.specs.Turning.{Turning, flipped, quarter_turned, quarters_turned, shifted, moved}
use Rattle.cif_text.specs.Symbols.{moved_shapes}
use Rattle.cif_reader.specs.Limits.{farthest, first_far, coordinates_of, sides_of}
use Rattle.cif_reader.specs.Sides.{AreSidesNear}
use Rattle.cif_reader.specs.Bounds.{around_both, joined}
use Rattle.cif_reader.specs.Table.{Spans, AreAround, ReachesWithin}
use Rattle.cif_reader.specs.Within.{IsNotFar}
use Rattle.std_laws.proofs.Every.{every-append}

-- a rectangle around others is so under a turn
spans-flipped : (flip : Bool) (e s : Extent) → Spans e s → Spans (flipped flip e) (flipped flip s)
spans-flipped false e s h = h
spans-flipped true e s h = record {
  x0 = omega (arith, ints, h.x1_below);
  x0_below = omega (arith, ints, h.x1);
  x1 = omega (arith, ints, h.x0_below);
  x1_below = omega (arith, ints, h.x0);
  y0 = h.y0;
  y0_below = h.y0_below;
  y1 = h.y1;
  y1_below = h.y1_below;
}

spans-quarter : (e s : Extent) → Spans e s → Spans (quarter_turned e) (quarter_turned s)
spans-quarter e s h = record {
  x0 = omega (arith, ints, h.y1_below);
  x0_below = omega (arith, ints, h.y1);
  x1 = omega (arith, ints, h.y0_below);
  x1_below = omega (arith, ints, h.y0);
  y0 = h.x0;
  y0_below = h.x0_below;
  y1 = h.x1;
  y1_below = h.x1_below;
}

spans-quarters : (k : ℕ) (e s : Extent) → Spans e s → Spans (quarters_turned k e) (quarters_turned k s)
spans-quarters zero e s h = h
spans-quarters (suc k) e s h = spans-quarter (quarters_turned k e) (quarters_turned k s) (spans-quarters k e s h)

spans-shifted : (dx dy : ℤ) (e s : Extent) → Spans e s → Spans (shifted dx dy e) (shifted dx dy s)
spans-shifted dx dy e s h = record {
  x0 = omega (arith, ints, h.x0);
  x0_below = omega (arith, ints, h.x0_below);
  x1 = omega (arith, ints, h.x1);
  x1_below = omega (arith, ints, h.x1_below);
  y0 = omega (arith, ints, h.y0);
  y0_below = omega (arith, ints, h.y0_below);
  y1 = omega (arith, ints, h.y1);
  y1_below = omega (arith, ints, h.y1_below);
}

spans-moved : (t : Turning) (e s : Extent) → Spans e s → Spans (moved t e) (moved t s)
spans-moved t e s h =
    spans-shifted t.dx t.dy (quarters_turned t.quarters (flipped t.flip e)) (quarters_turned t.quarters (flipped t.flip s))
    (spans-quarters t.quarters (flipped t.flip e) (flipped t.flip s) (spans-flipped t.flip e s h))

spans-all : (t : Turning) (e : Extent) (shapes : List Shape) → AllByRecursion (λ s. Spans e s.rect) shapes
    → AllByRecursion (λ s. Spans (moved t e) s.rect) (moved_shapes t shapes)
spans-all t e [] h = tt
spans-all t e (s ∷ ss) h = (spans-moved t e s.rect h.0, spans-all t e ss h.1)

pub around-moved : (t : Turning) (bounds : Option Extent) (shapes : List Shape) → AreAround bounds shapes
    → AreAround (option_map (moved t) bounds) (moved_shapes t shapes)
around-moved t None shapes h = rw h refl
around-moved t (Some e) shapes h = spans-all t e shapes h

-- how far a rectangle reaches under a turn
reach-flipped : (times : ℕ) (flip : Bool) (e : Extent) → ReachesWithin times e → ReachesWithin times (flipped flip e)
reach-flipped times false e h = h
reach-flipped times true e h = record { x0 = omega (arith, ints, h.x1); y0 = h.y0; x1 = omega (arith, ints, h.x0); y1 = h.y1 }

reach-quarters : (times k : ℕ) (e : Extent) → ReachesWithin times e → ReachesWithin times (quarters_turned k e)
reach-quarters times zero e h = h
reach-quarters times (suc k) e h =
    let b = reach-quarters times k e h in record { x0 = omega (arith, ints, b.y1); y0 = b.x0; x1 = omega (arith, ints, b.y0); y1 = b.x1 }

reach-shifted : (times : ℕ) (dx dy : ℤ) (e : Extent) → IsNotFar dx → IsNotFar dy → ReachesWithin times e → ReachesWithin (suc times) (shifted dx dy e)
reach-shifted times dx dy e across up h = record {
  x0 = omega (arith, ints, h.x0, across);
  y0 = omega (arith, ints, h.y0, up);
  x1 = omega (arith, ints, h.x1, across);
  y1 = omega (arith, ints, h.y1, up);
}

reach-moved : (times : ℕ) (t : Turning) (e : Extent) → IsNotFar t.dx → IsNotFar t.dy → ReachesWithin times e → ReachesWithin (suc times) (moved t e)
reach-moved times t e across up h =
    reach-shifted times t.dx t.dy (quarters_turned t.quarters (flipped t.flip e)) across up
    (reach-quarters times t.quarters (flipped t.flip e) (reach-flipped times t.flip e h))

pub reaches-moved : (times : ℕ) (t : Turning) (bounds : Option Extent) → IsNotFar t.dx → IsNotFar t.dy → ForSome bounds (ReachesWithin times)
    → ForSome (option_map (moved t) bounds) (ReachesWithin (suc times))
reaches-moved times t None across up h = λ x is. cc
reaches-moved times t (Some e) across up h = λ x is.
    let same : moved t e ≡ x = cc in subst (ReachesWithin (suc times)) same (reach-moved times t e across up (h e refl))

-- no shape inside a rectangle is too far that is not too far itself
near-spanned : (e s : Extent) → AreSidesNear e → Spans e s → AreSidesNear s
near-spanned e s near h = record {
  x0 = omega (arith, ints, near.x0, near.x1, h.x0, h.x0_below);
  y0 = omega (arith, ints, near.y0, near.y1, h.y0, h.y0_below);
  x1 = omega (arith, ints, near.x0, near.x1, h.x1, h.x1_below);
  y1 = omega (arith, ints, near.y0, near.y1, h.y1, h.y1_below);
}

not-far : (z : ℤ) (zs : List ℤ) → IsNotFar z → first_far (z ∷ zs) ≡ first_far zs
not-far z zs near = let test : nat_lt farthest (nat_abs z) ≡ false = grind (arith, nat_tests) in rw test refl

near-sides : (e : Extent) (zs : List ℤ) → AreSidesNear e → first_far (sides_of e ++ zs) ≡ first_far zs
near-sides e zs h =
    not-far e.x0 (e.y0 ∷ e.x1 ∷ e.y1 ∷ zs) h.x0 ∙ not-far e.y0 (e.x1 ∷ e.y1 ∷ zs) h.y0 ∙ not-far e.x1 (e.y1 ∷ zs) h.x1 ∙ not-far e.y1 zs h.y1

near-all : (e : Extent) (shapes : List Shape) → AreSidesNear e → AllByRecursion (λ s. Spans e s.rect) shapes → first_far (coordinates_of shapes) ≡ None
near-all e [] near h = refl
near-all e (s ∷ ss) near h = near-sides s.rect (coordinates_of ss) (near-spanned e s.rect near h.0) ∙ near-all e ss near h.1

pub around-near : (bounds : Option Extent) (shapes : List Shape) → ForSome bounds AreSidesNear → AreAround bounds shapes → first_far (coordinates_of shapes) ≡ None
around-near None shapes near h = rw h refl
around-near (Some e) shapes near h = near-all e shapes (near e refl) h

-- a rectangle around more
spans-first : (e f s : Extent) → Spans e s → Spans (around_both e f) s
spans-first e f s h = record {
  x0 = omega (arith, ints, clamps, h.x0);
  x0_below = omega (arith, ints, clamps, h.x0_below);
  x1 = omega (arith, ints, clamps, h.x1);
  x1_below = omega (arith, ints, clamps, h.x1_below);
  y0 = omega (arith, ints, clamps, h.y0);
  y0_below = omega (arith, ints, clamps, h.y0_below);
  y1 = omega (arith, ints, clamps, h.y1);
  y1_below = omega (arith, ints, clamps, h.y1_below);
}

spans-second : (e f s : Extent) → Spans f s → Spans (around_both e f) s
spans-second e f s h = record {
  x0 = omega (arith, ints, clamps, h.x0);
  x0_below = omega (arith, ints, clamps, h.x0_below);
  x1 = omega (arith, ints, clamps, h.x1);
  x1_below = omega (arith, ints, clamps, h.x1_below);
  y0 = omega (arith, ints, clamps, h.y0);
  y0_below = omega (arith, ints, clamps, h.y0_below);
  y1 = omega (arith, ints, clamps, h.y1);
  y1_below = omega (arith, ints, clamps, h.y1_below);
}

reach-both : (times : ℕ) (e f : Extent) → ReachesWithin times e → ReachesWithin times f → ReachesWithin times (around_both e f)
reach-both times e f h k = record {
  x0 = omega (arith, ints, clamps, h.x0, k.x0);
  y0 = omega (arith, ints, clamps, h.y0, k.y0);
  x1 = omega (arith, ints, clamps, h.x1, k.x1);
  y1 = omega (arith, ints, clamps, h.y1, k.y1);
}

all-more : (e f : Extent) → ((s : Extent) → Spans e s → Spans f s) → (shapes : List Shape) → AllByRecursion (λ s. Spans e s.rect) shapes
    → AllByRecursion (λ s. Spans f s.rect) shapes
all-more e f more [] h = tt
all-more e f more (s ∷ ss) h = (more s.rect h.0, all-more e f more ss h.1)

pub around-joined : (a b : Option Extent) (xs ys : List Shape) → AreAround a xs → AreAround b ys → AreAround (joined a b) (xs ++ ys)
around-joined None b xs ys first second = rw first second
around-joined (Some e) None xs ys first second = rw (second, append-nil) first
around-joined (Some e) (Some f) xs ys first second =
    every-append (λ s. Spans (around_both e f) s.rect) xs ys (all-more e (around_both e f) (spans-first e f) xs first)
    (all-more f (around_both e f) (spans-second e f) ys second)

pub reach-joined : (times : ℕ) (a b : Option Extent) → ForSome a (ReachesWithin times) → ForSome b (ReachesWithin times) → ForSome (joined a b) (ReachesWithin times)
reach-joined times None b first second = second
reach-joined times (Some e) None first second = first
reach-joined times (Some e) (Some f) first second = λ x is.
    let same : around_both e f ≡ x = cc in subst (ReachesWithin times) same (reach-both times e f (first e refl) (second f refl))

-- what reaches so far can be moved
pub reach-moves : (e : Extent) → ReachesWithin 64 e → IsExtentInReach e
reach-moves e h = record {
  x0 = record { low = omega (arith, ints, h.x0); high = omega (arith, ints, h.x0) };
  y0 = record { low = omega (arith, ints, h.y0); high = omega (arith, ints, h.y0) };
  x1 = record { low = omega (arith, ints, h.x1); high = omega (arith, ints, h.x1) };
  y1 = record { low = omega (arith, ints, h.y1); high = omega (arith, ints, h.y1) };
}

reach-more : (times most : ℕ) (e : Extent) → times ≤ most → ReachesWithin times e → ReachesWithin most e
reach-more times most e le h = record {
  x0 = omega (arith, le, h.x0);
  y0 = omega (arith, le, h.y0);
  x1 = omega (arith, le, h.x1);
  y1 = omega (arith, le, h.y1);
}

pub reach-most : (times most : ℕ) (bounds : Option Extent) → times ≤ most → ForSome bounds (ReachesWithin times) → ForSome bounds (ReachesWithin most)
reach-most times most bounds le h = λ e is. reach-more times most e le (h e is)
