use Rattle.std.proofs.Common.{◌≡◌, ◌∙◌, ap, [], ◌∷◌, ◌++◌, append_assoc, length, true, false, ℤ, ◌+ℤ◌, ◌-ℤ◌, ◌≤ℤ◌, pos, ◌<ℤ◌, ◌⊎◌, inl, inr, SFits, to_z, of_z, w64, arith, refl, List, map, subst, sym}
use Rattle.std.proofs.lemmas.Int.{ints, clamps, to_z-of_z}
use Rattle.std.proofs.lemmas.Bool.Decides.{nat_tests}
use Rattle.std.proofs.lemmas.List.{append-nil}
use Rattle.std.specs.Int.{int_min, int_max}
use Rattle.std.specs.Prelude.{◌==◌}
use Rattle.geom_core.specs.Extent.{Extent}
use Rattle.geom_core.specs.Reach.{IsInReach}
use Rattle.geom_core.specs.declared.corner.Corner.{Corner}
use Rattle.std_laws.proofs.Members.{map-cases, map-member}
use Rattle.region_cut.specs.Steps.{Step, steps_from, wire_steps}
use Rattle.region_cut.specs.Strokes.{AreWithin, CoverPath, IsIn, IsNearStep, stroke, strokes}

-- coordinates within reach are of 64 bits
pub reach-fits : (a : ℤ) → IsInReach a → SFits w64 a
reach-fits a within = search (arith, ints)

-- a rectangle that is written and read back
pub written : (a b c d a' b' c' d' : ℤ) → SFits w64 a → SFits w64 b → SFits w64 c → SFits w64 d → a ≡ a' → b ≡ b' → c ≡ c' → d ≡ d'
    → ◌≡◌ {A = Extent} (record { x0 = to_z w64 (of_z w64 a); y0 = to_z w64 (of_z w64 b); x1 = to_z w64 (of_z w64 c); y1 = to_z w64 (of_z w64 d) })
    (record { x0 = a'; y0 = b'; x1 = c'; y1 = d' })
written a b c d a' b' c' d' fa fb fc fd ea eb ec ed = rw (to_z-of_z w64 a fa, to_z-of_z w64 b fb, to_z-of_z w64 c fc, to_z-of_z w64 d fd, ea, eb, ec, ed) refl

-- a step's end lies behind its beginning
pub wide : (a b half m n : ℤ) → SFits w64 m → SFits w64 n → pos 0 <ℤ half → m ≡ int_min a b -ℤ half → n ≡ int_max a b +ℤ half
    → to_z w64 (of_z w64 m) <ℤ to_z w64 (of_z w64 n)
wide a b half m n fm fn above low high = rw (to_z-of_z w64 m fm, to_z-of_z w64 n fn, low, high) (apart a b half above)
  where
    apart : (a b half : ℤ) → pos 0 <ℤ half → (int_min a b -ℤ half) <ℤ (int_max a b +ℤ half)
    apart a b half above = omega (arith, ints, clamps)

-- a number within half a width of some number of a stretch lies on the stretch that is longer by half a width at both ends
out : (low high half p x : ℤ) → low ≤ℤ p → p ≤ℤ high → AreWithin half p x → ((low -ℤ half) ≤ℤ x) × (x ≤ℤ (high +ℤ half))
out low high half p x above below near = (omega (arith, ints, near.under), omega (arith, ints, near.over))

-- and the other way round
near : (low high half x : ℤ) → low ≤ℤ high → pos 0 <ℤ half → (low -ℤ half) ≤ℤ x → x ≤ℤ (high +ℤ half) → (p : ℤ) × (low ≤ℤ p) × (p ≤ℤ high) × AreWithin half p x
near low high half x order some above below = by (cases x low) (cases high x)
  where
    cases : (a b : ℤ) → (a ≤ℤ b) ⊎ (b ≤ℤ a)
    cases a b = grind (arith, ints)

    itself : (a : ℤ) → a ≤ℤ a
    itself a = omega (arith, ints)

    by : (x ≤ℤ low) ⊎ (low ≤ℤ x) → (high ≤ℤ x) ⊎ (x ≤ℤ high) → (p : ℤ) × (low ≤ℤ p) × (p ≤ℤ high) × AreWithin half p x
    by (inl under) other = (low, itself low, order, record { under = omega (arith, ints); over = omega (arith, ints) })
    by (inr on) (inl over) = (high, order, itself high, record { under = omega (arith, ints); over = omega (arith, ints) })
    by (inr on) (inr in_it) = (x, on, in_it, record { under = omega (arith, ints); over = omega (arith, ints) })

-- the rectangle of a step covers just the points near it
covers : (half x y : ℤ) (s : Step) → pos 0 <ℤ half → IsIn x y (stroke half s) → IsNearStep half x y s
covers half x y s some inside =
    let across = near (int_min s.from.x s.to.x) (int_max s.from.x s.to.x) half x (order s.from.x s.to.x) some inside.left inside.right in
    let up = near (int_min s.from.y s.to.y) (int_max s.from.y s.to.y) half y (order s.from.y s.to.y) some inside.low inside.high in
    (across.0, up.0, record { left = across.1; low = up.1; right = across.2; high = up.2 }, across.3, up.3)
  where
    order : (a b : ℤ) → int_min a b ≤ℤ int_max a b
    order a b = omega (arith, ints, clamps)

covered : (half x y : ℤ) (s : Step) → IsNearStep half x y s → IsIn x y (stroke half s)
covered half x y s near =
    let across = out (int_min s.from.x s.to.x) (int_max s.from.x s.to.x) half near.0 x near.2.left near.2.right near.3 in
    let up = out (int_min s.from.y s.to.y) (int_max s.from.y s.to.y) half near.1 y near.2.low near.2.high near.4 in
    record { left = across.0; low = up.0; right = across.1; high = up.1 }

-- the rectangles of a wire cover just the points near its path
pub strokes-cover : (half : ℤ) (path : List Corner) → pos 0 <ℤ half → CoverPath half path (strokes half path)
strokes-cover half path some x y = (
  λ has.
      let of_step = map-cases (stroke half) (wire_steps path) has.0 has.1 in
      (of_step.0, of_step.1, covers half x y of_step.0 some (subst (IsIn x y) (sym of_step.2) has.2)),
  λ has. (stroke half has.0, map-member (stroke half) (wire_steps path) has.0 has.1, covered half x y has.0 has.2),
)

-- where a step begins and ends, from numbers that are written and read back
pub begun : (a b half m : ℤ) → SFits w64 a → SFits w64 b → SFits w64 half → m ≡ int_min (to_z w64 (of_z w64 a)) (to_z w64 (of_z w64 b)) -ℤ to_z w64 (of_z w64 half)
    → m ≡ int_min a b -ℤ half
begun a b half m fa fb fh is = rw (to_z-of_z w64 a fa, to_z-of_z w64 b fb, to_z-of_z w64 half fh) at is

pub ended : (a b half m : ℤ) → SFits w64 a → SFits w64 b → SFits w64 half → m ≡ int_max (to_z w64 (of_z w64 a)) (to_z w64 (of_z w64 b)) +ℤ to_z w64 (of_z w64 half)
    → m ≡ int_max a b +ℤ half
ended a b half m fa fb fh is = rw (to_z-of_z w64 a fa, to_z-of_z w64 b fb, to_z-of_z w64 half fh) at is

-- the rectangles of a wire of half a width that is written and read back
pub read-strokes : (half : ℤ) (path : List Corner) (rects : List Extent) → IsInReach half → rects ≡ strokes (to_z w64 (of_z w64 half)) path → rects ≡ strokes half path
read-strokes half path rects within is = rw (to_z-of_z w64 half (reach-fits half within)) at is

-- the steps of a wire of several points
pub several : (half : ℤ) (path rest : List Corner) (first : Corner) → path ≡ first ∷ rest → (length rest == 0) ≡ false → map (stroke half) (steps_from first rest) ≡ strokes half path
several half path rest first is some = by rest is some
  where
    by : (rest : List Corner) → path ≡ first ∷ rest → (length rest == 0) ≡ false → map (stroke half) (steps_from first rest) ≡ strokes half path
    by [] is some = absurd (let never : ⊥ = cc in never)
    by (next ∷ later) is some = ap (strokes half) (sym is)

-- and of one of a single point
pub single : (half : ℤ) (path rest : List Corner) (first : Corner) (r : Extent) (rects : List Extent) → path ≡ first ∷ rest → (length rest == 0) ≡ true
    → r ≡ stroke half (record { from = first; to = first }) → rects ≡ r ∷ [] → rects ≡ strokes half path
single half path rest first r rects is none one all = by rest is none
  where
    by : (rest : List Corner) → path ≡ first ∷ rest → (length rest == 0) ≡ true → rects ≡ strokes half path
    by [] is none = all ∙ ap (λ (e : Extent). e ∷ []) one ∙ ap (strokes half) (sym is)
    by (next ∷ later) is none = absurd (grind (arith, nat_tests))

-- one rectangle more
pub step-made : (half : ℤ) (rects new all : List Extent) (here next : Corner) (rest later : List Corner) (r : Extent)
    → rects ++ map (stroke half) (steps_from here rest) ≡ all → rest ≡ next ∷ later → r ≡ stroke half (record { from = here; to = next }) → new ≡ rects ++ r ∷ []
    → new ++ map (stroke half) (steps_from next later) ≡ all
step-made half rects new all here next rest later r was is one more =
    rw (more, one, append_assoc) (subst (λ (l : List Corner). rects ++ map (stroke half) (steps_from here l) ≡ all) is was)

-- all of them
pub all-made : (half : ℤ) (rects all : List Extent) (here : Corner) (rest : List Corner) → rects ++ map (stroke half) (steps_from here rest) ≡ all → length rest ≡ 0 → rects ≡ all
all-made half rects all here [] was none = sym (append-nil rects) ∙ was
all-made half rects all here (next ∷ later) was none = absurd (omega arith)

pub cover-from : (half : ℤ) (path : List Corner) (rects : List Extent) → pos 0 <ℤ half → rects ≡ strokes half path → CoverPath half path rects
cover-from half path rects some is = subst (CoverPath half path) (sym is) (strokes-cover half path some)
