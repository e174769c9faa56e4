use Rattle.std.proofs.Common.{◌≡◌, refl, ap, sym, ℕ, ℤ, List, [], ◌∷◌, ◌++◌, append_assoc, Bool, true, false, Option, Some, None, arith}
use Rattle.std.proofs.lemmas.Bool.Decides.{nat_tests}
use Rattle.std.specs.Prelude.{if◌then◌else◌, nat_lt, nat_abs, map}
use Rattle.std.specs.List.{AllByRecursion}
use Rattle.geom_core.specs.declared.corner.Corner.{Corner}
use Rattle.geom_core.specs.declared.layout.Shape.{Shape}
use Rattle.geom_core.specs.Extent.{Extent}
use Rattle.region_cut.specs.Cells.{grid_of, lines_across, lines_up}
use Rattle.region_cut.specs.Maximal.{maximal}
use Rattle.region_cut.proofs.SideLaws.{OfSides, blocks-all, every-ascending}
use Rattle.cif_text.specs.Scales.{scaled_corner, with_corner, scaled_corners}
use Rattle.cif_reader.specs.Limits.{farthest, first_far, coordinates_of_corner, coordinates_of_path}
use Rattle.cif_reader.specs.Within.{IsNotFar, IsShapeWithin}
use Rattle.std_laws.proofs.Every.{every-map, every-weaker}

-- points before others, at a scale
abbrev pub with_path : List Corner → Option (List Corner) → Option (List Corner)
with_path front None = None
with_path front (Some cs) = Some (front ++ cs)

pub path-on : (a b : ℕ) (front : List Corner) (c d : Corner) (cs : List Corner) → Some d ≡ scaled_corner a b c
    → with_path front (scaled_corners a b (c ∷ cs)) ≡ with_path (front ++ d ∷ []) (scaled_corners a b cs)
path-on a b front c d cs is = rw (sym is) (by (scaled_corners a b cs))
  where
    by : (o : Option (List Corner)) → with_path front (with_corner (Some d) o) ≡ with_path (front ++ d ∷ []) o
    by None = refl
    by (Some ds) = ap Some (sym (append_assoc front (d ∷ []) ds))

pub path-begins : (o : Option (List Corner)) → with_path [] o ≡ o
path-begins None = refl
path-begins (Some cs) = refl

pub path-inexact : (a b : ℕ) (front : List Corner) (c : Corner) (cs : List Corner) → None ≡ scaled_corner a b c
    → with_path front (scaled_corners a b (c ∷ cs)) ≡ None
path-inexact a b front c cs is = rw (sym is) refl

-- the coordinates of a path, point after point
pub corner-far : (c : Corner) (cs : List Corner) (z : ℤ) → first_far (coordinates_of_corner c) ≡ Some z → first_far (coordinates_of_path (c ∷ cs)) ≡ Some z
corner-far c cs z is = by (nat_lt farthest (nat_abs c.x)) (nat_lt farthest (nat_abs c.y)) is
  where
    by : (a b : Bool) → (if a then Some c.x else (if b then Some c.y else None)) ≡ Some z
        → (if a then Some c.x else (if b then Some c.y else first_far (coordinates_of_path cs))) ≡ Some z
    by true b is = is
    by false true is = is
    by false false is = cc

pub corner-near : (c : Corner) (cs : List Corner) → first_far (coordinates_of_corner c) ≡ None
    → first_far (coordinates_of_path (c ∷ cs)) ≡ first_far (coordinates_of_path cs)
corner-near c cs none = by (nat_lt farthest (nat_abs c.x)) (nat_lt farthest (nat_abs c.y)) none
  where
    by : (a b : Bool) → (if a then Some c.x else (if b then Some c.y else None)) ≡ None
        → (if a then Some c.x else (if b then Some c.y else first_far (coordinates_of_path cs))) ≡ first_far (coordinates_of_path cs)
    by true b is = cc
    by false true is = cc
    by false false is = refl

-- the lines of a path are coordinates of its corners
record IsNearCorner (c : Corner) : Type 0 where
  x : IsNotFar c.x
  y : IsNotFar c.y

near-x : (path : List Corner) → AllByRecursion IsNearCorner path → AllByRecursion IsNotFar (lines_across path)
near-x path all = every-ascending IsNotFar (map (λ c. c.x) path) (across path all)
  where
    across : (path : List Corner) → AllByRecursion IsNearCorner path → AllByRecursion IsNotFar (map (λ c. c.x) path)
    across [] all = tt
    across (c ∷ cs) all = (all.0.x, across cs all.1)

near-y : (path : List Corner) → AllByRecursion IsNearCorner path → AllByRecursion IsNotFar (lines_up path)
near-y path all = every-ascending IsNotFar (map (λ c. c.y) path) (up path all)
  where
    up : (path : List Corner) → AllByRecursion IsNearCorner path → AllByRecursion IsNotFar (map (λ c. c.y) path)
    up [] all = tt
    up (c ∷ cs) all = (all.0.y, up cs all.1)

near-path : (path : List Corner) → first_far (coordinates_of_path path) ≡ None → AllByRecursion IsNearCorner path
near-path [] none = tt
near-path (c ∷ cs) none = by (nat_lt farthest (nat_abs c.x)) (nat_lt farthest (nat_abs c.y)) refl refl (λ more. near-path cs more) none
  where
    by : (a b : Bool) → nat_lt farthest (nat_abs c.x) ≡ a → nat_lt farthest (nat_abs c.y) ≡ b
        → (first_far (coordinates_of_path cs) ≡ None → AllByRecursion IsNearCorner cs)
        → (if a then Some c.x else (if b then Some c.y else first_far (coordinates_of_path cs))) ≡ None → AllByRecursion IsNearCorner (c ∷ cs)
    by true b x y others none = cc
    by false true x y others none = cc
    by false false x y others none = (record { x = grind (arith, nat_tests); y = grind (arith, nat_tests) }, others none)

near-shape : (layer : List ℕ) (rect : Extent) → OfSides IsNotFar rect → IsShapeWithin (record { layer = layer; rect = rect })
near-shape layer rect near = record { x0 = near.0; y0 = near.2; x1 = near.1; y1 = near.3 }

-- the maximal blocks of a path that is not too far are not too far
pub near-blocks : (layer : List ℕ) (path : List Corner) → first_far (coordinates_of_path path) ≡ None
    → AllByRecursion IsShapeWithin (map (λ rect. record { layer = layer; rect = rect }) (maximal path))
unfolding maximal
near-blocks layer path none =
    let near = near-path path none in
    let shaped : Extent → Shape = λ rect. record { layer = layer; rect = rect } in
    every-map IsShapeWithin shaped (maximal path)
    (every-weaker (OfSides IsNotFar) (λ rect. IsShapeWithin (shaped rect)) (near-shape layer) (maximal path)
    (blocks-all IsNotFar (grid_of path) (near-x path near) (near-y path near)))
