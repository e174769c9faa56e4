use Rattle.std.proofs.Common.{◌≡◌, refl, ap, sym, ◌∙◌, append_assoc, ℕ, zero, suc, ◌<◌, ◌≤◌, List, [], ◌∷◌, ◌++◌, length, Bool, true, false, Result, Ok, Err, arith}
use Rattle.std.proofs.lemmas.List.{append-nil}
use Rattle.std.specs.Prelude.{◌&&◌}
use Rattle.region_cut.specs.Steps.{closed_steps, steps_from}
use Rattle.geom_core.specs.declared.corner.Corner.{Corner}
use Rattle.cif_text.specs.Bytes.{is_separator, ends}
use Rattle.read_base.specs.Steps.{◌>>=◌}
use Rattle.cif_text.specs.declared.misfit.Misfit.{Misfit}
use Rattle.cif_text.specs.Paths.{corner_of, corners_of, is_along, are_along}
use Rattle.cif_text.proofs.FuelLaws.{corner-fewer, corners-enough}

-- points that were read, and then those of the rest
abbrev pub behind : List Corner → Result (List Corner) Misfit → Result (List Corner) Misfit
behind front others = others >>= λ more. Ok (front ++ more)

pub path-begins : (r : Result (List Corner) Misfit) → behind [] r ≡ r
path-begins (Ok others) = refl
path-begins (Err e) = refl

pub path-ends : (front : List Corner) (n : ℕ) (bytes : List ℕ) → ends is_separator bytes ≡ true → behind front (corners_of n bytes) ≡ Ok front
unfolding corners_of
path-ends front zero bytes end = rw (end, append-nil front) refl
path-ends front (suc n) bytes end = rw (end, append-nil front) refl

-- a point leaves fewer bytes than there are
pub corner-less : (bytes rest : List ℕ) (c : Corner) → ends is_separator bytes ≡ false → corner_of bytes ≡ Ok (c, rest) → length rest < length bytes
corner-less [] rest c more is = cc
corner-less (x ∷ xs) rest c more is = let few : length rest ≤ length xs = (rw is at (corner-fewer x xs)).holds in omega arith

pub path-fails : (front : List Corner) (bytes : List ℕ) (e : Misfit) → ends is_separator bytes ≡ false → corner_of bytes ≡ Err e
    → behind front (corners_of (length bytes) bytes) ≡ Err e
unfolding corners_of
path-fails front [] e more is = cc
path-fails front (x ∷ xs) e more is = rw (more, is) refl

pub path-on : (front : List Corner) (bytes rest : List ℕ) (c : Corner) → ends is_separator bytes ≡ false → corner_of bytes ≡ Ok (c, rest)
    → behind front (corners_of (length bytes) bytes) ≡ behind (front ++ c ∷ []) (corners_of (length rest) rest)
unfolding corners_of
path-on front [] rest c more is = cc
path-on front (x ∷ xs) rest c more is =
    let few = corner-less (x ∷ xs) rest c more is in
    let same = corners-enough (length xs) (length rest) rest (omega arith) (omega arith) in
    rw (more, is, same) (joined (corners_of (length rest) rest))
  where
    joined : (r : Result (List Corner) Misfit) → behind front (r >>= λ others. Ok (c ∷ others)) ≡ behind (front ++ c ∷ []) r
    joined (Ok others) = ap Ok (sym (append_assoc front (c ∷ []) others))
    joined (Err e) = refl

-- the steps of a closed path are those of the path, and one from its last point to its first
pub closed-along : (here first last : Corner) (front : List Corner)
    → are_along (steps_from here ((front ++ last ∷ []) ++ first ∷ [])) ≡ (are_along (steps_from here (front ++ last ∷ [])) && is_along (record { from = last; to = first }))
closed-along here first last [] = by (is_along (record { from = here; to = last })) (is_along (record { from = last; to = first }))
  where
    by : (a b : Bool) → (a && (b && true)) ≡ ((a && true) && b)
    by true true = refl
    by true false = refl
    by false b = refl
closed-along here first last (c ∷ cs) = by (is_along (record { from = here; to = c })) (closed-along c first last cs)
  where
    by : (a : Bool) → are_along (steps_from c ((cs ++ last ∷ []) ++ first ∷ [])) ≡ (are_along (steps_from c (cs ++ last ∷ [])) && is_along (record { from = last; to = first }))
        → (a && are_along (steps_from c ((cs ++ last ∷ []) ++ first ∷ []))) ≡ ((a && are_along (steps_from c (cs ++ last ∷ []))) && is_along (record { from = last; to = first }))
    by true h = h
    by false h = refl

pub closed-is : (path others front : List Corner) (first last : Corner) (along : Bool) → path ≡ first ∷ others → others ≡ front ++ last ∷ []
    → are_along (steps_from first others) ≡ along → are_along (closed_steps path) ≡ (along && is_along (record { from = last; to = first }))
closed-is path others front first last along path_is others_is is =
    ap (λ (p : List Corner). are_along (closed_steps p)) path_is
    ∙ ap (λ (p : List Corner). are_along (steps_from first (p ++ first ∷ []))) others_is
    ∙ closed-along first first last front
    ∙ ap (λ (p : List Corner). are_along (steps_from first p) && is_along (record { from = last; to = first })) (sym others_is)
    ∙ ap (λ (b : Bool). b && is_along (record { from = last; to = first })) is
