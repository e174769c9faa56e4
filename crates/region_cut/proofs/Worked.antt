use Rattle.std.proofs.Common.{◌≡◌, ℤ, pos, negsuc, List, [], ◌∷◌, refl}
use Rattle.geom_core.specs.Extent.{Extent}
use Rattle.geom_core.specs.declared.corner.Corner.{Corner}
use Rattle.region_cut.specs.Strokes.{strokes}
use Rattle.region_cut.specs.Cells.{is_filled}
use Rattle.region_cut.specs.Grids.{ascending}
use Rattle.region_cut.specs.Covered.{is_covered}
use Rattle.region_cut.specs.Maximal.{maximal}
use Rattle.region_cut.specs.Merged.{merged}

abbrev at : ℤ → ℤ → Corner
at x y = record { x = x; y = y }

abbrev box : ℤ → ℤ → ℤ → ℤ → Extent
box x0 y0 x1 y1 = record { x0 = x0; y0 = y0; x1 = x1; y1 = y1 }

-- a wire of two steps, and one of a single point
pub bent_wire : strokes (pos 2) (at (pos 0) (pos 0) ∷ (at (pos 0) (pos 10) ∷ (at (pos 10) (pos 10) ∷ [])))
    ≡ box (negsuc 1) (negsuc 1) (pos 2) (pos 12) ∷ (box (negsuc 1) (pos 8) (pos 12) (pos 12) ∷ [])
bent_wire = refl

pub single_point : strokes (pos 2) (at (pos 5) (pos 5) ∷ []) ≡ box (pos 3) (pos 3) (pos 7) (pos 7) ∷ []
single_point = refl

-- an L has two maximal blocks
abbrev ell : List Corner
ell = at (pos 0) (pos 0) ∷ (at (pos 10) (pos 0) ∷ (at (pos 10) (pos 4) ∷ (at (pos 4) (pos 4) ∷ (at (pos 4) (pos 10) ∷ (at (pos 0) (pos 10) ∷ [])))))

pub ell_blocks : maximal ell ≡ box (pos 0) (pos 0) (pos 10) (pos 4) ∷ (box (pos 0) (pos 0) (pos 4) (pos 10) ∷ [])
unfolding maximal is_filled ascending
ell_blocks = refl

-- a path of no area has none
pub no_area : maximal (at (pos 0) (pos 0) ∷ (at (pos 10) (pos 0) ∷ (at (pos 10) (pos 0) ∷ []))) ≡ []
unfolding maximal is_filled ascending
no_area = refl

-- the two strips of an L are merged into its two maximal blocks, if that may take as much work as it does
abbrev strips_of_ell : List Extent
strips_of_ell = box (pos 0) (pos 0) (pos 10) (pos 4) ∷ (box (pos 0) (pos 4) (pos 4) (pos 10) ∷ [])

pub ell_merged : merged 8 strips_of_ell ≡ box (pos 0) (pos 0) (pos 10) (pos 4) ∷ (box (pos 0) (pos 0) (pos 4) (pos 10) ∷ [])
unfolding merged is_covered ascending
ell_merged = refl

pub ell_stays : merged 7 strips_of_ell ≡ strips_of_ell
unfolding merged is_covered ascending
ell_stays = refl

-- a rectangle that is there twice is one
pub twice : merged 3 (box (pos 1) (pos 2) (pos 3) (pos 4) ∷ (box (pos 1) (pos 2) (pos 3) (pos 4) ∷ [])) ≡ box (pos 1) (pos 2) (pos 3) (pos 4) ∷ []
unfolding merged is_covered ascending
twice = refl

-- stairs of four steps have ten maximal blocks, and stay as they are
abbrev four_steps : List Extent
four_steps =
    box (pos 0) (pos 0) (pos 4) (pos 1)
    ∷ (box (pos 1) (pos 1) (pos 5) (pos 2) ∷ (box (pos 2) (pos 2) (pos 6) (pos 3) ∷ (box (pos 3) (pos 3) (pos 7) (pos 4) ∷ [])))

pub stairs_stay : merged 1000 four_steps ≡ four_steps
unfolding merged is_covered ascending
stairs_stay = refl
