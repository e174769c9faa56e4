use Rattle.std.proofs.Common.{◌≡◌, ℤ, pos, List, [], ◌∷◌, refl}
use Rattle.std.specs.List.{enumerate_from}
use Rattle.geom_core.specs.Extent.{Extent}
use Rattle.close_rects.specs.Crowds.{crowds_of}
use Rattle.close_rects.specs.Rests.{rows_of}
use Rattle.close_rects.specs.declared.member.Member.{Member}

-- two squares side by side, and a thin rectangle one apart from them
abbrev in_row : List Extent
in_row =
    record { x0 = pos 0; y0 = pos 0; x1 = pos 2; y1 = pos 2 }
    ∷ (record { x0 = pos 2; y0 = pos 0; x1 = pos 4; y1 = pos 2 } ∷ (record { x0 = pos 5; y0 = pos 0; x1 = pos 6; y1 = pos 2 } ∷ []))

-- none share inner points
pub in_row-inner : rows_of (pos 0) (enumerate_from 0 in_row) ≡ []
in_row-inner = refl

-- two touch
pub in_row-touching : rows_of (pos 1) (enumerate_from 0 in_row) ≡ (0, 1) ∷ []
in_row-touching = refl

pub in_row-near : rows_of (pos 2) (enumerate_from 0 in_row) ≡ (0, 1) ∷ ((1, 2) ∷ [])
in_row-near = refl

-- corners that meet touch
pub corners : rows_of (pos 1) (enumerate_from 0 (record { x0 = pos 0; y0 = pos 0; x1 = pos 2; y1 = pos 2 } ∷ (record { x0 = pos 2; y0 = pos 2; x1 = pos 3; y1 = pos 3 } ∷ []))) ≡ (0, 1) ∷ []
corners = refl

-- the same three as members, the last of which has the class of the first
abbrev classed : ℤ → List Member
classed reach =
    record { number = 10; class = 1; rect = record { x0 = pos 0; y0 = pos 0; x1 = pos 2; y1 = pos 2 }; reach = reach }
    ∷ (record { number = 30; class = 2; rect = record { x0 = pos 2; y0 = pos 0; x1 = pos 4; y1 = pos 2 }; reach = reach }
    ∷ (record { number = 20; class = 1; rect = record { x0 = pos 5; y0 = pos 0; x1 = pos 6; y1 = pos 2 }; reach = reach } ∷ []))

-- none overlap, two touch, and those of one class don't crowd
pub classed-inner : crowds_of (classed (pos 0)) ≡ []
classed-inner = refl

pub classed-touching : crowds_of (classed (pos 1)) ≡ (10, 30) ∷ []
classed-touching = refl

pub classed-near : crowds_of (classed (pos 9)) ≡ (10, 30) ∷ ((30, 20) ∷ [])
classed-near = refl
