use Rattle.std.proofs.Common.{◌≡◌, ◌∷◌, [], refl}
use Rattle.channel_model.specs.declared.wiring.Segment.TheVariants.{Across, Along}
use Rattle.channel_model.proofs.Worked.{crossed, both}
use Rattle.channel_model.specs.Nets.{nets_of}
use Rattle.plain_router.specs.Plain.{plain_of}

pub crossed-tracks : (plain_of crossed).tracks ≡ 4
unfolding nets_of
crossed-tracks = refl

pub crossed-columns : (plain_of crossed).columns ≡ 4
unfolding nets_of
crossed-columns = refl

pub crossed-segments : (plain_of crossed).segments
    ≡ Across 1 0 0 1 ∷ (Across 2 1 0 2 ∷ (Across 2 0 4 5 ∷ (Across 1 1 3 5
    ∷ (Across 1 2 1 3 ∷ (Along 1 1 0 2 ∷ (Along 1 3 1 2
    ∷ (Across 2 3 2 4 ∷ (Along 2 2 1 3 ∷ (Along 2 4 0 3 ∷ [])))))))))
unfolding nets_of
crossed-segments = refl
