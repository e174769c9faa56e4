use Rattle.std.proofs.Common.{◌≡◌, ◌++◌, ℕ, suc, List, ◌∷◌, ◌∙◌, append_assoc}
use Rattle.channel_model.specs.Pins.{Pins}
use Rattle.channel_model.specs.declared.wiring.Segment.{Segment}
use Rattle.channel_model.specs.declared.wiring.Via.{Via}
use Rattle.greedy_column.specs.declared.column.Track.{Track}
use Rattle.greedy_column.specs.declared.column.Column.{Column}
use Rattle.greedy_column.specs.Replay.{entered, after}
use Rattle.greedy_column.specs.Verticals.{pin_verticals}
use Rattle.greedy_router.specs.SweepWiring.{since_after, column_segments, column_vias, segments_from, vias_from}

-- one column's segments more
pub segments-more : (order : List ℕ) (pins : Pins) (column next : ℕ) (before : List Track) (since : ℕ → ℕ) (done : Column) (columns : List Column)
    (old new whole : List Segment) → next ≡ suc column
    → new ≡ old ++ column_segments order pins column before (entered pins column done before) since done
    → old ++ segments_from order pins column before since (done ∷ columns) ≡ whole
    → new ++ segments_from order pins next (after pins column done before) (since_after column before since) columns ≡ whole
segments-more order pins column next before since done columns old new whole one added so_far =
    (λ i. added i ++ segments_from order pins (one i) (after pins column done before) (since_after column before since) columns)
    ∙ append_assoc old (column_segments order pins column before (entered pins column done before) since done)
    (segments_from order pins (suc column) (after pins column done before) (since_after column before since) columns)
    ∙ so_far

-- one column's vias more
pub vias-more : (order : List ℕ) (pins : Pins) (column next : ℕ) (before : List Track) (done : Column) (columns : List Column)
    (old new whole : List Via) → next ≡ suc column
    → new ≡ old ++ column_vias order column (entered pins column done before) (after pins column done before) (pin_verticals pins column done) done
    → old ++ vias_from order pins column before (done ∷ columns) ≡ whole → new ++ vias_from order pins next (after pins column done before) columns ≡ whole
vias-more order pins column next before done columns old new whole one added so_far =
    (λ i. added i ++ vias_from order pins (one i) (after pins column done before) columns)
    ∙ append_assoc old (column_vias order column (entered pins column done before) (after pins column done before) (pin_verticals pins column done) done)
    (vias_from order pins (suc column) (after pins column done before) columns)
    ∙ so_far
