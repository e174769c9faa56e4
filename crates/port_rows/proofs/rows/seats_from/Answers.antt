use Rattle.std.proofs.Common.{◌+◌, ◌++◌, List, [], ◌∷◌, ap, refl, sym, ◌∙◌}
use Rattle.std.proofs.lemmas.List.FromFn.{map-range_with_len_more}
use Rattle.row_model.specs.Start.{upright}
use Rattle.row_model.specs.declared.rows.Seat.{Seat}
use Rattle.port_rows.proofs.rows.seats_from.Goals as goal

pub loop-n-preserved : goal.loop-n-preserved
loop-n-preserved c =
    c.in_ok-push.ensures.items ∙ ap (λ (l : List Seat). l ++ upright (c.args.first + c.loop-n.n) ∷ []) c.loop-n.invariant
    ∙ sym (map-range_with_len_more upright c.args.first c.loop-n.n (c.args.first + c.loop-n.n) refl)
