use Rattle.row_model.proofs.changes.mirror.Goals as goal
use Rattle.std.proofs.Common.{ap, sym, ◌∙◌, subst, length, map}
use Rattle.std.proofs.lemmas.List.{length-map}
use Rattle.row_model.specs.Changes.{turned}
use Rattle.row_model.specs.Rows.{AreRows}
use Rattle.row_model.proofs.SwapLaws.{turned-rows}
use Rattle.std_laws.proofs.Slices.{overwritten-same}

pub invariant_of-rows : goal.invariant_of-rows
invariant_of-rows c =
    let rows = c.rows.inside.rows in
    let made = c.turn_all.ensures ∙ ap (map (map (turned c.args.a))) c.items_mut.ensures.value in
    subst AreRows (sym (overwritten-same c.turn_all.new.rows rows (ap length made ∙ length-map rows (map (turned c.args.a))) ∙ made)) (turned-rows rows c.args.a c.rows.invariant)
