use Rattle.std.proofs.Common.{◌∙◌, List, ℕ, ap, map}
use Rattle.std.proofs.lemmas.Result.{IfOk-weaker}
use Rattle.greedy_column.specs.Lines.{id_on}
use Rattle.greedy_column.specs.Replay.{freed}
use Rattle.greedy_column.proofs.FreedLaws.{freed-told}
use Rattle.greedy_column.proofs.going_on.Ends.kept_of.Goals as goal

pub returns : goal.returns
returns c =
    let tracks = c.args.tracks.now in
    let ends = c.args.self.now in
    IfOk-weaker c.freed.result _ _ (λ kept is.
    is ∙ ap (λ (l : List ℕ). freed (map (id_on tracks) l) tracks) c.deref.ensures.value ∙ freed-told tracks ends.lines.items ends.ids.items c.requires) c.freed.ensures
