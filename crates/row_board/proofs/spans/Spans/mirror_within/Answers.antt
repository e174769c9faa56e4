use Rattle.std.proofs.Common.{List, ap, ◌∙◌}
use Rattle.row_model.specs.Changes.{mirrored}
use Rattle.row_board.specs.WeighedRows.{WeighedRows}
use Rattle.row_model.specs.declared.rows.Seat.{Seat}
use Rattle.row_model.proofs.TwiceLaws.{mirror-twice}
use Rattle.row_board.proofs.spans.Spans.mirror_within.Goals as goal

pub returns-clause-left : goal.returns-clause-left
returns-clause-left c =
    c.mirror-2.ensures ∙ ap (λ (v : WeighedRows). record { design = v.design; rows = mirrored c.args.a v.rows; weights = v.weights }) c.mirror.ensures
    ∙ ap (λ (l : List (List Seat)). record { design = c.args.self.now.design; rows = l; weights = c.args.self.now.weights }) (mirror-twice c.args.self.now.rows c.args.a)
