use Rattle.std.proofs.Common.{◌∙◌, List, ℕ, ap, arith, filter, leb}
use Rattle.greedy_column.proofs.AscentLaws.{filter-filter, none_within}
use Rattle.greedy_column.proofs.free_lines.lines_within.Goals as goal

pub returns : goal.returns
returns c =
    let low = c.args.window.low in
    let high = c.args.window.high in
    c.up_to_line.ensures ∙ ap (λ (l : List ℕ). filter (λ line. leb line high) l) c.from_line.ensures.from
    ∙ filter-filter (λ line. leb low line) (λ line. leb line high) c.args.lines.now

pub returns-then-window : goal.returns-then-window
returns-then-window c = none_within c.args.window c.args.lines.now (omega arith)
