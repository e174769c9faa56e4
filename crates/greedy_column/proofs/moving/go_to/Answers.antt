use Rattle.std.proofs.Common.{◌≡◌, ◌++◌, ◌∷◌, [], ◌∙◌, ◌-◌, ap, get_or, rules, List, ℕ}
use Rattle.greedy_column.specs.declared.span.Span.{Span}
use Rattle.greedy_column.specs.Lines.{id_on}
use Rattle.greedy_column.specs.Replay.{moved}
use Rattle.greedy_column.specs.Moving.{piece_between}
use Rattle.greedy_column.proofs.moving.go_to.Goals as goal

pub returns-clause-spans : goal.returns-clause-spans
returns-clause-spans c =
    let spans = c.args.spans.now.items in
    let pushed : c.push.new.self.items ≡ spans ++ c.piece_between.result ∷ [] = search rules in
    pushed ∙ ap (λ (s : Span). spans ++ s ∷ []) (c.piece_between.ensures ∙ ap (λ n. piece_between n c.args.line c.args.target) c.net_on.ensures)

pub returns-clause-kept : goal.returns-clause-kept
returns-clause-kept c =
    let kept = c.args.kept.now in
    let same : (line : ℕ) → id_on kept line ≡ id_on c.args.tracks.now line = λ line. ap (λ (l : List ℕ). get_or l (line - 1) 0) c.requires in
    c.carry.ensures ∙ (λ i. moved ((same c.args.line i, same c.args.target i) ∷ []) kept)
