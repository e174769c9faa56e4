use Rattle.std.proofs.Common.{◌++◌, ap, append-nil, append_assoc, arith, sym, ◌∙◌}
use Rattle.blif_reader.proofs.RunLaws.{words-end, words-on}
use Rattle.blif_reader.proofs.words.words_behind.Goals as goal

pub loop-word-preserved : goal.loop-word-preserved
loop-word-preserved c =
    let step = words-on c.args.size _ _ _ c.in-Ok.ensures.gives in
    record {
      items = rw (c.in_ok-push.ensures.items, c.in_ok-worded.ensures) (append_assoc c.loop-word.found.items _ _ ∙ ap (λ x. c.loop-word.found.items ++ x.0) (sym step) ∙ c.loop-word.invariant.items);
      rest = ap (λ x. x.1) (sym step) ∙ c.loop-word.invariant.rest;
      shorter = omega (arith, c.in-Ok.ensures.shorter, c.loop-word.invariant.shorter);
    }

pub returns-clause-items : goal.returns-clause-items
returns-clause-items c =
    let end = words-end c.args.size _ _ _ c.in_default.ensures.gives c.in-Ok-end_at.ensures.gives in
    sym (append-nil c.loop-word.found.items) ∙ ap (λ x. c.loop-word.found.items ++ x.0) (sym end) ∙ c.loop-word.invariant.items

pub returns-clause-rest : goal.returns-clause-rest
returns-clause-rest c =
    let end = words-end c.args.size _ _ _ c.in_default.ensures.gives c.in-Ok-end_at.ensures.gives in
    ap (λ x. x.1) (sym end) ∙ c.loop-word.invariant.rest
