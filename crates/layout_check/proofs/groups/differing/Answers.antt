use Rattle.std.proofs.Common.{◌∙◌, ℕ, List, Some, eqb, get_or, ap, sym, arith}
use Rattle.std.specs.Option.{option_map}
use Rattle.list_facts.specs.Lists.{with_item}
use Rattle.layout_check.proofs.Tables.{all-rows, alike-step, differ-step}
use Rattle.layout_check.proofs.groups.differing.Goals as goal

pub loop-k-preserved-then-kinds-k : goal.loop-k-preserved-then-kinds-k
loop-k-preserved-then-kinds-k c = λ n within.
    c.loop-k.invariant n within
    ∙ ap (λ (l : List ℕ). Some l) (sym (alike-step c.args.firsts.now c.args.kinds.now c.loop-k.k n c.requires.each c.loop-k-test.true c.if-kinds-k.true))

pub loop-k-preserved : goal.loop-k-preserved
loop-k-preserved c = λ n within.
    c.in_ok-push.ensures n
    ∙ ap (option_map (with_item (eqb (get_or c.args.firsts.now c.loop-k.k 0) n) c.loop-k.k)) (c.loop-k.invariant n within)
    ∙ ap (λ (l : List ℕ). Some l) (sym (differ-step c.args.firsts.now c.args.kinds.now c.loop-k.k n c.requires.each c.loop-k-test.true c.if-kinds-k.false))

pub returns : goal.returns
returns c = λ k within.
    c.loop-k.invariant k within
    ∙ ap (λ (l : List ℕ). Some l) (all-rows c.args.firsts.now c.args.kinds.now k c.loop-k.k c.requires.each (omega arith))
