use Rattle.std.proofs.Common.{rules, ◌≡◌, ◌+◌, ◌*◌, ◌%◌, ◌++◌, ℕ, List, sym, append_assoc, append-nil, add-one, arith}
use Rattle.layout_report.specs.MadeText.{call_text, calls_text}
use Rattle.layout_report.specs.Words.{word}
use Rattle.layout_report.proofs.made.put_calls.Goals as goal

none-yet : (text : List ℕ) (seed n : ℕ) → text ≡ text ++ calls_text seed n 0
unfolding calls_text
none-yet text seed n = sym (append-nil text)

-- the text of one instance more
one-more : (start before after : List ℕ) (seed n i first second : ℕ) → before ≡ start ++ calls_text seed n i
    → first ≡ word seed (2 * i) → second ≡ word seed (2 * i + 1) → after ≡ before ++ call_text i (first % n) (second % n)
    → after ≡ start ++ calls_text seed n (i + 1)
unfolding calls_text
one-more start before after seed n i first second so_far is_first is_second put =
    rw (add-one, put, so_far, is_first, is_second) (append_assoc start (calls_text seed n i) _)

pub loop-i-init : goal.loop-i-init
loop-i-init c = record {
  text = none-yet c.args.text.now.items c.args.seed c.args.n;
  seed = c.new-words.ensures.seed;
  number = c.new-words.ensures.number;
}

pub loop-i-preserved : goal.loop-i-preserved
loop-i-preserved c = record {
  text = one-more _ _ _ _ _ _ c.next.result c.next-in-loop-i.result c.loop-i.invariant.text (search rules) (search rules) c.in_ok-put_call.ensures;
  seed = search rules;
  number = search (rules, arith);
}
