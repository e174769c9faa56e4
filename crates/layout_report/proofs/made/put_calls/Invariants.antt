use Rattle.std.proofs.Common.{◌≡◌, ◌*◌, ◌++◌}
use Rattle.layout_report.specs.MadeText.{calls_text}
use Rattle.layout_report.proofs.made.put_calls.Given as goal

-- the first i instances are put, and two words for each are drawn
abbrev pub invariant-loop-i : goal.invariant-loop-i
invariant-loop-i l = record {
  text : l.text.items ≡ l.fn.text.items ++ calls_text l.seed l.n l.i;
  seed : l.words.seed ≡ l.seed;
  number : l.words.number ≡ 2 * l.i;
}
