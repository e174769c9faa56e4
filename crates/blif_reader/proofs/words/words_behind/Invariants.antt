use Rattle.std.proofs.Common.{◌≡◌, ◌++◌, ◌≤◌, length}
use Rattle.blif_reader.specs.Tokens.{tokens}
use Rattle.blif_reader.specs.Words.{words}
use Rattle.blif_reader.proofs.words.words_behind.Given as goal

abbrev pub invariant-loop-word : goal.invariant-loop-word
invariant-loop-word l = record {
  items : l.found.items ++ (words l.size (tokens l.rest)).0 ≡ l.fn.before.items ++ (words l.size (tokens l.bytes)).0;
  rest : (words l.size (tokens l.rest)).1 ≡ (words l.size (tokens l.bytes)).1;
  shorter : length l.rest ≤ length l.bytes;
}

abbrev pub decreases-loop-word : goal.decreases-loop-word
decreases-loop-word l = length l.rest
