use Rattle.std.proofs.Common.{◌≡◌, ◌<◌, ℕ, vec_len, get_or, eqb, take, count_by}
use Rattle.channel_model.proofs.spans.counts.Given as goal

abbrev pub invariant-loop-number : goal.invariant-loop-number
invariant-loop-number l = record {
  long : vec_len l.counts ≡ l.bound;
  counted : (k : ℕ) → k < l.bound → get_or l.counts.items k 0 ≡ count_by (λ n. eqb n k) (take l.number-index l.numbers);
}
