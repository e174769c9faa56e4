use Rattle.std.proofs.Common.{◌≡◌, ◌<◌, ◌+◌, ◌++◌, ◌∷◌, [], ◌∙◌, List, ℕ, length, get_or, ap, rules}
use Rattle.greedy_column.proofs.ReachLaws.{lengthened_more, none_added}
use Rattle.greedy_column.proofs.table.reach.Goals as goal

pub entries-preserved : goal.entries-preserved
entries-preserved c =
    let was : List ℕ = c.entries.table.items in
    let pushed : c.push.new.self.items ≡ was ++ c.args.value ∷ [] = search rules in
    let short : length was < c.args.number + 1 = search rules in
    record {
      longer = rw pushed (lengthened_more was (c.args.number + 1) c.args.value short ∙ c.entries.invariant.longer);
      alike = λ none k. ap (λ (l : List ℕ). get_or l k 0) pushed ∙ none_added was c.args.value k none ∙ c.entries.invariant.alike none k;
    }
