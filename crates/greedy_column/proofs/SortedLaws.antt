use Rattle.std.proofs.Common.{◌≡◌, eqb, ℕ, List, [], map, sym, subst, Contains}
use Rattle.std.proofs.lemmas.List.Filters.{dedup_is}
use Rattle.std.proofs.lemmas.List.Kept.{Contains-dedup_nat, Contains-from_dedup}
use Rattle.std.proofs.lemmas.List.Sorted.{Contains-permutation, IsPermutation-sym}
use Rattle.std.proofs.lemmas.Map.Keys.{IsStrictlyIncreasing-dedup}
use Rattle.std.specs.List.{dedup}
use Rattle.std.specs.List.Retain.{IsFiltered, DiffersFromLast}
use Rattle.std.specs.List.Sorted.{IsPermutation, IsSorted}
use Rattle.std.specs.Ordering.{nat_cmp}
use Rattle.greedy_column.specs.declared.column.Track.{Track}
use Rattle.greedy_column.specs.Lines.{id_on}
use Rattle.greedy_column.specs.Follows.{AreEnded}

-- ids that are sorted and told once each
pub AreEnded-from_sort : (tracks : List Track) (ending found sorted ended : List ℕ) → found ≡ map (id_on tracks) ending → IsPermutation found sorted
    → IsSorted nat_cmp sorted → IsFiltered (DiffersFromLast eqb) [] sorted ended → AreEnded tracks ending ended
AreEnded-from_sort tracks ending found sorted ended is permuted rising filtered =
    let once : ended ≡ dedup eqb sorted = dedup_is eqb sorted ended filtered in
    rw once (record {
      ascending = IsStrictlyIncreasing-dedup sorted rising;
      members = λ id. (
        (λ member. subst (λ l. Contains l id) is (Contains-permutation sorted found id (IsPermutation-sym found sorted permuted) (Contains-from_dedup eqb sorted id member))),
        (λ member. Contains-dedup_nat sorted id (Contains-permutation found sorted id permuted (subst (λ l. Contains l id) (sym is) member))),
      );
    })
