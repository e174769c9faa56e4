-- groups of numbers, their firsts, and members that differ from these
use Rattle.std.specs.Prelude.{ℕ, zero, suc, ◌==◌, List, [], ◌++◌, length, map, Bool, not, ◌&&◌, slice_get, slice_index}
use Rattle.std.specs.List.{position_or_len, zip}
use Rattle.list_facts.specs.Lists.{list_there}
use Rattle.rule_check.specs.Failing.{failing}

-- the place of the first member of a group
abbrev pub first_of : List ℕ → ℕ → ℕ
first_of groups group = position_or_len (λ g. group == g) groups

-- that of each member's group
abbrev pub firsts_of : List ℕ → List ℕ
firsts_of groups = map (first_of groups) groups

-- whether a member, given by its first and its kind, has this first and another kind
abbrev pub differs_from : ℕ → ℕ → ℕ × ℕ → Bool
differs_from first kind member = member.0 == first && not (member.1 == kind)

-- the members that have this first and another kind than it
abbrev pub differing : List ℕ → List ℕ → ℕ → List ℕ
differing firsts kinds k = failing (differs_from k (slice_index kinds k)) (zip firsts kinds)

-- so many members, each with those that have it as their first and are of another kind
abbrev pub pairs_below : ℕ → List ℕ → List ℕ → List (ℕ × ℕ)
pairs_below zero firsts kinds = []
pairs_below (suc k) firsts kinds = pairs_below k firsts kinds ++ map (λ later. (k, later)) (differing firsts kinds k)

abbrev pub differing_pairs : List ℕ → List ℕ → List (ℕ × ℕ)
differing_pairs firsts kinds = pairs_below (length firsts) firsts kinds

-- so many lists, each with its number before its members
abbrev pub pairs_in : ℕ → List (List ℕ) → List (ℕ × ℕ)
pairs_in zero lists = []
pairs_in (suc k) lists = pairs_in k lists ++ map (λ later. (k, later)) (list_there (slice_get lists k))
