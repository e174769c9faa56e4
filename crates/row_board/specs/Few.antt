-- one to four numbers, with the last of them in place of those that are lacking
use Rattle.std.specs.Prelude.{◌==◌, ℕ, ◌+◌, ◌-◌, ◌*◌, List, [], ◌∷◌, if◌then◌else◌}
use Rattle.row_board.specs.declared.few.Few.{Few}

-- four numbers for one to four of a list
abbrev pub few_of : List ℕ → Few
few_of [] = record { first = 0; second = 0; third = 0; fourth = 0; lacking = 0 }
few_of (a ∷ []) = record { first = a; second = a; third = a; fourth = a; lacking = 3 }
few_of (a ∷ b ∷ []) = record { first = a; second = b; third = b; fourth = b; lacking = 2 }
few_of (a ∷ b ∷ c ∷ []) = record { first = a; second = b; third = c; fourth = c; lacking = 1 }
few_of (a ∷ b ∷ c ∷ d ∷ more) = record { first = a; second = b; third = c; fourth = d; lacking = 0 }

-- 1 where two numbers are the same
abbrev pub same : ℕ → ℕ → ℕ
same a b = if a == b then 1 else 0

-- how often a number stands among them, without those that the last stands for
abbrev pub few_count : Few → ℕ → ℕ
few_count f n = same f.first n + same f.second n + same f.third n + same f.fourth n - f.lacking * same f.fourth n
