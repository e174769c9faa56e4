-- an extreme of numbers: the least or the greatest of them, with how many stand there
use Rattle.std.specs.Prelude.{◌≡◌, ◌==◌, ℕ, ◌+◌, ◌-◌, ◌<◌, List, [], ◌∷◌, Bool, false, if◌then◌else◌, length, nat_lt, fold, max, min}
use Rattle.std.specs.List.{AllByRecursion, count_by}
use Rattle.row_board.specs.declared.extreme.Extreme.{Extreme}
use Rattle.row_board.specs.declared.extreme.Side.{Side}
use Rattle.row_board.specs.declared.extreme.Side.TheVariants.{Low, High}

-- whether a number is farther out than another on a side
abbrev pub is_beyond : Side → ℕ → ℕ → Bool
is_beyond Low a b = nat_lt a b
is_beyond High a b = nat_lt b a

-- an extreme of numbers: none of them is beyond it, and it tells how many stand there, which are some where there are any numbers
pub record IsExtreme (side : Side) (numbers : List ℕ) (extreme : Extreme) : Type 0 where
  pub within : AllByRecursion (λ (n : ℕ). is_beyond side n extreme.at ≡ false) numbers
  pub count : extreme.count ≡ count_by (λ (n : ℕ). n == extreme.at) numbers
  pub some : 0 < length numbers → 0 < extreme.count

-- an extreme with one number more
abbrev pub extreme_with : Side → Extreme → ℕ → Extreme
extreme_with side extreme n =
    if is_beyond side n extreme.at then record { at = n; count = 1 } else if n == extreme.at then record { at = extreme.at; count = extreme.count + 1 } else extreme

-- and with one fewer, which may leave none there
abbrev pub extreme_without : Extreme → ℕ → Extreme
extreme_without extreme n = if n == extreme.at then record { at = extreme.at; count = extreme.count - 1 } else extreme

-- the number that is farthest out on a side, 0 where there are none
abbrev pub farthest : Side → List ℕ → ℕ
farthest side [] = 0
farthest Low (n ∷ ns) = fold min n ns
farthest High (n ∷ ns) = fold max n ns

-- the extreme of numbers on a side
abbrev pub extreme_of : Side → List ℕ → Extreme
extreme_of side numbers = record { at = farthest side numbers; count = count_by (λ (n : ℕ). n == farthest side numbers) numbers }

-- the side across
abbrev pub across : Side → Side
across Low = High
across High = Low

-- 1 where a number stands at an extreme, and where it does so alone
abbrev pub at_end : Extreme → ℕ → ℕ
at_end extreme n = if n == extreme.at then 1 else 0

abbrev pub alone_at_end : Extreme → ℕ → ℕ
alone_at_end extreme n = if extreme.count == 1 then at_end extreme n else 0
