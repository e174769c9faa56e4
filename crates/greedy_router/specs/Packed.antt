-- lists that lie one behind another
use Rattle.std.specs.Prelude.{◌≡◌, ◌<◌, ◌≤◌, ◌^◌, ℕ, zero, suc, List, [], ◌∷◌, get_or, slice_range}

-- lists that lie one behind another from a place on, by where each of them ends
abbrev pub lists_in : {A : Type 0} → ℕ → List ℕ → List A → List (List A)
lists_in from [] items = []
lists_in from (end ∷ ends) items = slice_range items from end ∷ lists_in end ends items

-- lists that begin at a place end one behind another, the last of them where all items do
abbrev pub AreEnds : ℕ → List ℕ → ℕ → Type 0
AreEnds from [] all = from ≡ all
AreEnds from (end ∷ ends) all = (from ≤ end) × AreEnds end ends all

-- where one of them begins
abbrev pub begin_of : ℕ → List ℕ → ℕ → ℕ
begin_of from ends zero = from
begin_of from ends (suc number) = get_or ends number 0

-- so they end, and four bytes tell where
pub record IsPacked (ends : List ℕ) (all : ℕ) : Type 0 where
  pub cut : AreEnds 0 ends all
  pub few : all < 2 ^ 32
