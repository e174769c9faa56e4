-- what the choices of each style answer
use Rattle.std.specs.Prelude.{◌≡◌, ◌<◌, ◌≤◌, ◌==◌, nat_le, if◌then◌else◌, ℕ, zero, suc, Bool, true, false, List, [], ◌∷◌, slice_get, Some}
use Rattle.std.specs.List.{list_any}
use Rattle.choose_core.specs.declared.candidate.Ask.{Ask}
use Rattle.choose_core.specs.declared.candidate.Ask.TheVariants.{Enter, Join, Keep, Move}
use Rattle.choose_core.specs.declared.candidate.Candidate.{Candidate}
use Rattle.choose_core.specs.declared.candidate.Next.{Next}
use Rattle.choose_core.specs.declared.candidate.Next.TheVariants.{Ends, Top, Bottom, Both}

-- what candidates are compared by
abbrev pub gap_of : Candidate → ℕ
gap_of c = c.gap

abbrev pub track_of : Candidate → ℕ
track_of c = c.track

abbrev pub pull_of : Candidate → ℕ
pull_of c = c.pull

-- a place in a list, at which stands the first of the candidates with the least key
pub record IsFirstLeast (key : Candidate → ℕ) (list : List Candidate) (place : ℕ) : Type 0 where
  pub chosen : Candidate
  pub there : slice_get list place ≡ Some chosen
  pub least : (other : ℕ) (c : Candidate) → slice_get list other ≡ Some c → key chosen ≤ key c
  pub first : (other : ℕ) (c : Candidate) → slice_get list other ≡ Some c → other < place → key chosen < key c

-- a place in a list, at which stands the last of the candidates with the greatest key
pub record IsLastGreatest (key : Candidate → ℕ) (list : List Candidate) (place : ℕ) : Type 0 where
  pub chosen : Candidate
  pub there : slice_get list place ≡ Some chosen
  pub greatest : (other : ℕ) (c : Candidate) → slice_get list other ≡ Some c → key c ≤ key chosen
  pub last : (other : ℕ) (c : Candidate) → slice_get list other ≡ Some c → place < other → key c < key chosen

-- where a kept track goes on, by where its net has its next pins: towards them, or as it is
abbrev pub LeansTo : Next → List Candidate → ℕ → Type 0
LeansTo Top list place = IsLastGreatest track_of list place
LeansTo Bottom list place = IsFirstLeast track_of list place
LeansTo Both list place = place ≡ 0
LeansTo Ends list place = place ≡ 0

abbrev pub LeansBy : Ask → Next → List Candidate → ℕ → Type 0
LeansBy Move next list place = LeansTo next list place
LeansBy Enter next list place = IsFirstLeast gap_of list place
LeansBy Join next list place = IsFirstLeast gap_of list place
LeansBy Keep next list place = IsFirstLeast gap_of list place

-- what `lean` answers: a list is of the question of its first candidate
abbrev pub IsLean : List Candidate → ℕ → Type 0
IsLean [] place = ⊥
IsLean (c ∷ list) place = LeansBy c.ask c.next (c ∷ list) place

-- a place in a list, at which stands the first of the candidates with the greatest key among those that pass a test
pub record IsFirstGreatest (passes : Candidate → Bool) (key : Candidate → ℕ) (list : List Candidate) (place : ℕ) : Type 0 where
  pub chosen : Candidate
  pub there : slice_get list place ≡ Some chosen
  pub passed : passes chosen ≡ true
  pub greatest : (other : ℕ) (c : Candidate) → slice_get list other ≡ Some c → passes c ≡ true → key c ≤ key chosen
  pub first : (other : ℕ) (c : Candidate) → slice_get list other ≡ Some c → passes c ≡ true → other < place → key c < key chosen

-- a candidate is a track that the net holds already
abbrev pub is_own : Candidate → Bool
is_own c = c.pull == 1

-- a pin enters its net's own track, the farthest of them, and where there is none the nearest track
abbrev pub EntersDeftly : Bool → List Candidate → ℕ → Type 0
EntersDeftly true list place = IsFirstGreatest is_own gap_of list place
EntersDeftly false list place = IsFirstLeast gap_of list place

-- a track of a split net goes on nearest to another track of the net, and stays where that is less than two tracks off
pub record ComesNearer (list : List Candidate) (place : ℕ) : Type 0 where
  pub nearest : ℕ
  pub chosen : Candidate
  pub there : slice_get list nearest ≡ Some chosen
  pub is_nearest : IsFirstLeast pull_of list nearest
  pub goes : place ≡ (if nat_le 2 chosen.gap then nearest else 0)

-- where a kept track goes on, by its net's pull: to the net's other tracks, or where it has none as `lean` does
abbrev pub MovesDeftly : ℕ → Next → List Candidate → ℕ → Type 0
MovesDeftly zero next list place = LeansTo next list place
MovesDeftly (suc pull) next list place = ComesNearer list place

abbrev pub DeftBy : Candidate → Ask → List Candidate → ℕ → Type 0
DeftBy c Enter list place = EntersDeftly (list_any is_own list) list place
DeftBy c Join list place = IsFirstGreatest (λ _. true) gap_of list place
DeftBy c Keep list place = IsFirstLeast gap_of list place
DeftBy c Move list place = MovesDeftly c.pull c.next list place

-- what `deft` answers: a list is of the question of its first candidate
abbrev pub IsDeft : List Candidate → ℕ → Type 0
IsDeft [] place = ⊥
IsDeft (c ∷ list) place = DeftBy c c.ask (c ∷ list) place
