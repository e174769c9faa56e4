-- what a shelf or a sink tells of its bytes, before a call and after it
use Rattle.std.specs.Prelude.{◌≡◌, ◌⊎◌, ◌≤◌, ◌+◌, ◌++◌, ◌↔◌, ℕ, List, [], length, take, drop, Option, Some, None}

-- what the first tells, the second says too
abbrev pub Refines : Option (List ℕ) → Option (List ℕ) → Type 0
Refines told said = (bytes : List ℕ) → told ≡ Some bytes → said ≡ Some bytes

-- a file that is told after a failed `begin` is empty, or holds what it was told to hold before
abbrev pub Emptied : Option (List ℕ) → Option (List ℕ) → Type 0
Emptied before after = (bytes : List ℕ) → after ≡ Some bytes → (bytes ≡ []) ⊎ (before ≡ Some bytes)

-- a told file with more bytes at its end
abbrev pub appended : Option (List ℕ) → List ℕ → Option (List ℕ)
appended (Some bytes) piece = Some (bytes ++ piece)
appended None piece = None

-- a file that is told afterwards holds what it was told to hold before, and then a front of these bytes
abbrev pub EndsWithin : Option (List ℕ) → List ℕ → Option (List ℕ) → Type 0
EndsWithin before bytes after =
    (held : List ℕ) → after ≡ Some held → (k : ℕ) × (appended before (take k bytes) ≡ Some held)

-- the first n bytes of `into` are those of the file from place `at` on, and n is 0 exactly at or past its end
pub record Gives (bytes : List ℕ) (at n : ℕ) (into : List ℕ) : Type 0 where
  pub rest : drop at bytes ≡ take n into ++ drop (at + n) bytes
  pub ends : (n ≡ 0) ↔ (length bytes ≤ at)
