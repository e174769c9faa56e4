-- answers that may be a fault, and how the program's answers agree with them
use Rattle.std.specs.Prelude.{◌≡◌, ℕ, ◌+◌, List, [], ◌∷◌, Option, None, Some, Result, Ok, Err}
use Rattle.netlist_core.specs.declared.fault.DesignFault.{DesignFault}
use Rattle.netlist_core.specs.declared.fault.DesignFault.TheVariants as faults

-- a step that may be refused, and the step after it
infixl 10 ◌>>=◌
abbrev pub ◌>>=◌ : {A B : Type 0} → Result A DesignFault → (A → Result B DesignFault) → Result B DesignFault
◌>>=◌ (Ok a) next = next a
◌>>=◌ (Err fault) next = Err fault

-- what comes next, unless there is a fault
abbrev pub unless : {A : Type 0} → Option DesignFault → Result A DesignFault → Result A DesignFault
unless None next = next
unless (Some fault) next = Err fault

-- a value, or the fault of its lack
abbrev pub found : {A : Type 0} → DesignFault → Option A → Result A DesignFault
found fault None = Err fault
found fault (Some a) = Ok a

-- the first of two faults
abbrev pub or_fault : Option DesignFault → Option DesignFault → Option DesignFault
or_fault None next = next
or_fault (Some fault) next = Some fault

-- what each item gives, or the first fault
unfoldable pub each : {A B : Type 0} → (A → Result B DesignFault) → List A → Result (List B) DesignFault
each f [] = Ok []
each f (x ∷ xs) = do
  first ← f x
  others ← each f xs
  Ok (first ∷ others)

-- the first fault of items that are numbered from n on
abbrev pub first_fault : {A : Type 0} → (ℕ → A → Option DesignFault) → ℕ → List A → Option DesignFault
first_fault f n [] = None
first_fault f n (x ∷ xs) = or_fault (f n x) (first_fault f (n + 1) xs)

-- what a function answers, seen by view, is what is said, unless memory ran out
abbrev pub Agrees : {X Y : Type 0} → (X → Y) → Result X DesignFault → Result Y DesignFault → Type 0
Agrees view (Ok x) said = said ≡ Ok (view x)
Agrees view (Err faults.Memory) said = Unit {0}
Agrees view (Err fault) said = said ≡ Err fault
