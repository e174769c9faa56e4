-- refusals, and items that are read one by one
use Rattle.std.specs.Prelude.{◌≡◌, ℕ, List, [], ◌∷◌, Option, None, Some, Result, Ok, Err, IfSome}
use Rattle.read_base.specs.Answers.{AnswersAs}
use Rattle.read_base.specs.Steps.{◌>>=◌}
use Rattle.netlist_import.specs.declared.fault.ImportKind.{ImportKind}
use Rattle.netlist_import.specs.declared.fault.ImportFlaw.{ImportFlaw}
use Rattle.netlist_import.specs.declared.fault.ImportFault.{ImportFault}
use Rattle.netlist_import.specs.declared.fault.ImportFault.TheVariants.{Bad, Memory}

-- the flaw of this kind, word and place
abbrev pub flaw : ImportKind → List ℕ → ℕ → ImportFlaw
flaw kind name at = record { kind = kind; name = name; at = at }

-- what is refused for it
abbrev pub refused : {A : Type 0} → ImportKind → List ℕ → ℕ → Result A ImportFlaw
refused kind name at = Err (flaw kind name at)

-- what a fault tells, and nothing for want of memory
abbrev pub told_of : ImportFault → Option ImportFlaw
told_of (Bad f) = Some f
told_of Memory = None

-- a fault that tells this flaw, or nothing
abbrev pub Refuses : ImportFault → ImportKind → List ℕ → ℕ → Type 0
Refuses fault kind name at = IfSome (told_of fault) (λ f. f ≡ flaw kind name at)

-- a function that makes something of a netlist answers what is said
abbrev pub Answers : {X Y : Type 0} → (X → Y) → Result X ImportFault → Result Y ImportFlaw → Type 0
Answers view result said = AnswersAs view told_of result said

-- what each item gives, or the first flaw
unfoldable pub each : {A B : Type 0} → (A → Result B ImportFlaw) → List A → Result (List B) ImportFlaw
each f [] = Ok []
each f (x ∷ xs) = do
  first ← f x
  others ← each f xs
  Ok (first ∷ others)
