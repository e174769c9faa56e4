-- points that may refuse, and limits
use Rattle.std.specs.Prelude.{Option, Some, None, Result, Ok, Err}
use Rattle.command_ends.specs.declared.refusal.Refusal.{Refusal}

-- a point that may refuse, and what comes after it
infixl 10 ◌>>=◌
abbrev pub ◌>>=◌ : {A B : Type 0} → Result A Refusal → (A → Result B Refusal) → Result B Refusal
◌>>=◌ (Ok a) next = next a
◌>>=◌ (Err refusal) next = Err refusal

-- what comes next, unless there is a refusal
abbrev pub unless : {A : Type 0} → Option Refusal → Result A Refusal → Result A Refusal
unless None next = next
unless (Some refusal) next = Err refusal

-- the first of two refusals
abbrev pub or_refusal : Option Refusal → Option Refusal → Option Refusal
or_refusal None next = next
or_refusal (Some refusal) next = Some refusal

-- what is said of files, as far as they are told, and what comes after it
abbrev pub told_then : {A B : Type 0} → Option (Result A Refusal) → (A → Option (Result B Refusal)) → Option (Result B Refusal)
told_then None next = None
told_then (Some (Ok a)) next = next a
told_then (Some (Err refusal)) next = Some (Err refusal)
