-- what a function answers, and what it finds in files
use Rattle.std.specs.Prelude.{◌≡◌, Option, Some, None, Result, Ok, Err}
use Rattle.read_base.specs.Answers.{AnswersAs, Fails}
use Rattle.command_ends.specs.declared.refusal.Refusal.{Refusal}
use Rattle.command_ends.specs.declared.refusal.Refusal.TheVariants.{Memory}
use Rattle.command_ends.specs.declared.stop.Stop.{Stop}
use Rattle.command_ends.specs.declared.stop.Stop.TheVariants.{Refused, ReadFault, WriteFault}

-- what a refusal tells, and nothing for want of memory
abbrev pub told_of : Refusal → Option Refusal
told_of Memory = None
told_of refusal = Some refusal

-- what a function answers, seen by view, is what is said, both ways, unless memory ran out
abbrev pub Answers : {X Y : Type 0} → (X → Y) → Result X Refusal → Result Y Refusal → Type 0
Answers view result said = AnswersAs view told_of result said

-- the same of a function that also reads, unless reading failed; it does not write
abbrev pub Finds : {X Y : Type 0} → (X → Y) → Result X Stop → Result Y Refusal → Type 0
Finds view (Ok x) said = said ≡ Ok (view x)
Finds view (Err (Refused refusal)) said = Fails told_of refusal said
Finds view (Err ReadFault) said = Unit {0}
Finds view (Err WriteFault) said = ⊥
