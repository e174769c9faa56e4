-- what a function answers, beside what is said
use Rattle.std.specs.Prelude.{◌≡◌, Option, Some, None, IfSome, Result, Ok, Err}
use Rattle.read_base.specs.declared.stop.Flaw.{Flaw}
use Rattle.read_base.specs.declared.stop.Stop.{Stop}
use Rattle.read_base.specs.declared.stop.Stop.TheVariants.{At, Memory}

-- what an error tells is what is said; an error that tells nothing is want of memory, which may come at any time
abbrev pub Fails : {Y E F : Type 0} → (E → Option F) → E → Result Y F → Type 0
Fails tells e said = IfSome (tells e) (λ f. said ≡ Err f)

-- what a function answers, seen by view, is what is said, both ways, unless memory ran out
abbrev pub AnswersAs : {X Y E F : Type 0} → (X → Y) → (E → Option F) → Result X E → Result Y F → Type 0
AnswersAs view tells (Ok x) said = said ≡ Ok (view x)
AnswersAs view tells (Err e) said = Fails tells e said

-- the flaw for which a reading ended early, and none for want of memory
abbrev pub flaw_of : {K : Type 0} → Stop K → Option (Flaw K)
flaw_of (At flaw) = Some flaw
flaw_of Memory = None

-- a function that reads answers what is said
abbrev pub Answers : {X Y K : Type 0} → (X → Y) → Result X (Stop K) → Result Y (Flaw K) → Type 0
Answers view result said = AnswersAs view flaw_of result said
