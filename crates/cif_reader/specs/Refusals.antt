-- how a program answers that refuses commands
use Rattle.std.specs.Prelude.{Option, Some, None, Result, Ok, Err, IsOkAnd}
use Rattle.read_base.specs.Answers.{AnswersAs, Fails}
use Rattle.cif_reader.specs.declared.fault.ExpandKind.{ExpandKind}
use Rattle.cif_reader.specs.declared.refusal.ExpandStop.{ExpandStop}
use Rattle.cif_reader.specs.declared.refusal.ExpandStop.TheVariants.{Because, Memory}

-- why a command is refused, and nothing for want of memory
abbrev pub kind_of : ExpandStop → Option ExpandKind
kind_of (Because kind) = Some kind
kind_of Memory = None

-- a program that refuses commands answers what is said
abbrev pub Answers : {X Y : Type 0} → (X → Y) → Result X ExpandStop → Result Y ExpandKind → Type 0
Answers view result said = AnswersAs view kind_of result said

-- the same of a program that changes a value: where it answers Ok, this holds of what is said
abbrev pub Takes : {X Y : Type 0} → Result X ExpandStop → Result Y ExpandKind → (Y → Type 0) → Type 0
Takes (Ok x) said P = IsOkAnd said P
Takes (Err refusal) said P = Fails kind_of refusal said
