-- what a call that only reads does on a shelf, and what it says of a text
use Rattle.std.specs.Prelude.{◌≡◌, ◌≢◌, ℕ, List, Option, Some, Result, Ok, Err, IfErr}
use Rattle.command_ends.specs.Answers.{Answers, Finds}
use Rattle.command_ends.specs.Status.{ending_status, refusal_status}
use Rattle.command_ends.specs.declared.refusal.Refusal.{Refusal}
use Rattle.command_ends.specs.declared.stop.Stop.{Stop}
use Rattle.command_ends.specs.declared.stop.Stop.TheVariants.{Refused}

-- what a shelf tells of its files: what each holds, and how often reading it and writing it have failed
pub record Files : Type 0 where
  pub holds : List ℕ → Option (List ℕ)
  pub reads : List ℕ → ℕ
  pub writes : List ℕ → ℕ

abbrev pub files : (List ℕ → Option (List ℕ)) → (List ℕ → ℕ) → (List ℕ → ℕ) → Files
files holds reads writes = record { holds = holds; reads = reads; writes = writes }

-- a call that ended with this status only read: it has 8 where reading failed so, and else no count changed; what files hold did not
pub record OnlyRead (status : ℕ) (Fails : (List ℕ → ℕ) → (List ℕ → ℕ) → Type 0) (old new : Files) : Type 0 where
  pub cause : status ≡ 8 → Fails old.reads new.reads
  pub quiet : status ≢ 8 → new.reads ≡ old.reads
  pub unwritten : status ≢ 9
  pub command : status ≢ 2
  pub files : new.holds ≡ old.holds
  pub writes : new.writes ≡ old.writes

-- what a function answers of a text is what is said, and no refusal of a command's words
pub record Says {X Y : Type 0} (view : X → Y) (result : Result X Refusal) (said : Result Y Refusal) : Type 0 where
  pub made : Answers view result said
  pub command : IfErr result (λ refusal. refusal_status refusal ≢ 2)

-- an answer, whose refusal stops a command
abbrev pub stopped_by : {X : Type 0} → Result X Refusal → Result X Stop
stopped_by (Ok x) = Ok x
stopped_by (Err refusal) = Err (Refused refusal)

-- a call that only reads finds this verdict on a text, which is given by what files are told to hold
pub record Loads {X Y : Type 0} (view : X → Y) (verdict : List ℕ → Result Y Refusal) (text : (List ℕ → Option (List ℕ)) → Option (List ℕ))
    (Fails : (List ℕ → ℕ) → (List ℕ → ℕ) → Type 0) (result : Result X Stop) (old new : Files) : Type 0 where
  pub told : (bytes : List ℕ) → text old.holds ≡ Some bytes → Finds view result (verdict bytes)
  pub read : OnlyRead (ending_status result) Fails old new
