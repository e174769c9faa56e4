-- a text that is written to a sink, or not to its end
use Rattle.std.specs.Prelude.{◌≡◌, ◌≤◌, ◌++◌, Bool, true, false, ℕ, List, Option, Result, OnOk, OnErr}
use Rattle.shelf_io.specs.Appends.{Appends}
use Rattle.shelf_io.specs.Count.{Rose}
use Rattle.shelf_io.specs.Told.{EndsWithin, Refines, appended}

-- A text went behind what was buffered for a sink: what was put to it and what is buffered then are what was buffered before and the text, and whole pieces
-- were put. Nothing else changed, and no count of faults.
pub record Wrote (text before after : List ℕ) (told told_after : Option (List ℕ)) (faults faults_after : ℕ) (else_same : Type 0) : Type 0 where
  pub appends : Appends text before after told told_after
  pub quiet : faults_after ≡ faults
  pub same : else_same

-- A text was put to a sink to its end. Nothing else changed, and no count of faults.
pub record PutToEnd (text : List ℕ) (told told_after : Option (List ℕ)) (faults faults_after : ℕ) (else_same : Type 0) : Type 0 where
  pub whole : Refines told_after (appended told text)
  pub quiet : faults_after ≡ faults
  pub same : else_same

-- A text was to be put to a sink, which failed: a front of it was put, and the sink's count of faults rose, or did not fall from its last value. Nothing else
-- changed but counts.
pub record Failed (text : List ℕ) (told told_after : Option (List ℕ)) (faults faults_after : ℕ) (else_same : Type 0) : Type 0 where
  pub front : EndsWithin told text told_after
  pub cause : Rose faults faults_after
  pub later : faults ≤ faults_after
  pub same : else_same

-- a call that is to write a text behind what is buffered did so, or failed
pub record Writes {T E : Type 0} (result : Result T E) (text before after : List ℕ) (told told_after : Option (List ℕ)) (faults faults_after : ℕ)
    (same_place : Type 0) (else_same : Bool → Type 0) : Type 0 where
  pub place : same_place
  pub wrote : OnOk result (Wrote text before after told told_after faults faults_after (else_same true))
  pub failed : OnErr result (Failed (before ++ text) told told_after faults faults_after (else_same false))

-- a call that is to put a text to its end did so, or failed
pub record Puts {T E : Type 0} (result : Result T E) (text : List ℕ) (told told_after : Option (List ℕ)) (faults faults_after : ℕ)
    (same_place : Type 0) (else_same : Bool → Type 0) : Type 0 where
  pub place : same_place
  pub ended : OnOk result (PutToEnd text told told_after faults faults_after (else_same true))
  pub failed : OnErr result (Failed text told told_after faults faults_after (else_same false))
