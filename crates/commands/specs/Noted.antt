-- notes that were put to a sink
use Rattle.std.specs.Prelude.{◌≡◌, ℕ, List, Bool, true, false, Option}
use Rattle.command_ends.specs.Gains.{Gains}
use Rattle.shelf_io.specs.Told.{Refines, appended}
use Rattle.note_text.specs.Lines.{lines_text}

-- a sink gained the text of some lines, or a front of it where its count rose
pub record Noted (before after : Option (List ℕ)) (old new : ℕ) : Type 0 where
  pub lines : List (List ℕ)
  pub gains : Gains (lines_text lines) before after old new

-- the same, and whether more may follow: then the text was put whole, and the count did not change
pub record NotedSo (going : Bool) (before after : Option (List ℕ)) (old new : ℕ) : Type 0 where
  pub lines : List (List ℕ)
  pub gains : Gains (lines_text lines) before after old new
  pub whole : going ≡ true → Refines after (appended before (lines_text lines))
  pub calm : going ≡ true → new ≡ old

-- where some text was noted before, and more may follow or not, that text and some more was, and more may follow or not; nothing was put where it was not wished for
pub record IsTold {A : Type 0} (written : A → Option (List ℕ)) (faults : A → ℕ) (same_place : Type 0) (wished wished_after from to : Bool) (old new : A) : Type 0 where
  pub place : same_place
  pub wish : wished_after ≡ wished
  pub noted : (before : Option (List ℕ)) (count : ℕ) → NotedSo from before (written old) count (faults old) → NotedSo to before (written new) count (faults new)
  pub unwished : wished ≡ false → new ≡ old
