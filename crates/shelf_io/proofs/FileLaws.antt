use Rattle.std.proofs.Common.{◌≡◌, true, false, ℕ, List, Option, Result}
use Rattle.std.proofs.lemmas.Result.{on_err_weaker, on_ok_weaker}
use Rattle.shelf_io.specs.OtherFiles.{FileSame, OthersSame}
use Rattle.shelf_io.specs.Wrote.{PutToEnd, Failed, Puts, Wrote}

-- what is seen of a shelf of any type: what its files are told to hold, and the counts of failed reading and writing
pub record Seen (A : Type 0) : Type 0 where
  pub holds : A → List ℕ → Option (List ℕ)
  pub reads : A → List ℕ → ℕ
  pub writes : A → List ℕ → ℕ

-- a file of a shelf keeps its place: the shelf that it was made of, its name, and the shelf as it is left
pub record FileKept {A : Type 0} (before start end after : A) (name first : List ℕ) : Type 0 where
  pub begun : start ≡ before
  pub left : after ≡ end
  pub named : first ≡ name

-- a text that was written to a file of a shelf was written under its name, and so of a text that was put and of one that was not
pub file-wrote : {A : Type 0} (see : Seen A) {text a b name first last : List ℕ} {before start end after : A} → FileKept before start end after name first
    → Wrote text a b (see.holds start first) (see.holds end last) (see.writes start first) (see.writes end last)
    (FileSame first last (OthersSame true first (see.holds start) (see.holds end) (see.reads start) (see.reads end) (see.writes start) (see.writes end)))
    → Wrote text a b (see.holds before name) (see.holds after name) (see.writes before name) (see.writes after name)
    (OthersSame true name (see.holds before) (see.holds after) (see.reads before) (see.reads after) (see.writes before) (see.writes after))
file-wrote see {name = name} kept one =
    rw (← kept.begun, kept.left, ← kept.named)
    (record {
      appends = rw one.same.same_name at one.appends;
      quiet = rw one.same.same_name at one.quiet;
      same = one.same.others;
    })

pub file-ended : {A : Type 0} (see : Seen A) {text name first last : List ℕ} {before start end after : A} → FileKept before start end after name first
    → PutToEnd text (see.holds start first) (see.holds end last) (see.writes start first) (see.writes end last)
    (FileSame first last (OthersSame true first (see.holds start) (see.holds end) (see.reads start) (see.reads end) (see.writes start) (see.writes end)))
    → PutToEnd text (see.holds before name) (see.holds after name) (see.writes before name) (see.writes after name)
    (OthersSame true name (see.holds before) (see.holds after) (see.reads before) (see.reads after) (see.writes before) (see.writes after))
file-ended see {name = name} kept one =
    rw (← kept.begun, kept.left, ← kept.named)
    (record { whole = rw one.same.same_name at one.whole; quiet = rw one.same.same_name at one.quiet; same = one.same.others })

pub file-failed : {A : Type 0} (see : Seen A) {text name first last : List ℕ} {before start end after : A} → FileKept before start end after name first
    → Failed text (see.holds start first) (see.holds end last) (see.writes start first) (see.writes end last)
    (FileSame first last (OthersSame false first (see.holds start) (see.holds end) (see.reads start) (see.reads end) (see.writes start) (see.writes end)))
    → Failed text (see.holds before name) (see.holds after name) (see.writes before name) (see.writes after name)
    (OthersSame false name (see.holds before) (see.holds after) (see.reads before) (see.reads after) (see.writes before) (see.writes after))
file-failed see {name = name} kept one =
    rw (← kept.begun, kept.left, ← kept.named)
    (record { front = rw one.same.same_name at one.front; cause = rw one.same.same_name at one.cause; later = rw one.same.same_name at one.later; same = one.same.others })

-- and so of a call that put one or failed
pub file-puts : {A : Type 0} (see : Seen A) {T E : Type 0} (result : Result T E) {text name first last : List ℕ} {before start end after : A} {L : Type 0}
    → FileKept before start end after name first
    → Puts result text (see.holds start first) (see.holds end last) (see.writes start first) (see.writes end last) L
    (λ calm. FileSame first last (OthersSame calm first (see.holds start) (see.holds end) (see.reads start) (see.reads end) (see.writes start) (see.writes end)))
    → Puts result text (see.holds before name) (see.holds after name) (see.writes before name) (see.writes after name) (Unit {0})
    (λ calm. OthersSame calm name (see.holds before) (see.holds after) (see.reads before) (see.reads after) (see.writes before) (see.writes after))
file-puts see result kept one = record {
  place = tt;
  ended = on_ok_weaker result (file-ended see kept) one.ended;
  failed = on_err_weaker result (file-failed see kept) one.failed;
}
