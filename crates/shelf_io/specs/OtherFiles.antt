-- what a put to a file leaves as it was on a shelf
use Rattle.std.specs.Prelude.{◌≡◌, ◌≢◌, Bool, true, ℕ, List, Option}
use Rattle.std.proofs.Common.{◌∙◌, refl}

-- no other file changed, no read count, and no write count where the test holds
pub record OthersSame (calm : Bool) (file : List ℕ) (told told_after : List ℕ → Option (List ℕ)) (reads reads_after writes writes_after : List ℕ → ℕ) : Type 0 where
  pub others : (other : List ℕ) → other ≢ file → told_after other ≡ told other
  pub same_reads : reads_after ≡ reads
  pub same_writes : calm ≡ true → writes_after ≡ writes

-- so where nothing was put
pub others-same : (file : List ℕ) (told : List ℕ → Option (List ℕ)) (reads writes : List ℕ → ℕ) → OthersSame true file told told reads reads writes writes
others-same file told reads writes = record { others = λ other apart. refl; same_reads = refl; same_writes = λ _. refl }

-- and by one put and then another
pub others-then : (calm : Bool) {file again : List ℕ} {o m n : List ℕ → Option (List ℕ)} {r rm rn w wm wn : List ℕ → ℕ}
    → again ≡ file → OthersSame true file o m r rm w wm → OthersSame calm again m n rm rn wm wn → OthersSame calm file o n r rn w wn
others-then calm is one two = record {
  others = λ other apart. two.others other (λ same. apart (same ∙ is)) ∙ one.others other apart;
  same_reads = two.same_reads ∙ one.same_reads;
  same_writes = λ still. two.same_writes still ∙ one.same_writes refl;
}

-- a file has the same name, and a put left the others as they were
pub record FileSame (name name_after : List ℕ) (others_same : Type 0) : Type 0 where
  pub same_name : name_after ≡ name
  pub others : others_same
