use Rattle.std.proofs.Common.{◌≡◌, ◌++◌, ◌∙◌, ap, sym, refl, subst, append_assoc, Bool, true, false, ℕ, List, [], Option, Result, Ok, Err, IsErr}
use Rattle.std.proofs.lemmas.List.{append-nil}
use Rattle.shelf_io.specs.Wrote.{Failed, Writes, Wrote}
use Rattle.shelf_io.proofs.WroteLaws.{failed-before, failed-behind, writes-failed, wrote-none, wrote-then}

-- Of a text that is to be written all but the rest was.
pub record SoFar (all rest before now : List ℕ) (old new : Option (List ℕ)) (faults faults_now : ℕ) (same_place else_same : Type 0) : Type 0 where
  pub place : same_place
  pub done : List ℕ
  pub wrote : Wrote done before now old new faults faults_now else_same
  pub whole : done ++ rest ≡ all

pub so_far-begun : (all a : List ℕ) (o : Option (List ℕ)) (f : ℕ) {L P : Type 0} → L → P → SoFar all all a a o o f f L P
so_far-begun all a o f place same = record { place = place; done = []; wrote = wrote-none a o f same; whole = refl }

-- the next part of it is written
pub so_far-more : {U F : Type 0} {done : U} {all left x rest a b c : List ℕ} {o m n : Option (List ℕ)} {f g h : ℕ} {L M N P R : Type 0} {Q : Bool → Type 0}
    → (L → M → N) → (P → Q true → R) → SoFar all left a b o m f g L P → left ≡ x ++ rest → Writes {E = F} (Ok done) x b c m n g h M Q
    → SoFar all rest a c o n f h N R
so_far-more {x = x} {rest = rest} stays join so_far is next = record {
  place = stays so_far.place next.place;
  done = so_far.done ++ x;
  wrote = wrote-then join so_far.wrote next.wrote;
  whole = append_assoc so_far.done x rest ∙ ap (λ (l : List ℕ). so_far.done ++ l) (sym is) ∙ so_far.whole;
}

-- all of it is written where nothing is left
pub so_far-done : {T E : Type 0} (x : T) {rest : List ℕ} → rest ≡ [] → {all a b : List ℕ} {o n : Option (List ℕ)} {f h : ℕ} {L : Type 0} {S : Bool → Type 0}
    → SoFar all rest a b o n f h L (S true) → Writes {T = T} {E = E} (Ok x) all a b o n f h L S
so_far-done x none {all = all} so_far =
    let same : so_far.done ≡ all = sym (append-nil so_far.done) ∙ ap (λ (l : List ℕ). so_far.done ++ l) (sym none) ∙ so_far.whole in
    record { place = so_far.place; wrote = rw (← same) so_far.wrote; failed = tt }

-- the next part of it is not written to its end
pub so_far-failed : {T E U F : Type 0} (result : Result T E) (rest : List ℕ) {failure : F} {all left x a b c d : List ℕ} {o m n : Option (List ℕ)} {f g h : ℕ}
    {L M N P : Type 0} {Q R : Bool → Type 0} → (L → M → N) → ((calm : Bool) → P → Q calm → R calm) → IsErr result
    → SoFar all left a b o m f g L P → left ≡ x ++ rest → Writes {T = U} (Err failure) x b c m n g h M Q → Writes result all a d o n f h N R
so_far-failed result rest {x = x} {a = a} {b = b} {o = o} {n = n} {f = f} {h = h} {R = R} stays join is so_far parts next =
    writes-failed result is (stays so_far.place next.place)
    (subst (λ (text : List ℕ). Failed (a ++ text) o n f h (R false))
    (ap (λ (l : List ℕ). so_far.done ++ l) (sym parts) ∙ so_far.whole)
    (failed-behind (x ++ rest) (join false) so_far.wrote (failed-before x rest b next.failed)))
