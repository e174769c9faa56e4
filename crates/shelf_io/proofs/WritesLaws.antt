use Rattle.std.proofs.Common.{◌++◌, ◌∙◌, Bool, true, ℕ, List, Option, Result, Ok, Err, IsErr, is_ok}
use Rattle.std.proofs.lemmas.Result.{on_err_weaker, on_ok_weaker}
use Rattle.shelf_io.specs.Wrote.{Puts, Writes}
use Rattle.shelf_io.proofs.Appends.{both-whole}
use Rattle.shelf_io.proofs.WroteLaws.{behind, failed-before, failed-behind, puts-failed, writes-failed, writes-then}

-- a call that did not write a text to its end did not write a longer one
pub writes-stopped : {T E U F : Type 0} (result : Result T E) (y : List ℕ) {failure : F} {x a b c : List ℕ} {o n : Option (List ℕ)} {f h : ℕ} {L : Type 0}
    {S : Bool → Type 0} → IsErr result → Writes {T = U} (Err failure) x a b o n f h L S → Writes result (x ++ y) a c o n f h L S
writes-stopped result y {x = x} {a = a} is one = writes-failed result is one.place (failed-before x y a one.failed)

-- what one call wrote and another behind it
pub writes-both : {T E U F : Type 0} (result : Result T E) {done : U} {x y a b c : List ℕ} {o m n : Option (List ℕ)} {f g h : ℕ} {L M N : Type 0}
    {P Q R : Bool → Type 0} → (L → M → N) → ((calm : Bool) → P true → Q calm → R calm)
    → Writes {E = F} (Ok done) x a b o m f g L P → Writes result y b c m n g h M Q → Writes result (x ++ y) a c o n f h N R
writes-both result stays join one two = writes-then result (stays one.place) join one.wrote two

-- a text that is put behind one that was written
pub puts-both : {T E U F : Type 0} (result : Result T E) (y : List ℕ) {done : U} {x a b : List ℕ} {o m n : Option (List ℕ)} {f g h : ℕ} {L M N : Type 0}
    {P Q R : Bool → Type 0} → (L → M → N) → ((calm : Bool) → P true → Q calm → R calm)
    → Writes {E = F} (Ok done) x a b o m f g L P → Puts result (b ++ y) m n g h M Q → Puts result (a ++ (x ++ y)) o n f h N R
puts-both result y {x = x} {a = a} {b = b} stays join one two =
    let put = one.wrote.appends in
    record {
      place = stays one.place two.place;
      ended = on_ok_weaker result (λ all. record {
        whole = both-whole _ _ _ put.put (b ++ y) (a ++ (x ++ y)) (behind x y a b put.put put.whole) put.told all.whole;
        quiet = all.quiet ∙ one.wrote.quiet;
        same = join true one.wrote.same all.same;
      }) two.ended;
      failed = on_err_weaker result (failed-behind y (join _) one.wrote) two.failed;
    }

-- a text that was not written to its end is not put
pub puts-stopped : {T E U F : Type 0} (result : Result T E) (y : List ℕ) {failure : F} {x a b : List ℕ} {o n : Option (List ℕ)} {f h : ℕ} {L : Type 0}
    {S : Bool → Type 0} → IsErr result → Writes {T = U} (Err failure) x a b o n f h L S → Puts result (a ++ (x ++ y)) o n f h L S
puts-stopped result y {x = x} {a = a} is one = puts-failed result is one.place (failed-before x y a one.failed)

-- of a text that is put at once with what is buffered
pub puts-unwritten : {T E U F : Type 0} (result : Result T E) {failure : F} {x a b : List ℕ} {o n : Option (List ℕ)} {f h : ℕ} {L : Type 0} {S : Bool → Type 0}
    → IsErr result → Writes {T = U} (Err failure) x a b o n f h L S → Puts result (a ++ x) o n f h L S
puts-unwritten result is one = puts-failed result is one.place one.failed

-- what a call leaves as it was, whether it put its text or failed
pub puts-same : {T E : Type 0} (result : Result T E) {x : List ℕ} {o n : Option (List ℕ)} {f h : ℕ} {L : Type 0} {S : Bool → Type 0}
    → Puts result x o n f h L S → S (is_ok result)
puts-same (Ok done) put = put.ended.same
puts-same (Err failed) put = put.failed.same
