use Rattle.std.proofs.Common.{◌≡◌, ◌≤◌, ◌++◌, ◌+◌, ◌∙◌, ap, subst, sym, refl, arith, append_assoc, Bool, true, false, ℕ, List, [], length, take, Option, Some, None, Result, Ok, Err, OnErr, OnOk, IsErr}
use Rattle.std.proofs.lemmas.List.{append-nil, length-append}
use Rattle.std.proofs.lemmas.Result.{on_err_weaker, on_ok_weaker}
use Rattle.shelf_io.specs.Appends.{Appends}
use Rattle.shelf_io.specs.Count.{Rose}
use Rattle.shelf_io.specs.Told.{EndsWithin, Refines, appended}
use Rattle.shelf_io.specs.Wrote.{PutToEnd, Failed, Puts, Writes, Wrote}
use Rattle.shelf_io.proofs.Appends.{appended-twice, both-whole, first-front, second-front}

-- a told text with nothing behind it
told-same : (o : Option (List ℕ)) → Refines o (appended o [])
told-same None = λ bytes at. cc
told-same (Some held) = λ bytes at. ap (λ (l : List ℕ). Some l) (append-nil held) ∙ at

-- of no bytes nothing is put
pub appends-none : (a : List ℕ) (o : Option (List ℕ)) → Appends [] a a o o
appends-none a o = record { put = []; told = told-same o; whole = sym (append-nil a); pieces = 0; many = refl }

-- bytes that make a piece whole, which is put
pub appends-whole : (x a : List ℕ) (o n : Option (List ℕ)) → length (a ++ x) ≡ 4096 → Refines n (appended o (a ++ x)) → Appends x a [] o n
appends-whole x a o n whole put = record { put = a ++ x; told = put; whole = append-nil (a ++ x); pieces = 1; many = whole }

-- bytes that are only buffered
pub appends-kept : (x a : List ℕ) (o : Option (List ℕ)) → Appends x a (a ++ x) o o
appends-kept x a o = record { put = []; told = told-same o; whole = refl; pieces = 0; many = refl }

-- bytes, and then others
appends-both : (x y a b c : List ℕ) (o m n : Option (List ℕ)) → Appends x a b o m → Appends y b c m n → Appends (x ++ y) a c o n
appends-both x y a b c o m n one two = record {
  put = one.put ++ two.put;
  told = appended-twice o m n one.put two.put one.told two.told;
  whole = append_assoc one.put two.put c
      ∙ ap (λ (l : List ℕ). one.put ++ l) two.whole
      ∙ sym (append_assoc one.put b y)
      ∙ ap (λ (l : List ℕ). l ++ y) one.whole
      ∙ append_assoc a x y;
  pieces = one.pieces + two.pieces;
  many = length-append one.put two.put ∙ omega (arith, one.many, two.many);
}

-- the bytes that were buffered, put and left, with others behind them
pub behind : (x y a b p : List ℕ) → p ++ b ≡ a ++ x → p ++ (b ++ y) ≡ a ++ (x ++ y)
behind x y a b p whole = sym (append_assoc p b y) ∙ ap (λ (l : List ℕ). l ++ y) whole ∙ append_assoc a x y

-- what a text is that is put, or written, in no bytes, and by one call and then another
pub ended-none : (o : Option (List ℕ)) (f : ℕ) {P : Type 0} → P → PutToEnd [] o o f f P
ended-none o f same = record { whole = told-same o; quiet = refl; same = same }

pub ended-then : {x y : List ℕ} {o m n : Option (List ℕ)} {f g h : ℕ} {P Q R : Type 0} → (P → Q → R)
    → PutToEnd x o m f g P → PutToEnd y m n g h Q → PutToEnd (x ++ y) o n f h R
ended-then join one two = record {
  whole = both-whole _ _ _ _ _ _ refl one.whole two.whole;
  quiet = two.quiet ∙ one.quiet;
  same = join one.same two.same;
}

-- what was put of a text before nothing more was is a front of it
pub ended-front : (text : List ℕ) (k : ℕ) {o m n : Option (List ℕ)} {f g : ℕ} {P : Type 0} → PutToEnd (take k text) o m f g P → Refines n m → EndsWithin o text n
ended-front text k one same = λ held at. (k, one.whole held (same held at))

pub failed-first : (y : List ℕ) {x : List ℕ} {o n : Option (List ℕ)} {f h : ℕ} {P : Type 0} → Failed x o n f h P → Failed (x ++ y) o n f h P
failed-first y one = record { front = first-front _ _ _ y _ refl one.front; cause = one.cause; later = one.later; same = one.same }

pub failed-then : {x y : List ℕ} {o m n : Option (List ℕ)} {f g h : ℕ} {P Q R : Type 0} → (P → Q → R)
    → PutToEnd x o m f g P → Failed y m n g h Q → Failed (x ++ y) o n f h R
failed-then {h = h} join one two = record {
  front = second-front _ _ _ _ _ _ refl one.whole two.front;
  cause = subst (λ (count : ℕ). Rose count h) one.quiet two.cause;
  later = omega (arith, one.quiet, two.later);
  same = join one.same two.same;
}

pub wrote-none : (a : List ℕ) (o : Option (List ℕ)) (f : ℕ) {P : Type 0} → P → Wrote [] a a o o f f P
wrote-none a o f same = record { appends = appends-none a o; quiet = refl; same = same }

-- bytes are only buffered
pub wrote-kept : (x a : List ℕ) (o : Option (List ℕ)) (f : ℕ) {P : Type 0} → P → Wrote x a (a ++ x) o o f f P
wrote-kept x a o f same = record { appends = appends-kept x a o; quiet = refl; same = same }

-- bytes that make a piece whole are put
pub puts-piece : {T E : Type 0} (result : Result T E) (x a : List ℕ) {o n : Option (List ℕ)} {f h : ℕ} {L : Type 0} {S : Bool → Type 0}
    → length (a ++ x) ≡ 4096 → Puts result (a ++ x) o n f h L S → Writes result x a [] o n f h L S
puts-piece result x a {o = o} {n = n} full put = record {
  place = put.place;
  wrote = on_ok_weaker result (λ whole. record { appends = appends-whole x a o n full whole.whole; quiet = whole.quiet; same = whole.same }) put.ended;
  failed = put.failed;
}

pub wrote-then : {x y a b c : List ℕ} {o m n : Option (List ℕ)} {f g h : ℕ} {P Q R : Type 0} → (P → Q → R)
    → Wrote x a b o m f g P → Wrote y b c m n g h Q → Wrote (x ++ y) a c o n f h R
wrote-then join one two = record {
  appends = appends-both _ _ _ _ _ _ _ _ one.appends two.appends;
  quiet = two.quiet ∙ one.quiet;
  same = join one.same two.same;
}

-- a text behind which nothing more is written was not put to its end
pub failed-behind : (y : List ℕ) {x a b : List ℕ} {o m n : Option (List ℕ)} {f g h : ℕ} {P Q R : Type 0} → (P → Q → R)
    → Wrote x a b o m f g P → Failed (b ++ y) m n g h Q → Failed (a ++ (x ++ y)) o n f h R
failed-behind y {x = x} {a = a} {b = b} {h = h} join one two = record {
  front = second-front _ _ _ one.appends.put (b ++ y) (a ++ (x ++ y)) (behind x y a b one.appends.put one.appends.whole) one.appends.told two.front;
  cause = subst (λ (count : ℕ). Rose count h) one.quiet two.cause;
  later = omega (arith, one.quiet, two.later);
  same = join one.same two.same;
}

-- nor one behind it
pub failed-before : (x y a : List ℕ) {o n : Option (List ℕ)} {f h : ℕ} {P : Type 0} → Failed (a ++ x) o n f h P → Failed (a ++ (x ++ y)) o n f h P
failed-before x y a one = record { front = first-front _ _ (a ++ x) y (a ++ (x ++ y)) (append_assoc a x y) one.front; cause = one.cause; later = one.later; same = one.same }

-- a text that was written, and then put with all that was buffered
ended-all : {x a b : List ℕ} {o m n : Option (List ℕ)} {f g h : ℕ} {P Q R : Type 0} → (P → Q → R)
    → Wrote x a b o m f g P → PutToEnd b m n g h Q → PutToEnd (a ++ x) o n f h R
ended-all {x = x} {a = a} {b = b} join one two = record {
  whole = both-whole _ _ _ one.appends.put b (a ++ x) one.appends.whole one.appends.told two.whole;
  quiet = two.quiet ∙ one.quiet;
  same = join one.same two.same;
}

failed-all : {x a b : List ℕ} {o m n : Option (List ℕ)} {f g h : ℕ} {P Q R : Type 0} → (P → Q → R)
    → Wrote x a b o m f g P → Failed b m n g h Q → Failed (a ++ x) o n f h R
failed-all {x = x} {a = a} {b = b} {h = h} join one two = record {
  front = second-front _ _ _ one.appends.put b (a ++ x) one.appends.whole one.appends.told two.front;
  cause = subst (λ (count : ℕ). Rose count h) one.quiet two.cause;
  later = omega (arith, one.quiet, two.later);
  same = join one.same two.same;
}

-- the answer of a call that failed
failed-answer : {T E : Type 0} (result : Result T E) (P Q : Type 0) → IsErr result → Q → OnOk result P × OnErr result Q
failed-answer (Ok done) P Q is q = absurd (cc)
failed-answer (Err e) P Q is q = (tt, q)

pub writes-failed : {T E : Type 0} (result : Result T E) {x a b : List ℕ} {o n : Option (List ℕ)} {f h : ℕ} {L : Type 0} {S : Bool → Type 0}
    → IsErr result → L → Failed (a ++ x) o n f h (S false) → Writes result x a b o n f h L S
writes-failed result {x = x} {a = a} {b = b} {o = o} {n = n} {f = f} {h = h} {S = S} is place failed =
    let both = failed-answer result (Wrote x a b o n f h (S true)) (Failed (a ++ x) o n f h (S false)) is failed in
    record { place = place; wrote = both.0; failed = both.1 }

pub puts-failed : {T E : Type 0} (result : Result T E) {x : List ℕ} {o n : Option (List ℕ)} {f h : ℕ} {L : Type 0} {S : Bool → Type 0}
    → IsErr result → L → Failed x o n f h (S false) → Puts result x o n f h L S
puts-failed result {x = x} {o = o} {n = n} {f = f} {h = h} {S = S} is place failed =
    let both = failed-answer result (PutToEnd x o n f h (S true)) (Failed x o n f h (S false)) is failed in
    record { place = place; ended = both.0; failed = both.1 }

-- nothing is written
pub writes-none : {T E : Type 0} (x : T) (a : List ℕ) (o : Option (List ℕ)) (f : ℕ) {L : Type 0} {S : Bool → Type 0} → L → S true → Writes {T = T} {E = E} (Ok x) [] a a o o f f L S
writes-none x a o f place same = record { place = place; wrote = wrote-none a o f same; failed = tt }

-- what the last call wrote goes behind what was written before
pub writes-then : {T E : Type 0} (result : Result T E) {x y a b c : List ℕ} {o m n : Option (List ℕ)} {f g h : ℕ} {P L M : Type 0} {Q R : Bool → Type 0}
    → (L → M) → ((calm : Bool) → P → Q calm → R calm) → Wrote x a b o m f g P → Writes result y b c m n g h L Q → Writes result (x ++ y) a c o n f h M R
writes-then result {y = y} stays join one two = record {
  place = stays two.place;
  wrote = on_ok_weaker result (wrote-then (join true) one) two.wrote;
  failed = on_err_weaker result (failed-behind y (join false) one) two.failed;
}

-- and what the last call put with all that was buffered
pub puts-behind : {T E : Type 0} (result : Result T E) {x a b : List ℕ} {o m n : Option (List ℕ)} {f g h : ℕ} {P L M : Type 0} {Q R : Bool → Type 0}
    → (L → M) → ((calm : Bool) → P → Q calm → R calm) → Wrote x a b o m f g P → Puts result b m n g h L Q → Puts result (a ++ x) o n f h M R
puts-behind result stays join one two = record {
  place = stays two.place;
  ended = on_ok_weaker result (ended-all (join true) one) two.ended;
  failed = on_err_weaker result (failed-all (join false) one) two.failed;
}

-- a call that did not put a text to its end did not put a longer one
pub puts-cut : {T E U F : Type 0} (result : Result T E) (y : List ℕ) {failure : F} {x : List ℕ} {o n : Option (List ℕ)} {f h : ℕ} {L : Type 0} {S : Bool → Type 0}
    → IsErr result → Puts {T = U} (Err failure) x o n f h L S → Puts result (x ++ y) o n f h L S
puts-cut result y is one = puts-failed result is one.place (failed-first y one.failed)

-- what one call put to its end, and another behind it
pub puts-then : {T E U F : Type 0} (result : Result T E) {done : U} {x y : List ℕ} {o m n : Option (List ℕ)} {f g h : ℕ} {L M N : Type 0} {P Q R : Bool → Type 0}
    → (L → M → N) → ((calm : Bool) → P true → Q calm → R calm)
    → Puts {E = F} (Ok done) x o m f g L P → Puts result y m n g h M Q → Puts result (x ++ y) o n f h N R
puts-then result stays join one two = record {
  place = stays one.place two.place;
  ended = on_ok_weaker result (ended-then (join true) one.ended) two.ended;
  failed = on_err_weaker result (failed-then (join false) one.ended) two.failed;
}

-- a put lets no count fall
pub puts-later : {T E : Type 0} (result : Result T E) {x : List ℕ} {o n : Option (List ℕ)} {f h : ℕ} {L : Type 0} {S : Bool → Type 0}
    → Puts result x o n f h L S → f ≤ h
puts-later (Ok done) put = omega (arith, put.ended.quiet)
puts-later (Err failure) put = put.failed.later
