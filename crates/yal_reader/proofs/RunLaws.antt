use Rattle.std.proofs.Common.{◌≡◌, ℕ, ℤ, true, false, List, [], ◌∷◌, ◌++◌, refl, sym, ap, ◌∙◌, append_assoc, append-nil, None, Some, Result, Ok, Err, if◌then◌else◌}
use Rattle.yal_reader.specs.Numbers.{number, number_run}
use Rattle.read_base.specs.Steps.{◌>>=◌}
use Rattle.yal_reader.specs.Tokens.{Spelled, Token, word, semicolon}
use Rattle.yal_reader.specs.Words.{a_word, after_stop, an_end, bad, is_word, past_words, statement, words}
use Rattle.yal_reader.specs.declared.fault.YalKind.TheVariants as faults
use Rattle.yal_reader.specs.declared.notation.Numbers.{Numbers}
use Rattle.yal_reader.specs.Flaws.{Flaw}

-- a run with these items in front
abbrev pub with_front : {A : Type 0} → List A → Result (List A × List Token) Flaw → Result (List A × List Token) Flaw
with_front front (Ok x) = Ok (front ++ x.0, x.1)
with_front front (Err e) = Err e

-- a run of one more item
abbrev pub more : {A : Type 0} → A → Result (List A × List Token) Flaw → Result (List A × List Token) Flaw
more x run = run >>= λ others. Ok (x ∷ others.0, others.1)

-- the value of an answer, or this one
value_or : {A : Type 0} → A → Result A Flaw → A
value_or d (Ok x) = x
value_or d (Err e) = d

-- equal answers have equal parts
pub ok_pair : {A B : Type 0} (a c : A) (b d : B) → ◌≡◌ {A = Result (A × B) Flaw} (Ok (a, b)) (Ok (c, d)) → (a ≡ c) × (b ≡ d)
unfolding value_or
ok_pair {A} {B} a c b d h = (ap (λ (r : Result (A × B) Flaw). (value_or (a, b) r).0) h, ap (λ (r : Result (A × B) Flaw). (value_or (a, b) r).1) h)

-- an item moves from a run's front to the end of what was found before
pub with_front-more : {A : Type 0} (front : List A) (x : A) (run : Result (List A × List Token) Flaw) → with_front front (more x run) ≡ with_front (front ++ x ∷ []) run
with_front-more {A} front x (Ok others) = ap (λ (xs : List A). Ok (xs, others.1)) (sym (append_assoc front (x ∷ []) others.0))
with_front-more front x (Err e) = refl

-- where no word stands, a run ends with its semicolon
pub words-end : (ts : List Token) (e : Flaw) → a_word ts ≡ Err e → words ts ≡ (an_end ts >>= λ rest. Ok ([], rest))
unfolding words
words-end [] e h = refl
words-end (semicolon left ∷ ts) e h = refl
words-end (word w ∷ ts) e h = cc

-- one more word
pub words-on : (ts rest : List Token) (w : Spelled) → a_word ts ≡ Ok (w, rest) → words ts ≡ more w.text (words rest)
unfolding words
words-on [] rest w h = cc
words-on (semicolon left ∷ ts) rest w h = cc
words-on (word v ∷ ts) rest w h = let p = ok_pair v w ts rest h in rw (p.0, p.1) refl

-- the same of numbers
pub numbers-end : (numbers : Numbers) (ts : List Token) (e : Flaw) → a_word ts ≡ Err e → number_run numbers ts ≡ (an_end ts >>= λ rest. Ok ([], rest))
unfolding number_run
numbers-end numbers [] e h = refl
numbers-end numbers (semicolon left ∷ ts) e h = refl
numbers-end numbers (word w ∷ ts) e h = cc

-- one more number
pub numbers-on : (numbers : Numbers) (ts rest : List Token) (w : Spelled) (n : ℤ) → a_word ts ≡ Ok (w, rest) → number numbers w.text ≡ Some n → number_run numbers ts ≡ more n (number_run numbers rest)
unfolding number_run
numbers-on numbers [] rest w n h is = cc
numbers-on numbers (semicolon left ∷ ts) rest w n h is = cc
numbers-on numbers (word v ∷ ts) rest w n h is = let p = ok_pair v w ts rest h in rw (p.0, p.1, is) refl

-- a word that is no number
pub numbers-fails : (numbers : Numbers) (ts rest : List Token) (w : Spelled) → a_word ts ≡ Ok (w, rest) → number numbers w.text ≡ None → number_run numbers ts ≡ bad faults.Number w
unfolding number_run
numbers-fails numbers [] rest w h is = cc
numbers-fails numbers (semicolon left ∷ ts) rest w h is = cc
numbers-fails numbers (word v ∷ ts) rest w h is = let p = ok_pair v w ts rest h in rw (p.0, is) refl

-- the end of a run, behind what was found before
pub front-ends : {A : Type 0} (front : List A) (run total : Result (List A × List Token) Flaw) (end : Result (List Token) Flaw) (rest : List Token)
    → run ≡ (end >>= λ after. Ok ([], after)) → end ≡ Ok rest → with_front front run ≡ total → total ≡ Ok (front, rest)
front-ends {A} front run total end rest is found so_far = sym so_far ∙ rw (is, found) (ap (λ (xs : List A). Ok (xs, rest)) (append-nil front))

-- a run without its semicolon
pub front-fails : {A : Type 0} (front : List A) (run total : Result (List A × List Token) Flaw) (end : Result (List Token) Flaw) (e : Flaw)
    → run ≡ (end >>= λ after. Ok ([], after)) → end ≡ Err e → with_front front run ≡ total → total ≡ Err e
front-fails front run total end e is found so_far = sym so_far ∙ rw (is, found) refl

-- inside a statement the next one is sought
stop-inside : (keyword : List ℕ) (ts : List Token) → after_stop keyword false ts ≡ (past_words ts >>= after_stop keyword true)
unfolding after_stop
stop-inside keyword [] = refl
stop-inside keyword (semicolon left ∷ ts) = refl
stop-inside keyword (word w ∷ ts) = stop-inside keyword ts

-- the next statement is passed over, unless the keyword begins it
pub stop-step : (keyword : List ℕ) (ts : List Token)
    → after_stop keyword true ts ≡ (a_word (statement ts) >>= λ first. if is_word keyword first.0 then Ok first.1 else (past_words first.1 >>= after_stop keyword true))
unfolding after_stop
stop-step keyword [] = refl
stop-step keyword (semicolon left ∷ ts) = stop-step keyword ts
stop-step keyword (word w ∷ ts) = rw (stop-inside keyword ts) refl

-- a run with one more item found
pub front-on : {A : Type 0} (front : List A) (x : A) (run rest total : Result (List A × List Token) Flaw) → run ≡ more x rest → with_front front run ≡ total → with_front (front ++ x ∷ []) rest ≡ total
front-on front x run rest total is so_far = sym (with_front-more front x rest) ∙ (rw (← is) so_far)

-- a run that fails
pub front-flawed : {A : Type 0} (front : List A) (run total : Result (List A × List Token) Flaw) (e : Flaw) → run ≡ Err e → with_front front run ≡ total → total ≡ Err e
front-flawed front run total e is so_far = sym so_far ∙ rw is refl

-- the four ways of one step toward a section's end
pub stop-err : (keyword : List ℕ) (ts : List Token) (total : Result (List Token) Flaw) (e : Flaw) → a_word (statement ts) ≡ Err e → after_stop keyword true ts ≡ total → total ≡ Err e
stop-err keyword ts total e h so_far = sym so_far ∙ (stop-step keyword ts ∙ rw h refl)

-- the keyword
pub stop-here : (keyword : List ℕ) (ts mid : List Token) (w : Spelled) (total : Result (List Token) Flaw)
    → a_word (statement ts) ≡ Ok (w, mid) → is_word keyword w ≡ true → after_stop keyword true ts ≡ total → total ≡ Ok mid
stop-here keyword ts mid w total h is so_far = sym so_far ∙ (stop-step keyword ts ∙ rw (h, is) refl)

-- a statement without an end
pub stop-fails : (keyword : List ℕ) (ts mid : List Token) (w : Spelled) (total : Result (List Token) Flaw) (e : Flaw)
    → a_word (statement ts) ≡ Ok (w, mid) → is_word keyword w ≡ false → past_words mid ≡ Err e → after_stop keyword true ts ≡ total → total ≡ Err e
stop-fails keyword ts mid w total e h is past so_far = sym so_far ∙ (stop-step keyword ts ∙ rw (h, is, past) refl)

-- another statement
pub stop-on : (keyword : List ℕ) (ts mid rest : List Token) (w : Spelled) (total : Result (List Token) Flaw)
    → a_word (statement ts) ≡ Ok (w, mid) → is_word keyword w ≡ false → past_words mid ≡ Ok rest → after_stop keyword true ts ≡ total → after_stop keyword true rest ≡ total
stop-on keyword ts mid rest w total h is past so_far = sym (stop-step keyword ts ∙ rw (h, is, past) refl) ∙ so_far
