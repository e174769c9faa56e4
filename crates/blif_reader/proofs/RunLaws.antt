use Rattle.std.proofs.Common.{◌≡◌, ℕ, zero, suc, ◌<◌, true, false, List, [], ◌∷◌, ◌++◌, refl, sym, ap, ◌∙◌, append_assoc, append-nil, Result, Ok, Err, codes, arith}
use Rattle.read_base.specs.Answers.{Fails, flaw_of}
use Rattle.read_base.specs.Steps.{◌>>=◌}
use Rattle.read_base.specs.declared.stop.Stop.TheVariants.{At, Memory}
use Rattle.blif_reader.specs.BlifReads.{closed, lines}
use Rattle.blif_reader.specs.Flaws.{Flaw, Stop}
use Rattle.blif_reader.specs.Lines.{line_after}
use Rattle.blif_reader.specs.Parts.{Parts}
use Rattle.blif_reader.specs.Text.{cleaned, shown, within_after}
use Rattle.blif_reader.specs.Tokens.{Spelled, Token, word, line_end}
use Rattle.blif_reader.specs.Words.{a_pin, a_word, an_end, from_line, is_word, pins, worded, words}
use Rattle.blif_reader.specs.declared.file.Pin.{Pin}
use Rattle.blif_reader.specs.declared.plain.Within.{Within}

-- one byte is cleaned
pub cleaned-on : (front : List ℕ) (within : Within) (bs : List ℕ) (c : ℕ) (cs : List ℕ) → bs ≡ c ∷ cs
    → (front ++ shown within c cs ∷ []) ++ cleaned (within_after within c cs) cs ≡ front ++ cleaned within bs
unfolding cleaned
cleaned-on front within bs c cs is = rw is (append_assoc front (shown within c cs ∷ []) (cleaned (within_after within c cs) cs))

-- no byte is left
pub cleaned-end : (front : List ℕ) (within : Within) (bs : List ℕ) → bs ≡ [] → front ++ cleaned within bs ≡ front
unfolding cleaned
cleaned-end front within bs is = rw is (append-nil front)

-- the value of an answer, or this one
value_or : {A : Type 0} → A → Result A Flaw → A
value_or d (Ok x) = x
value_or d (Err e) = d

-- equal answers have equal parts
pub ok_pair : {A B : Type 0} (a c : A) (b d : B) → ◌≡◌ {A = Result (A × B) Flaw} (Ok (a, b)) (Ok (c, d)) → (a ≡ c) × (b ≡ d)
unfolding value_or
ok_pair {A} {B} a c b d h = (ap (λ (r : Result (A × B) Flaw). (value_or (a, b) r).0) h, ap (λ (r : Result (A × B) Flaw). (value_or (a, b) r).1) h)

-- where no word stands, a line ends, and with it its words
pub words-end : (size : ℕ) (ts : List Token) (e : Flaw) (rest : List Token) → a_word ts ≡ Err e → an_end ts ≡ Ok rest → words size ts ≡ ([], rest)
unfolding words
words-end size [] e rest h end = let same : [] ≡ rest = cc in ap (λ (r : List Token). ([], r)) same
words-end size (line_end left ∷ ts) e rest h end = let same : ts ≡ rest = cc in ap (λ (r : List Token). ([], r)) same
words-end size (word w ∷ ts) e rest h end = cc

-- one word more
pub words-on : (size : ℕ) (ts mid : List Token) (w : Spelled) → a_word ts ≡ Ok (w, mid) → words size ts ≡ (worded size w ∷ (words size mid).0, (words size mid).1)
unfolding words
words-on size [] mid w h = cc
words-on size (line_end left ∷ ts) mid w h = cc
words-on size (word v ∷ ts) mid w h = let p = ok_pair v w ts mid h in rw (p.0, p.1) refl

-- where no word stands, the line's end is not missing
pub ends-line : (ts : List Token) (e f : Flaw) → a_word ts ≡ Err e → an_end ts ≡ Err f → ⊥
ends-line [] e f h end = cc
ends-line (line_end left ∷ ts) e f h end = cc
ends-line (word w ∷ ts) e f h end = cc

-- the pins of a line with these in front
abbrev pub with_front : List Pin → Result (List Pin × List Token) Flaw → Result (List Pin × List Token) Flaw
with_front front (Ok x) = Ok (front ++ x.0, x.1)
with_front front (Err e) = Err e

-- where no word stands, the pins end with the line
pub pins-end : (size : ℕ) (front : List Pin) (ts : List Token) (e : Flaw) (rest : List Token) (total : Result (List Pin × List Token) Flaw)
    → a_word ts ≡ Err e → an_end ts ≡ Ok rest → with_front front (pins size ts) ≡ total → total ≡ Ok (front, rest)
unfolding pins
pins-end size front [] e rest total h end so_far = let same : [] ≡ rest = cc in sym so_far ∙ rw (append-nil front, same) refl
pins-end size front (line_end left ∷ ts) e rest total h end so_far = let same : ts ≡ rest = cc in sym so_far ∙ rw (append-nil front, same) refl
pins-end size front (word w ∷ ts) e rest total h end so_far = cc

-- a pin that fails
pub pins-fail : (size : ℕ) (stop : Stop) (front : List Pin) (ts mid : List Token) (w : Spelled) (total : Result (List Pin × List Token) Flaw)
    → a_word ts ≡ Ok (w, mid) → Fails flaw_of stop (a_pin size w) → with_front front (pins size ts) ≡ total → Fails flaw_of stop total
unfolding pins
pins-fail size Memory front ts mid w total h wrong so_far = tt
pins-fail size (At e) front [] mid w total h wrong so_far = cc
pins-fail size (At e) front (line_end left ∷ ts) mid w total h wrong so_far = cc
pins-fail size (At e) front (word v ∷ ts) mid w total h wrong so_far =
    let p = ok_pair v w ts mid h in
    let there : a_pin size v ≡ Err e = rw p.0 wrong in
    sym so_far ∙ rw there refl

-- one pin more
with_front-more : (front : List Pin) (pin : Pin) (run : Result (List Pin × List Token) Flaw)
    → with_front (front ++ pin ∷ []) run ≡ with_front front (run >>= λ others. Ok (pin ∷ others.0, others.1))
with_front-more front pin (Ok x) = ap (λ (xs : List Pin). Ok (xs, x.1)) (append_assoc front (pin ∷ []) x.0)
with_front-more front pin (Err e) = refl

pub pins-on : (size : ℕ) (front : List Pin) (ts mid : List Token) (w : Spelled) (pin : Pin) (total : Result (List Pin × List Token) Flaw)
    → a_word ts ≡ Ok (w, mid) → a_pin size w ≡ Ok pin → with_front front (pins size ts) ≡ total → with_front (front ++ pin ∷ []) (pins size mid) ≡ total
unfolding pins
pins-on size front [] mid w pin total h is so_far = cc
pins-on size front (line_end left ∷ ts) mid w pin total h is so_far = cc
pins-on size front (word v ∷ ts) mid w pin total h is so_far =
    let p = ok_pair v w ts mid h in
    let there : a_pin size v ≡ Ok pin = rw p.0 is in
    let step : pins size (word v ∷ ts) ≡ (pins size mid >>= λ others. Ok (pin ∷ others.0, others.1)) = rw (there, p.1) refl in
    with_front-more front pin (pins size mid) ∙ ap (with_front front) (sym step) ∙ so_far

-- with some fuel above what is left, reading on from here gives the whole's answer
pub record GoesOn (left : ℕ) (read : ℕ → Result Parts Flaw) (total : Result Parts Flaw) : Type 0 where
  pub steps : ℕ
  pub enough : left < steps
  pub same : read steps ≡ total

-- no line comes
pub lines-stop : (size : ℕ) (parts : Parts) (ts : List Token) (e : Flaw) (left : ℕ) (total : Result Parts Flaw)
    → a_word (from_line ts) ≡ Err e → GoesOn left (λ m. lines size m parts ts) total → total ≡ Err e
unfolding lines
lines-stop size parts ts e left total h so_far = step so_far.steps so_far.enough so_far.same
  where
    step : (m : ℕ) → left < m → lines size m parts ts ≡ total → total ≡ Err e
    step zero lt same = absurd (omega (arith, lt))
    step (suc m) lt same = sym same ∙ rw h refl

-- the end comes, and something behind it
pub lines-open : (size : ℕ) (parts : Parts) (ts mid : List Token) (w : Spelled) (e : Flaw) (left : ℕ) (total : Result Parts Flaw)
    → a_word (from_line ts) ≡ Ok (w, mid) → is_word (codes ".end") w ≡ true → closed mid ≡ Err e → GoesOn left (λ m. lines size m parts ts) total → total ≡ Err e
unfolding lines
lines-open size parts ts mid w e left total h is bad so_far = step so_far.steps so_far.enough so_far.same
  where
    step : (m : ℕ) → left < m → lines size m parts ts ≡ total → total ≡ Err e
    step zero lt same = absurd (omega (arith, lt))
    step (suc m) lt same = sym same ∙ rw (h, is, bad) refl

-- the end comes
pub lines-end : (size : ℕ) (parts : Parts) (ts mid : List Token) (w : Spelled) (left : ℕ) (total : Result Parts Flaw)
    → a_word (from_line ts) ≡ Ok (w, mid) → is_word (codes ".end") w ≡ true → closed mid ≡ Ok tt → GoesOn left (λ m. lines size m parts ts) total → total ≡ Ok parts
unfolding lines
lines-end size parts ts mid w left total h is good so_far = step so_far.steps so_far.enough so_far.same
  where
    step : (m : ℕ) → left < m → lines size m parts ts ≡ total → total ≡ Ok parts
    step zero lt same = absurd (omega (arith, lt))
    step (suc m) lt same = sym same ∙ rw (h, is, good) refl

-- a line that fails
pub lines-fail : (size : ℕ) (stop : Stop) (parts : Parts) (ts mid : List Token) (w : Spelled) (left : ℕ) (total : Result Parts Flaw)
    → a_word (from_line ts) ≡ Ok (w, mid) → is_word (codes ".end") w ≡ false → Fails flaw_of stop (line_after size parts w mid)
    → GoesOn left (λ m. lines size m parts ts) total → Fails flaw_of stop total
unfolding lines
lines-fail size Memory parts ts mid w left total h is bad so_far = tt
lines-fail size (At e) parts ts mid w left total h is bad so_far = step so_far.steps so_far.enough so_far.same
  where
    step : (m : ℕ) → left < m → lines size m parts ts ≡ total → total ≡ Err e
    step zero lt same = absurd (omega (arith, lt))
    step (suc m) lt same = sym same ∙ rw (h, is, bad) refl

-- one line more
pub lines-on : (size : ℕ) (parts onward : Parts) (ts mid rest : List Token) (w : Spelled) (less left : ℕ) (total : Result Parts Flaw)
    → a_word (from_line ts) ≡ Ok (w, mid) → is_word (codes ".end") w ≡ false → line_after size parts w mid ≡ Ok (onward, rest) → less < left
    → GoesOn left (λ m. lines size m parts ts) total → GoesOn less (λ m. lines size m onward rest) total
unfolding lines
lines-on size parts onward ts mid rest w less left total h is one lt so_far = step so_far.steps so_far.enough so_far.same
  where
    step : (m : ℕ) → left < m → lines size m parts ts ≡ total → GoesOn less (λ m. lines size m onward rest) total
    step zero le same = absurd (omega (arith, le))
    step (suc m) le same = record { steps = m; enough = omega (arith, le, lt); same = sym (rw (h, is, one) refl) ∙ same }
