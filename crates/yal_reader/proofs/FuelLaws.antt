use Rattle.std.proofs.Common.{◌≡◌, ℕ, zero, suc, ◌<◌, ◌≤◌, true, false, List, [], ◌∷◌, ◌++◌, refl, sym, ◌∙◌, Result, Ok, Err, codes, arith}
use Rattle.std.proofs.lemmas.List.{map-append}
use Rattle.yal_reader.specs.Kept.{call_names, module_names}
use Rattle.yal_reader.specs.Lists.{items_until}
use Rattle.read_base.specs.Answers.{Fails, flaw_of}
use Rattle.yal_reader.specs.Sections.{section_after, sections}
use Rattle.yal_reader.specs.Tokens.{Spelled, Token}
use Rattle.yal_reader.specs.Words.{a_word, an_end, is_empty, is_word, statement}
use Rattle.yal_reader.specs.YalReads.{a_module, modules}
use Rattle.yal_reader.specs.declared.file.Call.{Call}
use Rattle.yal_reader.specs.declared.file.Kind.{Kind}
use Rattle.yal_reader.specs.declared.file.Module.{Module}
use Rattle.yal_reader.specs.declared.notation.Numbers.{Numbers}
use Rattle.yal_reader.specs.declared.parts.Parts.{Parts}
use Rattle.yal_reader.specs.Flaws.{Stop}
use Rattle.read_base.specs.declared.stop.Stop.TheVariants.{At, Memory}
use Rattle.yal_reader.specs.Flaws.{Flaw}

-- with some fuel above what is left, reading on from here gives the whole's answer
pub record GoesOn {A : Type 0} (left : ℕ) (read : ℕ → Result A Flaw) (total : Result A Flaw) : Type 0 where
  pub steps : ℕ
  pub enough : left < steps
  pub same : read steps ≡ total

-- a list of items: no word, the last keyword, an item that fails, one more item
pub until-ends : {A : Type 0} (keyword : List ℕ) (item : List A → Spelled → List Token → Result (A × List Token) Flaw) (before : List A) (ts : List Token) (e : Flaw) (left : ℕ)
    (total : Result (List A × List Token) Flaw) → a_word (statement ts) ≡ Err e → GoesOn left (λ m. items_until keyword item m before ts) total → total ≡ Err e
unfolding items_until
until-ends keyword item before ts e left total h so_far = step so_far.steps so_far.enough so_far.same
  where
    step : (m : ℕ) → left < m → items_until keyword item m before ts ≡ total → total ≡ Err e
    step zero lt same = absurd (omega (arith, lt))
    step (suc m) lt same = sym same ∙ rw h refl

-- the last keyword
pub until-here : {A : Type 0} (keyword : List ℕ) (item : List A → Spelled → List Token → Result (A × List Token) Flaw) (before : List A) (ts mid : List Token) (w : Spelled) (left : ℕ)
    (total : Result (List A × List Token) Flaw)
    → a_word (statement ts) ≡ Ok (w, mid) → is_word keyword w ≡ true → GoesOn left (λ m. items_until keyword item m before ts) total → total ≡ Ok (before, mid)
unfolding items_until
until-here keyword item before ts mid w left total h is so_far = step so_far.steps so_far.enough so_far.same
  where
    step : (m : ℕ) → left < m → items_until keyword item m before ts ≡ total → total ≡ Ok (before, mid)
    step zero lt same = absurd (omega (arith, lt))
    step (suc m) lt same = sym same ∙ rw (h, is) refl

-- an item that fails
pub until-fails : {A : Type 0} (stop : Stop) (keyword : List ℕ) (item : List A → Spelled → List Token → Result (A × List Token) Flaw) (before : List A) (ts mid : List Token) (w : Spelled) (left : ℕ)
    (total : Result (List A × List Token) Flaw)
    → a_word (statement ts) ≡ Ok (w, mid) → is_word keyword w ≡ false → Fails flaw_of stop (item before w mid) → GoesOn left (λ m. items_until keyword item m before ts) total → Fails flaw_of stop total
unfolding items_until
until-fails Memory keyword item before ts mid w left total h is bad so_far = tt
until-fails (At e) keyword item before ts mid w left total h is bad so_far = step so_far.steps so_far.enough so_far.same
  where
    step : (m : ℕ) → left < m → items_until keyword item m before ts ≡ total → total ≡ Err e
    step zero lt same = absurd (omega (arith, lt))
    step (suc m) lt same = sym same ∙ rw (h, is, bad) refl

-- one more item
pub until-on : {A : Type 0} (keyword : List ℕ) (item : List A → Spelled → List Token → Result (A × List Token) Flaw) (before : List A) (ts mid rest : List Token) (w : Spelled) (x : A) (less left : ℕ)
    (total : Result (List A × List Token) Flaw)
    → a_word (statement ts) ≡ Ok (w, mid) → is_word keyword w ≡ false → item before w mid ≡ Ok (x, rest) → less < left
    → GoesOn left (λ m. items_until keyword item m before ts) total → GoesOn less (λ m. items_until keyword item m (before ++ x ∷ []) rest) total
unfolding items_until
until-on keyword item before ts mid rest w x less left total h is found lt so_far = step so_far.steps so_far.enough so_far.same
  where
    step : (m : ℕ) → left < m → items_until keyword item m before ts ≡ total → GoesOn less (λ m. items_until keyword item m (before ++ x ∷ []) rest) total
    step zero le same = absurd (omega (arith, le))
    step (suc m) le same = record { steps = m; enough = omega (arith, lt, le); same = sym (rw (h, is, found) refl) ∙ same }

-- the names of one more call
pub call_names-push : (calls : List Call) (call : Call) → call_names (calls ++ call ∷ []) ≡ call_names calls ++ call.name ∷ []
call_names-push calls call = map-append (λ (c : Call). c.name) calls (call ∷ [])

-- the names of one more module
pub module_names-push : (modules : List Module) (m : Module) → module_names (modules ++ m ∷ []) ≡ module_names modules ++ m.name ∷ []
module_names-push modules m = map-append (λ (c : Module). c.name) modules (m ∷ [])

-- the sections of a module: no word, the last keyword without and with its semicolon, a section that fails, one more section
pub sections-ends : (numbers : Numbers) (kind : Kind) (parts : Parts) (ts : List Token) (e : Flaw) (left : ℕ) (total : Result (Parts × List Token) Flaw)
    → a_word (statement ts) ≡ Err e → GoesOn left (λ m. sections numbers m kind parts ts) total → total ≡ Err e
unfolding sections
sections-ends numbers kind parts ts e left total h so_far = step so_far.steps so_far.enough so_far.same
  where
    step : (m : ℕ) → left < m → sections numbers m kind parts ts ≡ total → total ≡ Err e
    step zero lt same = absurd (omega (arith, lt))
    step (suc m) lt same = sym same ∙ rw h refl

-- the last keyword without its semicolon
pub sections-open : (numbers : Numbers) (kind : Kind) (parts : Parts) (ts mid : List Token) (w : Spelled) (e : Flaw) (left : ℕ) (total : Result (Parts × List Token) Flaw)
    → a_word (statement ts) ≡ Ok (w, mid) → is_word (codes "ENDMODULE") w ≡ true → an_end mid ≡ Err e → GoesOn left (λ m. sections numbers m kind parts ts) total → total ≡ Err e
unfolding sections
sections-open numbers kind parts ts mid w e left total h is bad so_far = step so_far.steps so_far.enough so_far.same
  where
    step : (m : ℕ) → left < m → sections numbers m kind parts ts ≡ total → total ≡ Err e
    step zero lt same = absurd (omega (arith, lt))
    step (suc m) lt same = sym same ∙ rw (h, is, bad) refl

-- the last keyword with its semicolon
pub sections-here : (numbers : Numbers) (kind : Kind) (parts : Parts) (ts mid rest : List Token) (w : Spelled) (left : ℕ) (total : Result (Parts × List Token) Flaw)
    → a_word (statement ts) ≡ Ok (w, mid) → is_word (codes "ENDMODULE") w ≡ true → an_end mid ≡ Ok rest → GoesOn left (λ m. sections numbers m kind parts ts) total → total ≡ Ok (parts, rest)
unfolding sections
sections-here numbers kind parts ts mid rest w left total h is found so_far = step so_far.steps so_far.enough so_far.same
  where
    step : (m : ℕ) → left < m → sections numbers m kind parts ts ≡ total → total ≡ Ok (parts, rest)
    step zero lt same = absurd (omega (arith, lt))
    step (suc m) lt same = sym same ∙ rw (h, is, found) refl

-- a section that fails
pub sections-fails : (numbers : Numbers) (stop : Stop) (kind : Kind) (parts : Parts) (ts mid : List Token) (w : Spelled) (less left : ℕ) (total : Result (Parts × List Token) Flaw)
    → a_word (statement ts) ≡ Ok (w, mid) → is_word (codes "ENDMODULE") w ≡ false → less < left → ((n : ℕ) → less < n → Fails flaw_of stop (section_after numbers n kind parts w mid))
    → GoesOn left (λ m. sections numbers m kind parts ts) total → Fails flaw_of stop total
unfolding sections
sections-fails numbers Memory kind parts ts mid w less left total h is lt bad so_far = tt
sections-fails numbers (At e) kind parts ts mid w less left total h is lt bad so_far = step so_far.steps so_far.enough so_far.same
  where
    step : (m : ℕ) → left < m → sections numbers m kind parts ts ≡ total → total ≡ Err e
    step zero le same = absurd (omega (arith, le))
    step (suc m) le same = let wrong = bad m (omega (arith, lt, le)) in sym same ∙ rw (h, is, wrong) refl

-- one more section
pub sections-on : (numbers : Numbers) (kind : Kind) (parts onward : Parts) (ts mid rest : List Token) (w : Spelled) (less mids left : ℕ) (total : Result (Parts × List Token) Flaw)
    → a_word (statement ts) ≡ Ok (w, mid) → is_word (codes "ENDMODULE") w ≡ false → mids < left → less < mids → ((n : ℕ) → mids < n → section_after numbers n kind parts w mid ≡ Ok (onward, rest))
    → GoesOn left (λ m. sections numbers m kind parts ts) total → GoesOn less (λ m. sections numbers m kind onward rest) total
unfolding sections
sections-on numbers kind parts onward ts mid rest w less mids left total h is lt smaller found so_far = step so_far.steps so_far.enough so_far.same
  where
    step : (m : ℕ) → left < m → sections numbers m kind parts ts ≡ total → GoesOn less (λ m. sections numbers m kind onward rest) total
    step zero le same = absurd (omega (arith, le))
    step (suc m) le same = let right = found m (omega (arith, lt, le)) in record { steps = m; enough = omega (arith, lt, smaller, le); same = sym (rw (h, is, right) refl) ∙ same }

-- the modules of a file: the end of the text, a module that fails, one more module
pub modules-end : (numbers : Numbers) (before : List Module) (ts : List Token) (left : ℕ) (total : Result (List Module) Flaw)
    → is_empty (statement ts) ≡ true → GoesOn left (λ m. modules numbers m before ts) total → total ≡ Ok before
unfolding modules
modules-end numbers before ts left total is so_far = step so_far.steps so_far.enough so_far.same
  where
    step : (m : ℕ) → left < m → modules numbers m before ts ≡ total → total ≡ Ok before
    step zero lt same = absurd (omega (arith, lt))
    step (suc m) lt same = sym same ∙ rw is refl

-- a module that fails
pub modules-fails : (numbers : Numbers) (stop : Stop) (before : List Module) (ts : List Token) (less left : ℕ) (total : Result (List Module) Flaw)
    → is_empty (statement ts) ≡ false → less ≤ left → ((n : ℕ) → less < n → Fails flaw_of stop (a_module numbers n (module_names before) (statement ts)))
    → GoesOn left (λ m. modules numbers m before ts) total → Fails flaw_of stop total
unfolding modules
modules-fails numbers Memory before ts less left total is lt bad so_far = tt
modules-fails numbers (At e) before ts less left total is lt bad so_far = step so_far.steps so_far.enough so_far.same
  where
    step : (m : ℕ) → left < m → modules numbers m before ts ≡ total → total ≡ Err e
    step zero le same = absurd (omega (arith, le))
    step (suc m) le same = let wrong = bad (suc m) (omega (arith, lt, le)) in sym same ∙ rw (is, wrong) refl

-- one more module
pub modules-on : (numbers : Numbers) (before : List Module) (x : Module) (ts rest : List Token) (less mids left : ℕ) (total : Result (List Module) Flaw)
    → is_empty (statement ts) ≡ false → mids ≤ left → less < mids → ((n : ℕ) → mids < n → a_module numbers n (module_names before) (statement ts) ≡ Ok (x, rest))
    → GoesOn left (λ m. modules numbers m before ts) total → GoesOn less (λ m. modules numbers m (before ++ x ∷ []) rest) total
unfolding modules
modules-on numbers before x ts rest less mids left total is lt smaller found so_far = step so_far.steps so_far.enough so_far.same
  where
    step : (m : ℕ) → left < m → modules numbers m before ts ≡ total → GoesOn less (λ m. modules numbers m (before ++ x ∷ []) rest) total
    step zero le same = absurd (omega (arith, le))
    step (suc m) le same = let right = found (suc m) (omega (arith, lt, le)) in record { steps = m; enough = omega (arith, lt, smaller, le); same = sym (rw (is, right) refl) ∙ same }
