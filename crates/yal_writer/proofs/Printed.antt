use Rattle.std.proofs.Common.{◌≡◌, ℕ, suc, Bool, true, false, ◌&&◌, List, [], ◌∷◌, ◌++◌, length, take, drop, refl, sym, ap, subst, ◌∙◌, Option, append_assoc, append-nil, Result, Ok, Err, None, Some, arith, nat_lt, ◌==◌}
use Rattle.std.proofs.Math.Bool.{true≢false}
use Rattle.std.proofs.lemmas.Bool.{and_parts}
use Rattle.std.proofs.lemmas.Bool.Decides.{nat_tests}
use Rattle.std.specs.List.{AllByRecursion, list_all, prefix_len}
use Rattle.std_laws.proofs.Searches.{prefix-off, prefix-on}
use Rattle.std_laws.proofs.Tests.{or-first-false, or-second-false}
use Rattle.geom_core.specs.Names.{is_name_byte}
use Rattle.yal_reader.proofs.Lexing.{tokens-blank, tokens-semicolon, tokens-word}
use Rattle.yal_reader.specs.Flaws.{Flaw}
use Rattle.yal_reader.specs.Text.{ascii, onto, uncommented}
use Rattle.yal_reader.specs.Tokens.{Spelled, Token, goes_on, is_blank, is_word_byte, onto_word, semicolon, spelled, token_onto, tokens, word}
use Rattle.yal_writer.proofs.Alike.{Says}
use Rattle.yal_writer.specs.ParentText.{statement, statements}
use Rattle.yal_writer.specs.Writable.{IsWord, begins, has_comment}

-- the tokens of a text with another behind it that begins with a blank
onto_word-says : (tail : List Token) (c l m : ℕ) (ts us : List Token) → (first : Spelled) (rest : List Token) → ts ≡ word first ∷ rest → Says tail ts us
    → Says tail (onto_word c l ts) (onto_word c m us)
onto_word-says tail c l m [] us first rest is h = let never : ⊥ = cc in absurd never
onto_word-says tail c l m (semicolon k ∷ ts) us first rest is h = let never : ⊥ = cc in absurd never
onto_word-says tail c l m (word w ∷ ts) [] first rest is h = absurd h
onto_word-says tail c l m (word w ∷ ts) (semicolon k ∷ us) first rest is h = absurd h
onto_word-says tail c l m (word w ∷ ts) (word v ∷ us) first rest is h = (ap (λ (t : List ℕ). c ∷ t) h.0, h.1)

-- whether a word goes on is not changed by what stands far behind
goes_on-append : (cs more : List ℕ) → goes_on more ≡ false → goes_on (cs ++ more) ≡ goes_on cs
goes_on-append [] more off = off
goes_on-append (c ∷ cs) more off = refl

pub tokens-append : (cs more : List ℕ) → goes_on more ≡ false → Says (tokens more) (tokens cs) (tokens (cs ++ more))
unfolding tokens
tokens-append [] more off = refl
tokens-append (c ∷ cs) more off = by (tokens-append cs more off) (is_blank c) (c == 59) (goes_on cs) refl refl refl
  where
    by : Says (tokens more) (tokens cs) (tokens (cs ++ more)) → (p q r : Bool) → is_blank c ≡ p → (c == 59) ≡ q → goes_on cs ≡ r → Says (tokens more) (token_onto c cs (tokens cs)) (token_onto c (cs ++ more) (tokens (cs ++ more)))
    by rest true q r blank ends on = rw blank rest
    by rest false true r blank ends on = rw (blank, ends) rest
    by rest false false true blank ends on =
        let far : goes_on (cs ++ more) ≡ true = goes_on-append cs more off ∙ on in
        rw (blank, ends, on, far) (onto_word-says (tokens more) c _ _ (tokens cs) (tokens (cs ++ more)) _ _ (tokens-word cs on) rest)
    by rest false false false blank ends on =
        let far : goes_on (cs ++ more) ≡ false = goes_on-append cs more off ∙ on in
        rw (blank, ends, on, far) (refl, rest)

-- a byte of a name is one of a word
name-word : (c : ℕ) → is_name_byte c ≡ true → is_word_byte c ≡ true
name-word c is = grind (arith, nat_tests)

-- bytes of a name before a byte that is none of a word
prefix-name : (w : List ℕ) (c : ℕ) (rest : List ℕ) → list_all is_name_byte w ≡ true → is_word_byte c ≡ false → prefix_len is_word_byte (w ++ c ∷ rest) ≡ length w
prefix-name [] c rest every off = prefix-off is_word_byte c rest off
prefix-name (x ∷ xs) c rest every off =
    let p = and_parts (is_name_byte x) (list_all is_name_byte xs) every in
    prefix-on is_word_byte x (xs ++ c ∷ rest) (name-word x p.0) ∙ ap (λ (n : ℕ). suc n) (prefix-name xs c rest p.1 off)

take-front : (xs ys : List ℕ) → take (length xs) (xs ++ ys) ≡ xs
take-front [] ys = refl
take-front (x ∷ xs) ys = ap (λ (l : List ℕ). x ∷ l) (take-front xs ys)

drop-front : (xs ys : List ℕ) → drop (length xs) (xs ++ ys) ≡ ys
drop-front [] ys = refl
drop-front (x ∷ xs) ys = drop-front xs ys

-- a word that is printed before such a byte is read as it is
pub tokens-name : (w : List ℕ) (c : ℕ) (rest : List ℕ) → IsWord w → is_word_byte c ≡ false → tokens (w ++ c ∷ rest) ≡ word (spelled w (length (w ++ c ∷ rest))) ∷ tokens (c ∷ rest)
tokens-name [] c rest is off = let never : ⊥ = true≢false (sym is.name) in absurd never
tokens-name (x ∷ xs) c rest is off =
    let every : list_all is_name_byte (x ∷ xs) ≡ true = (and_parts _ (list_all is_name_byte (x ∷ xs)) is.name).1 in
    let starts : goes_on ((x ∷ xs) ++ c ∷ rest) ≡ true = name-word x (and_parts (is_name_byte x) (list_all is_name_byte xs) every).0 in
    let long : prefix_len is_word_byte ((x ∷ xs) ++ c ∷ rest) ≡ length (x ∷ xs) = prefix-name (x ∷ xs) c rest every off in
    tokens-word ((x ∷ xs) ++ c ∷ rest) starts
    ∙ ap (λ (n : ℕ). word (spelled (take n ((x ∷ xs) ++ c ∷ rest)) (length ((x ∷ xs) ++ c ∷ rest))) ∷ tokens (drop n ((x ∷ xs) ++ c ∷ rest))) long
    ∙ ap (λ (t : List ℕ). word (spelled t (length ((x ∷ xs) ++ c ∷ rest))) ∷ tokens (drop (length (x ∷ xs)) ((x ∷ xs) ++ c ∷ rest))) (take-front (x ∷ xs) (c ∷ rest))
    ∙ ap (λ (b : List ℕ). word (spelled (x ∷ xs) (length ((x ∷ xs) ++ c ∷ rest))) ∷ tokens b) (drop-front (x ∷ xs) (c ∷ rest))

-- the tokens of a statement before others, with no places
abbrev pub stated : List (List ℕ) → List Token → List Token
stated [] ts = semicolon 0 ∷ ts
stated (w ∷ ws) ts = word (spelled w 0) ∷ stated ws ts

-- of statements
abbrev pub all_stated : List (List (List ℕ)) → List Token → List Token
all_stated [] ts = ts
all_stated (ws ∷ wss) ts = stated ws (all_stated wss ts)

-- blanks, line feeds and semicolons
feed-passes : (rest : List ℕ) → tokens (10 ∷ rest) ≡ tokens rest
feed-passes rest = tokens-blank 10 rest refl

blank-passes : (rest : List ℕ) → tokens (32 ∷ rest) ≡ tokens rest
blank-passes rest = tokens-blank 32 rest refl

-- a printed statement of words reads as its tokens
statement-says : (ws : List (List ℕ)) (more : List ℕ) (ts : List Token) (w : List ℕ) → IsWord w → AllByRecursion IsWord ws → Says [] ts (tokens more)
    → Says [] (stated (w ∷ ws) ts) (tokens (statement (w ∷ ws) ++ more))
statement-says [] more ts w is all says =
    let shape : statement (w ∷ []) ++ more ≡ w ++ 59 ∷ (10 ∷ more) = append_assoc w (59 ∷ 10 ∷ []) more in
    let read : tokens (w ++ 59 ∷ (10 ∷ more)) ≡ word (spelled w (length (w ++ 59 ∷ (10 ∷ more)))) ∷ semicolon (length (59 ∷ (10 ∷ more))) ∷ tokens more =
    tokens-name w 59 (10 ∷ more) is refl ∙ ap (λ (us : List Token). word (spelled w (length (w ++ 59 ∷ (10 ∷ more)))) ∷ us) (tokens-semicolon (10 ∷ more) ∙ ap (λ (us : List Token). semicolon (length (59 ∷ (10 ∷ more))) ∷ us) (feed-passes more)) in
    subst (λ (us : List Token). Says [] (stated (w ∷ []) ts) us) (sym (ap tokens shape ∙ read)) (refl, says)
statement-says (v ∷ vs) more ts w is all says =
    let shape : statement (w ∷ v ∷ vs) ++ more ≡ w ++ 32 ∷ (statement (v ∷ vs) ++ more) = append_assoc w (32 ∷ statement (v ∷ vs)) more in
    let read : tokens (w ++ 32 ∷ (statement (v ∷ vs) ++ more)) ≡ word (spelled w (length (w ++ 32 ∷ (statement (v ∷ vs) ++ more)))) ∷ tokens (statement (v ∷ vs) ++ more) =
    tokens-name w 32 (statement (v ∷ vs) ++ more) is refl ∙ ap (λ (us : List Token). word (spelled w (length (w ++ 32 ∷ (statement (v ∷ vs) ++ more)))) ∷ us) (blank-passes (statement (v ∷ vs) ++ more)) in
    subst (λ (us : List Token). Says [] (stated (w ∷ v ∷ vs) ts) us) (sym (ap tokens shape ∙ read)) (refl, statement-says vs more ts v all.0 all.1 says)

-- words of a statement, at least one
abbrev pub AreWords : List (List ℕ) → Type 0
AreWords [] = ⊥
AreWords (w ∷ ws) = IsWord w × AllByRecursion IsWord ws

-- printed statements read as their tokens
tokens-empty : tokens [] ≡ []
unfolding tokens
tokens-empty = refl

pub statements-say : (wss : List (List (List ℕ))) → AllByRecursion AreWords wss → Says [] (all_stated wss []) (tokens (statements wss))
statements-say [] all = tokens-empty
statements-say ([] ∷ wss) all = absurd all.0
statements-say ((w ∷ ws) ∷ wss) all = statement-says ws (statements wss) (all_stated wss []) w all.0.0 all.0.1 (statements-say wss all.1)

-- each byte is ASCII
pub ascii-append : (xs ys : List ℕ) → ascii xs ≡ Ok tt → ascii (xs ++ ys) ≡ ascii ys
ascii-append [] ys is = refl
ascii-append (c ∷ cs) ys is = by (λ e. ascii-append cs ys e) (nat_lt c 128) refl
  where
    by : (ascii cs ≡ Ok tt → ascii (cs ++ ys) ≡ ascii ys) → (b : Bool) → nat_lt c 128 ≡ b → ascii ((c ∷ cs) ++ ys) ≡ ascii ys
    by far true lt = rw lt (far (rw lt at is))
    by far false lt = let never : ⊥ = bad (rw lt at is) in absurd never
      where
        bad : {e : Flaw} → ◌≡◌ {A = Result (Unit {0}) Flaw} (Err e) (Ok tt) → ⊥
        bad h = cc

name-ascii : (c : ℕ) → is_name_byte c ≡ true → nat_lt c 128 ≡ true
name-ascii c is = grind (arith, nat_tests)

word-ascii : (w : List ℕ) → list_all is_name_byte w ≡ true → ascii w ≡ Ok tt
word-ascii [] every = refl
word-ascii (c ∷ cs) every = let p = and_parts (is_name_byte c) (list_all is_name_byte cs) every in rw (name-ascii c p.0) (word-ascii cs p.1)

every-byte : (w : List ℕ) → IsWord w → list_all is_name_byte w ≡ true
every-byte w is = (and_parts _ (list_all is_name_byte w) is.name).1

statement-ascii : (ws : List (List ℕ)) → AllByRecursion IsWord ws → ascii (statement ws) ≡ Ok tt
statement-ascii [] all = refl
statement-ascii (w ∷ []) all = ascii-append w (59 ∷ 10 ∷ []) (word-ascii w (every-byte w all.0))
statement-ascii (w ∷ v ∷ vs) all = ascii-append w (32 ∷ statement (v ∷ vs)) (word-ascii w (every-byte w all.0)) ∙ statement-ascii (v ∷ vs) all.1

all-words : (ws : List (List ℕ)) → AreWords ws → AllByRecursion IsWord ws
all-words [] all = absurd all
all-words (w ∷ ws) all = all

pub statements-ascii : (wss : List (List (List ℕ))) → AllByRecursion AreWords wss → ascii (statements wss) ≡ Ok tt
statements-ascii [] all = refl
statements-ascii (ws ∷ wss) all = ascii-append (statement ws) (statements wss) (statement-ascii ws (all-words ws all.0)) ∙ statements-ascii wss all.1

-- no comment begins
and_no : (b : Bool) → (b && false) ≡ false
and_no true = refl
and_no false = refl

plain-append : (xs : List ℕ) (c : ℕ) (rest : List ℕ) → has_comment xs ≡ false → (c == 42) ≡ false → has_comment (xs ++ c ∷ rest) ≡ has_comment (c ∷ rest)
plain-append [] c rest plain off = refl
plain-append (x ∷ []) c rest plain off = rw (off, and_no (x == 47)) refl
plain-append (x ∷ y ∷ ys) c rest plain off =
    rw (or-first-false (x == 47 && y == 42) (has_comment (y ∷ ys)) plain) (plain-append (y ∷ ys) c rest (or-second-false (x == 47 && y == 42) (has_comment (y ∷ ys)) plain) off)

statement-plain : (ws : List (List ℕ)) (w : List ℕ) (more : List ℕ) → IsWord w → AllByRecursion IsWord ws → has_comment more ≡ false → has_comment (statement (w ∷ ws) ++ more) ≡ false
statement-plain [] w more is all plain =
    ap has_comment (append_assoc w (59 ∷ 10 ∷ []) more) ∙ plain-append w 59 (10 ∷ more) is.plain refl ∙ plain
statement-plain (v ∷ vs) w more is all plain =
    ap has_comment (append_assoc w (32 ∷ statement (v ∷ vs)) more) ∙ plain-append w 32 (statement (v ∷ vs) ++ more) is.plain refl ∙ statement-plain vs v more all.0 all.1 plain

pub statements-plain : (wss : List (List (List ℕ))) → AllByRecursion AreWords wss → has_comment (statements wss) ≡ false
statements-plain [] all = refl
statements-plain ([] ∷ wss) all = absurd all.0
statements-plain ((w ∷ ws) ∷ wss) all = statement-plain ws w (statements wss) all.0.0 all.0.1 (statements-plain wss all.1)

-- a text in which no comment begins stays as it is
pub uncommented-plain : (xs : List ℕ) → has_comment xs ≡ false → uncommented None xs ≡ Ok xs
unfolding uncommented
uncommented-plain [] plain = refl
uncommented-plain (c ∷ []) plain = refl
uncommented-plain (c ∷ d ∷ cs) plain =
    let p : (c == 47 && d == 42) ≡ false = or-first-false (c == 47 && d == 42) (has_comment (d ∷ cs)) plain in
    rw p (rw (uncommented-plain (d ∷ cs) (or-second-false (c == 47 && d == 42) (has_comment (d ∷ cs)) plain)) refl)

-- a byte in front of what was read
onto-ok : (c : ℕ) (r : Result (List ℕ) Flaw) (text : List ℕ) → onto c r ≡ Ok text → (t : List ℕ) × (r ≡ Ok t) × (c ∷ t ≡ text)
onto-ok c (Ok t) text is = (t, refl, same is)
  where
    same : ◌≡◌ {A = Result (List ℕ) Flaw} (Ok (c ∷ t)) (Ok text) → c ∷ t ≡ text
    same e = cc
onto-ok c (Err e) text is = let never : ⊥ = cc in absurd never

-- what is read with a byte in front
onto-append : (c : ℕ) (r s : Result (List ℕ) Flaw) (text ys : List ℕ) → onto c r ≡ Ok text → ((t : List ℕ) → r ≡ Ok t → s ≡ Ok (t ++ ys)) → onto c s ≡ Ok (text ++ ys)
onto-append c r s text ys is far =
    let there = onto-ok c r text is in
    rw (far there.0 there.1) (ap (λ (t : List ℕ). Ok (t ++ ys)) there.2)

-- where the text stands in a comment, or in none
abbrev at_of : Bool → ℕ → Option ℕ
at_of true l = Some l
at_of false l = None

-- a text whose comments end, with another behind it in which none begins, and which begins with no star
pub uncommented-append : (xs ys text : List ℕ) (inside : Bool) (l m : ℕ) → begins 42 ys ≡ false → uncommented None ys ≡ Ok ys → uncommented (at_of inside l) xs ≡ Ok text
    → uncommented (at_of inside m) (xs ++ ys) ≡ Ok (text ++ ys)
unfolding uncommented
uncommented-append [] ys text true l m star own is = let never : ⊥ = cc in absurd never
uncommented-append [] ys text false l m star own is = own ∙ ap (λ (t : List ℕ). Ok (t ++ ys)) (same is)
  where
    same : ◌≡◌ {A = Result (List ℕ) Flaw} (Ok []) (Ok text) → [] ≡ text
    same e = cc
uncommented-append (c ∷ []) ys text true l m star own is = let never : ⊥ = cc in absurd never
uncommented-append (c ∷ []) [] text false l m star own is = is ∙ ap (λ (t : List ℕ). Ok t) (sym (append-nil text))
uncommented-append (c ∷ []) (d ∷ ds) text false l m star own is =
    rw (star, and_no (c == 47), own) (ap (λ (t : List ℕ). Ok (t ++ d ∷ ds)) (same is))
  where
    same : ◌≡◌ {A = Result (List ℕ) Flaw} (Ok (c ∷ [])) (Ok text) → c ∷ [] ≡ text
    same e = cc
uncommented-append (c ∷ d ∷ cs) ys text true l m star own is =
    by (c == 42 && d == 47) refl is
    (λ t e. uncommented-append cs ys t false l m star own e) (λ t e. uncommented-append (d ∷ cs) ys t true l m star own e)
  where
    by : (b : Bool) → (c == 42 && d == 47) ≡ b → uncommented (Some l) (c ∷ d ∷ cs) ≡ Ok text
        → ((t : List ℕ) → uncommented None cs ≡ Ok t → uncommented None (cs ++ ys) ≡ Ok (t ++ ys))
        → ((t : List ℕ) → uncommented (Some l) (d ∷ cs) ≡ Ok t → uncommented (Some m) ((d ∷ cs) ++ ys) ≡ Ok (t ++ ys))
        → uncommented (Some m) ((c ∷ d ∷ cs) ++ ys) ≡ Ok (text ++ ys)
    by true ends is out on = rw ends (onto-append 32 (onto 32 (uncommented None cs)) (onto 32 (uncommented None (cs ++ ys))) text ys (rw ends at is)
        (λ t e. onto-append 32 (uncommented None cs) (uncommented None (cs ++ ys)) t ys e out))
    by false ends is out on = rw ends (onto-append 32 (uncommented (Some l) (d ∷ cs)) (uncommented (Some m) ((d ∷ cs) ++ ys)) text ys (rw ends at is) on)
uncommented-append (c ∷ d ∷ cs) ys text false l m star own is =
    by (c == 47 && d == 42) refl is
    (λ t e. uncommented-append cs ys t true (length (c ∷ d ∷ cs)) (length (c ∷ d ∷ (cs ++ ys))) star own e) (λ t e. uncommented-append (d ∷ cs) ys t false l m star own e)
  where
    by : (b : Bool) → (c == 47 && d == 42) ≡ b → uncommented None (c ∷ d ∷ cs) ≡ Ok text
        → ((t : List ℕ) → uncommented (Some (length (c ∷ d ∷ cs))) cs ≡ Ok t → uncommented (Some (length (c ∷ d ∷ (cs ++ ys)))) (cs ++ ys) ≡ Ok (t ++ ys))
        → ((t : List ℕ) → uncommented None (d ∷ cs) ≡ Ok t → uncommented None ((d ∷ cs) ++ ys) ≡ Ok (t ++ ys))
        → uncommented None ((c ∷ d ∷ cs) ++ ys) ≡ Ok (text ++ ys)
    by true opens is out on = rw opens (onto-append 32 (onto 32 (uncommented (Some (length (c ∷ d ∷ cs))) cs)) (onto 32 (uncommented (Some (length (c ∷ d ∷ (cs ++ ys)))) (cs ++ ys))) text ys (rw opens at is)
        (λ t e. onto-append 32 (uncommented (Some (length (c ∷ d ∷ cs))) cs) (uncommented (Some (length (c ∷ d ∷ (cs ++ ys)))) (cs ++ ys)) t ys e out))
    by false opens is out on = rw opens (onto-append c (uncommented None (d ∷ cs)) (uncommented None ((d ∷ cs) ++ ys)) text ys (rw opens at is) on)
