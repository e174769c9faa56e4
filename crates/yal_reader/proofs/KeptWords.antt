use Rattle.yal_reader.specs.declared.fault.YalKind.TheVariants as faults
use Rattle.std.proofs.Common.{◌≡◌, ℕ, zero, suc, ◌≤◌, pos, neg_ℤ, Bool, true, false, cond, List, [], ◌∷◌, ◌++◌, length, take, drop, refl, Option, None, Some, IfSome, Result, Ok, Err, IfOk, inl, inr, arith, nat_lt, nat_le, ◌==◌, ◌&&◌, if◌then◌else◌}
use Rattle.std.proofs.lemmas.Bool.{and_from, and_parts, cases_Bool}
use borrow.Author.Tests.{le-leb}
use Rattle.std.proofs.lemmas.Bool.Decides.{nat_tests}
use Rattle.std.proofs.lemmas.Int.{ints}
use Rattle.std.specs.List.{AllByRecursion, list_all, prefix_len}
use Rattle.yal_reader.proofs.Lexing.{word_byte-from}
use Rattle.geom_core.specs.Names.{IsName, is_name_byte}
use Rattle.yal_reader.specs.Kept.{IsCoordinate}
use Rattle.yal_reader.specs.Numbers.{a_number, in_units, is_no_point, is_zero, magnitude, number, number_run, places, pointed, whole_number}
use Rattle.read_base.specs.Steps.{◌>>=◌}
use Rattle.yal_reader.specs.Text.{ascii, onto, uncommented}
use Rattle.yal_reader.specs.Tokens.{Spelled, Token, goes_on, is_blank, is_word_byte, onto_word, semicolon, token_onto, tokens, word}
use Rattle.yal_reader.specs.Words.{a_flow, a_kind, a_word, after_stop, an_end, flow_of, is_word, kind_of, or_bad, past_words, statement, the_word, words}
use Rattle.yal_reader.specs.declared.fault.YalKind.{YalKind}
use Rattle.yal_reader.specs.declared.notation.Numbers.{Numbers}
use Rattle.yal_reader.specs.declared.notation.Numbers.TheVariants.{Whole, Decimal}
use Rattle.yal_reader.specs.Flaws.{Flaw}
use Rattle.read_base.proofs.DigitsLaws.{within-most}
use Rattle.read_base.specs.Digits.{number_within}
use Rattle.std_laws.proofs.Options.{some_mapped, some_unless, some_anything}

-- what a step gives, if it gives anything, has P
pub record Keeps {A : Type 0} (P : A → Type 0) (r : Result A Flaw) : Type 0 where
  pub holds : IfOk r P

-- a value with P
pub ok : {A : Type 0} {P : A → Type 0} (x : A) → P x → Keeps P (Ok x)
ok x h = record { holds = h }

-- a fault
pub err : {A : Type 0} {P : A → Type 0} (e : Flaw) → Keeps P (Err e)
err e = record { holds = tt }

-- one step after another
pub next : {A B : Type 0} {P : A → Type 0} {Q : B → Type 0} (r : Result A Flaw) (f : A → Result B Flaw) → Keeps P r → ((x : A) → P x → Keeps Q (f x)) → Keeps Q (r >>= f)
next (Ok x) f h onward = onward x h.holds
next (Err e) f h onward = record { holds = tt }

-- a choice of two
pub either : {A : Type 0} {P : A → Type 0} (b : Bool) (r s : Result A Flaw) → (b ≡ true → Keeps P r) → (b ≡ false → Keeps P s) → Keeps P (cond b r s)
either true r s yes_r no_s = yes_r refl
either false r s yes_r no_s = no_s refl

-- a value that was found
pub some_or : {A : Type 0} {P : A → Type 0} (kind : YalKind) (w : Spelled) (x : Option A) → IfSome x P → Keeps P (or_bad kind w x)
some_or kind w None h = record { holds = tt }
some_or kind w (Some y) h = record { holds = h }

-- a weaker fact
pub weaker : {A : Type 0} {P Q : A → Type 0} (r : Result A Flaw) → Keeps P r → ((x : A) → P x → Q x) → Keeps Q r
weaker (Ok x) h f = record { holds = f x h.holds }
weaker (Err e) h f = record { holds = tt }

-- each word is a name
abbrev pub IsNamed : Token → Type 0
IsNamed (word w) = IsName w.text
IsNamed (semicolon left) = Unit {0}

-- the words of these tokens are names
pub record Named (ts : List Token) : Type 0 where
  pub each : AllByRecursion IsNamed ts

-- each byte is ASCII
abbrev pub IsPlain : List ℕ → Type 0
IsPlain bs = AllByRecursion (λ c. nat_lt c 128 ≡ true) bs

-- a byte of a word in a plain text shows
name_byte-from : (c : ℕ) → nat_lt c 128 ≡ true → is_word_byte c ≡ true → is_name_byte c ≡ true
name_byte-from c lt is = grind (arith, nat_tests)

-- a name of one byte
name-one : (c : ℕ) → is_name_byte c ≡ true → IsName (c ∷ [])
name-one c is = rw is refl

-- a name with one more byte
name-more : (c : ℕ) (cs : List ℕ) → is_name_byte c ≡ true → IsName cs → IsName (c ∷ cs)
name-more c cs is h = and_from (nat_le 1 (length (c ∷ cs))) _ (le-leb 1 (length (c ∷ cs)) (omega arith)) (and_from (is_name_byte c) _ is (and_parts (nat_le 1 (length cs)) _ h).1)

-- a byte before a word
onto_word-named : (c left : ℕ) (ts : List Token) → is_name_byte c ≡ true → AllByRecursion IsNamed ts → AllByRecursion IsNamed (onto_word c left ts)
onto_word-named c left [] is h = (name-one c is, tt)
onto_word-named c left (word w ∷ ts) is h = (name-more c w.text is h.0, h.1)
onto_word-named c left (semicolon l ∷ ts) is h = (name-one c is, tt)

-- a byte of a word before tokens
named-word : (c : ℕ) (cs : List ℕ) (ts : List Token) → nat_lt c 128 ≡ true → is_blank c ≡ false → (c == 59) ≡ false → AllByRecursion IsNamed ts → AllByRecursion IsNamed (token_onto c cs ts)
named-word c cs ts lt p q h =
    let is = name_byte-from c lt (word_byte-from c p q) in
    elim (cases_Bool (goes_on cs)) [ inl on ↦ rw (p, q, on) (onto_word-named c (length (c ∷ cs)) ts is h) | inr off ↦ rw (p, q, off) (name-one c is, h) ]

-- any byte before tokens
named-onto : (c : ℕ) (cs : List ℕ) (ts : List Token) → nat_lt c 128 ≡ true → AllByRecursion IsNamed ts → AllByRecursion IsNamed (token_onto c cs ts)
named-onto c cs ts lt h = elim (cases_Bool (is_blank c)) [
  | inl p ↦ rw p h
  | inr p ↦ elim (cases_Bool (c == 59)) [ inl q ↦ rw (p, q) (tt, h) | inr q ↦ named-word c cs ts lt p q h ]
]

-- the words of a plain text are names
tokens-each : (bs : List ℕ) → IsPlain bs → AllByRecursion IsNamed (tokens bs)
unfolding tokens
tokens-each [] h = tt
tokens-each (c ∷ cs) h = named-onto c cs (tokens cs) h.0 (tokens-each cs h.1)

-- the same, as a record
pub tokens-named : (bs : List ℕ) → IsPlain bs → Named (tokens bs)
tokens-named bs h = record { each = tokens-each bs h }

-- a text that passes the test is plain
pub ascii-plain : (bs : List ℕ) → Keeps (λ _. IsPlain bs) (ascii bs)
ascii-plain [] = record { holds = tt }
ascii-plain (c ∷ cs) = either (nat_lt c 128) (ascii cs) _ (λ is. weaker (ascii cs) (ascii-plain cs) (λ x h. (is, h))) (λ _. err _)

-- a text without comments is as long, and as plain
pub onto-kept : (c : ℕ) (cs : List ℕ) (text : Result (List ℕ) Flaw) → nat_lt c 128 ≡ true → Keeps (λ t. IsPlain t × (length t ≡ length cs)) text
    → Keeps (λ t. IsPlain t × (length t ≡ suc (length cs))) (onto c text)
onto-kept c cs (Ok t) is h = record { holds = ((is, h.holds.0), omega (arith, h.holds.1)) }
onto-kept c cs (Err e) is h = record { holds = tt }

-- the same of the whole text
pub uncommented-kept : (at : Option ℕ) (bs : List ℕ) → IsPlain bs → Keeps (λ t. IsPlain t × (length t ≡ length bs)) (uncommented at bs)
unfolding uncommented
uncommented-kept None [] h = ok [] (tt, refl)
uncommented-kept None (c ∷ []) h = ok (c ∷ []) (h, refl)
uncommented-kept None (c ∷ d ∷ cs) h = either (c == 47 && d == 42) _ _
    (λ _. onto-kept 32 (d ∷ cs) _ refl (onto-kept 32 cs _ refl (uncommented-kept (Some (length (c ∷ d ∷ cs))) cs h.1.1)))
    (λ _. onto-kept c (d ∷ cs) _ h.0 (uncommented-kept None (d ∷ cs) h.1))
uncommented-kept (Some left) [] h = err _
uncommented-kept (Some left) (c ∷ []) h = err _
uncommented-kept (Some left) (c ∷ d ∷ cs) h = either (c == 42 && d == 47) _ _
    (λ _. onto-kept 32 (d ∷ cs) _ refl (onto-kept 32 cs _ refl (uncommented-kept None cs h.1.1)))
    (λ _. onto-kept 32 (d ∷ cs) _ refl (uncommented-kept (Some left) (d ∷ cs) h.1))

-- a word is a name, and what follows has names
pub kept-word : (ts : List Token) → Named ts → Keeps (λ x. IsName x.0.text × Named x.1) (a_word ts)
kept-word [] h = err _
kept-word (word w ∷ ts) h = ok (w, ts) (h.each.0, record { each = h.each.1 })
kept-word (semicolon left ∷ ts) h = err _

-- what follows a semicolon has names
pub kept-end : (ts : List Token) → Named ts → Keeps Named (an_end ts)
kept-end [] h = err _
kept-end (word w ∷ ts) h = err _
kept-end (semicolon left ∷ ts) h = ok ts (record { each = h.each.1 })

-- what follows semicolons has names
pub kept-statement : (ts : List Token) → Named ts → Named (statement ts)
kept-statement [] h = h
kept-statement (word w ∷ ts) h = h
kept-statement (semicolon left ∷ ts) h = kept-statement ts (record { each = h.each.1 })

-- what follows a keyword has names
pub kept-keyword : (keyword : List ℕ) (ts : List Token) → Named ts → Keeps Named (the_word keyword ts)
unfolding the_word
kept-keyword keyword ts h = next (a_word ts) _ (kept-word ts h) (λ first k. either (is_word keyword first.0) _ _ (λ _. ok first.1 k.1) (λ _. err _))

-- a run of words is a list of names
pub kept-words : (ts : List Token) → Named ts → Keeps (λ x. AllByRecursion IsName x.0 × Named x.1) (words ts)
unfolding words
kept-words [] h = err _
kept-words (semicolon left ∷ ts) h = ok ([], ts) (tt, record { each = h.each.1 })
kept-words (word w ∷ ts) h = next (words ts) _ (kept-words ts (record { each = h.each.1 })) (λ others k. ok (w.text ∷ others.0, others.1) ((h.each.0, k.0), k.1))

-- what follows a run has names
pub kept-past : (ts : List Token) → Named ts → Keeps Named (past_words ts)
kept-past [] h = err _
kept-past (semicolon left ∷ ts) h = ok ts (record { each = h.each.1 })
kept-past (word w ∷ ts) h = kept-past ts (record { each = h.each.1 })

-- what follows an END word has names
pub kept-stop : (keyword : List ℕ) (start : Bool) (ts : List Token) → Named ts → Keeps Named (after_stop keyword start ts)
unfolding after_stop
kept-stop keyword start [] h = err _
kept-stop keyword start (semicolon left ∷ ts) h = kept-stop keyword true ts (record { each = h.each.1 })
kept-stop keyword start (word w ∷ ts) h =
    either (start && is_word keyword w) _ _ (λ _. ok ts (record { each = h.each.1 })) (λ _. kept-stop keyword false ts (record { each = h.each.1 }))

-- what follows a kind has names
pub kept-kind : (ts : List Token) → Named ts → Keeps (λ x. Named x.1) (a_kind ts)
unfolding a_kind
kept-kind ts h = next (a_word ts) _ (kept-word ts h) (λ first k. next (or_bad faults.Word first.0 (kind_of first.0.text)) _ (some_or {P = λ _. Unit {0}} faults.Word first.0 (kind_of first.0.text) (some_anything (kind_of first.0.text))) (λ kind _. ok (kind, first.1) k.1))

-- what follows a flow has names
pub kept-flow : (ts : List Token) → Named ts → Keeps (λ x. Named x.1) (a_flow ts)
unfolding a_flow
kept-flow ts h = next (a_word ts) _ (kept-word ts h) (λ first k. next (or_bad faults.Word first.0 (flow_of first.0.text)) _ (some_or {P = λ _. Unit {0}} faults.Word first.0 (flow_of first.0.text) (some_anything (flow_of first.0.text))) (λ flow _. ok (flow, first.1) k.1))

-- digits make at most 100,000,000
whole-near : (digits : List ℕ) → IfSome (whole_number digits) (λ m. m ≤ 100000000)
whole-near digits = some_unless (λ m. m ≤ 100000000) (length digits == 0) (number_within 100000000 digits) (within-most 100000000 digits)

-- with a fraction too
units-near : (decimals : ℕ) (whole fraction : List ℕ) → IfSome (in_units decimals whole fraction) (λ m. m ≤ 100000000)
unfolding in_units
units-near decimals whole fraction =
    some_unless (λ m. m ≤ 100000000) (length whole == 0) _ (some-when _ (list_all is_zero (drop decimals fraction)) (within-most 100000000 (whole ++ places decimals fraction)))
  where
    some-when : (x : Option ℕ) (b : Bool) → IfSome x (λ m. m ≤ 100000000) → IfSome (if b then x else None) (λ m. m ≤ 100000000)
    some-when x true near = near
    some-when x false near = tt

pub pointed-near : (decimals : ℕ) (whole behind : List ℕ) → IfSome (pointed decimals whole behind) (λ m. m ≤ 100000000)
unfolding pointed
pointed-near decimals whole [] = units-near decimals whole []
pointed-near decimals whole (point ∷ []) = tt
pointed-near decimals whole (point ∷ c ∷ cs) = units-near decimals whole (c ∷ cs)

-- in every way of writing
pub magnitude-near : (numbers : Numbers) (text : List ℕ) → IfSome (magnitude numbers text) (λ m. m ≤ 100000000)
unfolding magnitude
magnitude-near Whole text = whole-near text
magnitude-near (Decimal decimals) text = pointed-near decimals (take (prefix_len is_no_point text) text) (drop (prefix_len is_no_point text) text)

-- a number from 0 on
near-above : (n : ℕ) → n ≤ 100000000 → IsCoordinate (pos n)
near-above n le = record { low = omega (arith, ints, le); high = omega (arith, ints, le) }

-- a number from 0 down
near-below : (n : ℕ) → n ≤ 100000000 → IsCoordinate (neg_ℤ (pos n))
near-below zero le = record { low = omega (arith, ints); high = omega (arith, ints) }
near-below (suc n) le = record { low = omega (arith, ints, le); high = omega (arith, ints, le) }

-- a number has a magnitude of at most 100,000,000
pub number-near : (numbers : Numbers) (text : List ℕ) → IfSome (number numbers text) IsCoordinate
unfolding number
number-near numbers [] = tt
number-near numbers (c ∷ cs) = elim (cases_Bool (c == 45)) [
  | inl is ↦ rw is (some_mapped (λ m. m ≤ 100000000) IsCoordinate (λ n. neg_ℤ (pos n)) (magnitude numbers cs) near-below (magnitude-near numbers cs))
  | inr is ↦ rw is (some_mapped (λ m. m ≤ 100000000) IsCoordinate (λ n. pos n) (magnitude numbers (c ∷ cs)) near-above (magnitude-near numbers (c ∷ cs)))
]

-- a number that was read is near
pub kept-number : (numbers : Numbers) (ts : List Token) → Named ts → Keeps (λ x. IsCoordinate x.0 × Named x.1) (a_number numbers ts)
unfolding a_number
kept-number numbers ts h = next (a_word ts) _ (kept-word ts h) (λ first k.
    next (or_bad faults.Number first.0 (number numbers first.0.text)) _ (some_or {P = IsCoordinate} faults.Number first.0 (number numbers first.0.text) (number-near numbers first.0.text)) (λ n near.
    ok (n, first.1) (near, k.1)))

-- a run of numbers is near
pub kept-numbers : (numbers : Numbers) (ts : List Token) → Named ts → Keeps (λ x. AllByRecursion IsCoordinate x.0 × Named x.1) (number_run numbers ts)
unfolding number_run
kept-numbers numbers [] h = err _
kept-numbers numbers (semicolon left ∷ ts) h = ok ([], ts) (tt, record { each = h.each.1 })
kept-numbers numbers (word w ∷ ts) h =
    next (or_bad faults.Number w (number numbers w.text)) _ (some_or {P = IsCoordinate} faults.Number w (number numbers w.text) (number-near numbers w.text)) (λ n near.
    next (number_run numbers ts) _ (kept-numbers numbers ts (record { each = h.each.1 })) (λ others k.
    ok (n ∷ others.0, others.1) ((near, k.0), k.1)))
