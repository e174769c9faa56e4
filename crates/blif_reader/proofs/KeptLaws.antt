use Rattle.std.proofs.Common.{◌≡◌, ℕ, zero, suc, Bool, true, false, cond, List, [], ◌∷◌, ◌++◌, length, take, drop, refl, ap, ◌∙◌, ◌-◌, length-drop, None, Some, IfSome, Result, Ok, Err, IfOk, inl, inr, arith, nat_lt, nat_le, ◌==◌, ◌&&◌, not, codes, subst}
use Rattle.std.proofs.Math.Bool.{true≢false}
use Rattle.std.proofs.lemmas.Bool.{and_from, and_parts, cases_Bool, not-true}
use Rattle.std.proofs.lemmas.Bool.Decides.{nat_tests}
use borrow.Author.Tests.{le-leb}
use Rattle.std.specs.List.{AllByRecursion, list_all, prefix_len}
use Rattle.geom_core.specs.Names.{is_name_byte}
use Rattle.read_base.specs.Steps.{◌>>=◌}
use Rattle.std_laws.proofs.Every.{every-append, every-push}
use Rattle.std_laws.proofs.Tests.{or-first-false, or-second-false}
use Rattle.std_laws.proofs.Searches.{prefix-on}
use Rattle.blif_reader.proofs.Lexing.{tokens-word}
use Rattle.blif_reader.specs.BlifReads.{closed, file_of, file_with, heading, lines, model}
use Rattle.blif_reader.specs.Flaws.{Flaw}
use Rattle.blif_reader.specs.Kept.{IsKept, IsKeptGate, IsKeptJoin, IsKeptPin, IsKeptWord, IsYalWord, has_comment}
use Rattle.blif_reader.specs.Lines.{a_cname, constant_end, ends_here, equal_row, gate_after, gate_line, is_row, line_after, name_below, one_row, or_table, second_word, table_after, table_of}
use Rattle.blif_reader.specs.Parts.{Parts, no_parts}
use Rattle.blif_reader.specs.Text.{begins, cleaned, fitting, may_stand, opens_comment}
use Rattle.blif_reader.specs.Tokens.{Spelled, Token, goes_on, is_blank, is_word_byte, line_end, onto_word, token_onto, tokens, word}
use Rattle.blif_reader.specs.Words.{a_pin, a_word, an_end, from_line, is_no_equals, is_next, is_word, pins, the_word, worded, words}
use Rattle.blif_reader.specs.declared.file.BlifFile.{BlifFile}
use Rattle.blif_reader.specs.declared.file.BlifWord.{BlifWord}
use Rattle.blif_reader.specs.declared.plain.Within.TheVariants.{Line}

-- what a step gives, if it gives anything, has P
pub record Keeps {A : Type 0} (P : A → Type 0) (r : Result A Flaw) : Type 0 where
  pub holds : IfOk r P

ok : {A : Type 0} {P : A → Type 0} (x : A) → P x → Keeps P (Ok x)
ok x h = record { holds = h }

err : {A : Type 0} {P : A → Type 0} (e : Flaw) → Keeps P (Err e)
err e = record { holds = tt }

-- one step after another
next : {A B : Type 0} {P : A → Type 0} {Q : B → Type 0} (r : Result A Flaw) (f : A → Result B Flaw) → Keeps P r → ((x : A) → P x → Keeps Q (f x)) → Keeps Q (r >>= f)
next (Ok x) f h onward = onward x h.holds
next (Err e) f h onward = record { holds = tt }

-- a choice of two
either : {A : Type 0} {P : A → Type 0} (b : Bool) (r s : Result A Flaw) → (b ≡ true → Keeps P r) → (b ≡ false → Keeps P s) → Keeps P (cond b r s)
either true r s yes_r no_s = yes_r refl
either false r s yes_r no_s = no_s refl

-- the fault of a table in place of another
of_table : {A : Type 0} {P : A → Type 0} (w : Spelled) (r : Result A Flaw) → Keeps P r → Keeps P (or_table w r)
of_table w (Ok x) h = record { holds = h.holds }
of_table w (Err e) h = record { holds = tt }

-- each byte of a text may stand, and no `/` stands before a `*`
abbrev IsFitting : List ℕ → Type 0
IsFitting [] = Unit {0}
IsFitting (c ∷ cs) = (may_stand c ≡ true) × (opens_comment c cs ≡ false) × IsFitting cs

-- a text that passes the test
fitting-is : (bs : List ℕ) → Keeps (λ _. IsFitting bs) (fitting bs)
fitting-is [] = record { holds = tt }
fitting-is (c ∷ cs) =
    either (may_stand c && not (opens_comment c cs)) (fitting cs) _
    (λ is. let p = and_parts (may_stand c) (not (opens_comment c cs)) is in passed p.0 (not-true (opens_comment c cs) p.1) (fitting cs) (fitting-is cs))
    (λ _. err _)
  where
    passed : may_stand c ≡ true → opens_comment c cs ≡ false → (r : Result (Unit {0}) Flaw) → Keeps (λ _. IsFitting cs) r → Keeps (λ _. IsFitting (c ∷ cs)) r
    passed p q (Ok x) h = record { holds = (p, q, h.holds) }
    passed p q (Err e) h = record { holds = tt }

-- each word can be written in YAL, and the first begins with the text
abbrev IsNamed : Token → Type 0
IsNamed (word w) = IsYalWord w.text
IsNamed (line_end left) = Unit {0}

-- the words of these tokens can be written in YAL
pub record Named (ts : List Token) : Type 0 where
  pub each : AllByRecursion IsNamed ts

-- a byte of a word that may stand is one of a name
name_byte-from : (c : ℕ) → may_stand c ≡ true → is_blank c ≡ false → (c == 10) ≡ false → is_name_byte c ≡ true
name_byte-from c is blank feed = grind (arith, nat_tests)

and_false : (b : Bool) → (b && false) ≡ false
and_false true = refl
and_false false = refl

-- a word of one byte
yal-one : (c : ℕ) → is_name_byte c ≡ true → IsYalWord (c ∷ [])
yal-one c is = record { name = rw is refl; plain = rw (and_false (c == 47)) refl }

-- whether the first word begins with this byte
abbrev first_begins : ℕ → List Token → Bool
first_begins b (word w ∷ ts) = begins b w.text
first_begins b ts = false

-- the first word of a text that begins with one begins as the text does
first-begins : (b : ℕ) (cs : List ℕ) → goes_on cs ≡ true → first_begins b (tokens cs) ≡ begins b cs
first-begins b [] on = absurd (true≢false (sym_false on))
  where
    sym_false : false ≡ true → true ≡ false
    sym_false h = cc
first-begins b (c ∷ cs) on = rw (tokens-word (c ∷ cs) on, prefix-on is_word_byte c cs on) refl

-- a word with one more byte
yal-more : (c : ℕ) (text : List ℕ) → is_name_byte c ≡ true → opens_comment c text ≡ false → IsYalWord text → IsYalWord (c ∷ text)
yal-more c text is shut h = record {
  name = and_from (nat_le 1 (length (c ∷ text))) _ (le-leb 1 (length (c ∷ text)) (omega arith)) (and_from (is_name_byte c) _ is (and_parts (nat_le 1 (length text)) _ h.name).1);
  plain = rw (shut, h.plain) refl;
}

-- a byte before a word
onto_word-named : (c left : ℕ) (cs : List ℕ) (ts : List Token) → is_name_byte c ≡ true → opens_comment c cs ≡ false → first_begins 42 ts ≡ begins 42 cs
    → AllByRecursion IsNamed ts → AllByRecursion IsNamed (onto_word c left ts)
onto_word-named c left cs [] is shut same h = (yal-one c is, tt)
onto_word-named c left cs (word w ∷ ts) is shut same h = (yal-more c w.text is (ap (λ (b : Bool). c == 47 && b) same ∙ shut) h.0, h.1)
onto_word-named c left cs (line_end l ∷ ts) is shut same h = (yal-one c is, tt)

-- any byte before tokens
named-onto : (c : ℕ) (cs : List ℕ) → may_stand c ≡ true → opens_comment c cs ≡ false → AllByRecursion IsNamed (tokens cs) → AllByRecursion IsNamed (token_onto c cs (tokens cs))
named-onto c cs may shut h = elim (cases_Bool (is_blank c)) [
  | inl p ↦ rw p h
  | inr p ↦ elim (cases_Bool (c == 10)) [
    | inl q ↦ rw (p, q) (tt, h)
    | inr q ↦
        let is = name_byte-from c may p q in
        elim (cases_Bool (goes_on cs)) [
          | inl on ↦ rw (p, q, on) (onto_word-named c (length (c ∷ cs)) cs (tokens cs) is shut (first-begins 42 cs on) h)
          | inr off ↦ rw (p, q, off) (yal-one c is, h)
        ]
  ]
]

-- the words of a fitting text can be written in YAL
tokens-each : (bs : List ℕ) → IsFitting bs → AllByRecursion IsNamed (tokens bs)
unfolding tokens
tokens-each [] h = tt
tokens-each (c ∷ cs) h = named-onto c cs h.0 h.1 (tokens-each cs h.2)

-- a front of bytes that pass, and what stands behind it
all-take : (n : ℕ) (xs : List ℕ) → list_all is_name_byte xs ≡ true → list_all is_name_byte (take n xs) ≡ true
all-take zero xs h = refl
all-take (suc n) [] h = refl
all-take (suc n) (x ∷ xs) h = let p = and_parts (is_name_byte x) (list_all is_name_byte xs) h in and_from (is_name_byte x) _ p.0 (all-take n xs p.1)

all-drop : (n : ℕ) (xs : List ℕ) → list_all is_name_byte xs ≡ true → list_all is_name_byte (drop n xs) ≡ true
all-drop zero xs h = h
all-drop (suc n) [] h = refl
all-drop (suc n) (x ∷ xs) h = all-drop n xs (and_parts (is_name_byte x) (list_all is_name_byte xs) h).1

plain-take : (n : ℕ) (xs : List ℕ) → has_comment xs ≡ false → has_comment (take n xs) ≡ false
plain-take zero xs h = refl
plain-take (suc n) [] h = refl
plain-take (suc n) (x ∷ xs) h =
    rw (shut n xs (or-first-false (opens_comment x xs) (has_comment xs) h), plain-take n xs (or-second-false (opens_comment x xs) (has_comment xs) h)) refl
  where
    shut : (n : ℕ) (xs : List ℕ) → opens_comment x xs ≡ false → opens_comment x (take n xs) ≡ false
    shut zero xs h = and_false (x == 47)
    shut (suc n) [] h = h
    shut (suc n) (y ∷ ys) h = h

plain-drop : (n : ℕ) (xs : List ℕ) → has_comment xs ≡ false → has_comment (drop n xs) ≡ false
plain-drop zero xs h = h
plain-drop (suc n) [] h = refl
plain-drop (suc n) (x ∷ xs) h = plain-drop n xs (or-second-false (opens_comment x xs) (has_comment xs) h)

-- a part that has bytes
yal-take : (n : ℕ) (xs : List ℕ) → IsYalWord xs → (length (take n xs) == 0) ≡ false → IsYalWord (take n xs)
yal-take n xs h some = record {
  name = and_from (nat_le 1 (length (take n xs))) _ (one (length (take n xs)) some) (all-take n xs (and_parts (nat_le 1 (length xs)) _ h.name).1);
  plain = plain-take n xs h.plain;
}
  where
    one : (m : ℕ) → (m == 0) ≡ false → nat_le 1 m ≡ true
    one m is = grind (arith, nat_tests)

yal-drop : (n : ℕ) (xs : List ℕ) → IsYalWord xs → nat_lt (length (drop n xs)) 2 ≡ false → IsYalWord (drop 1 (drop n xs))
yal-drop n xs h some = record {
  name = and_from (nat_le 1 (length (drop 1 (drop n xs)))) _ (one (length (drop n xs)) (length (drop 1 (drop n xs))) some (length-drop 1 (drop n xs)))
      (all-drop 1 (drop n xs) (all-drop n xs (and_parts (nat_le 1 (length xs)) _ h.name).1));
  plain = plain-drop 1 (drop n xs) (plain-drop n xs h.plain);
}
  where
    one : (m k : ℕ) → nat_lt m 2 ≡ false → k ≡ m - 1 → nat_le 1 k ≡ true
    one m k is e = grind (arith, nat_tests)

-- a word, and what follows
kept-word : (ts : List Token) → Named ts → Keeps (λ x. IsYalWord x.0.text × Named x.1) (a_word ts)
kept-word [] h = err _
kept-word (word w ∷ ts) h = ok (w, ts) (h.each.0, record { each = h.each.1 })
kept-word (line_end left ∷ ts) h = err _

kept-end : (ts : List Token) → Named ts → Keeps Named (an_end ts)
kept-end [] h = ok [] h
kept-end (word w ∷ ts) h = err _
kept-end (line_end left ∷ ts) h = ok ts (record { each = h.each.1 })

kept-line : (ts : List Token) → Named ts → Named (from_line ts)
kept-line [] h = h
kept-line (word w ∷ ts) h = h
kept-line (line_end left ∷ ts) h = kept-line ts (record { each = h.each.1 })

kept-keyword : (text : List ℕ) (ts : List Token) → Named ts → Keeps Named (the_word text ts)
unfolding the_word
kept-keyword text ts h = next (a_word ts) _ (kept-word ts h) (λ first k. either (is_word text first.0) _ _ (λ _. ok first.1 k.1) (λ _. err _))

-- the words of a line
kept-words : (size : ℕ) (ts : List Token) → Named ts → AllByRecursion IsKeptWord (words size ts).0 × Named (words size ts).1
unfolding words
kept-words size [] h = (tt, h)
kept-words size (line_end left ∷ ts) h = (tt, record { each = h.each.1 })
kept-words size (word w ∷ ts) h = let k = kept-words size ts (record { each = h.each.1 }) in ((record { text = h.each.0 }, k.0), k.1)

-- a pin
kept-pin : (size : ℕ) (w : Spelled) → IsYalWord w.text → Keeps IsKeptPin (a_pin size w)
unfolding a_pin
kept-pin size w h =
    let long = prefix_len is_no_equals w.text in
    either (length (take long w.text) == 0) _ _ (λ _. err _) (λ some.
    either (nat_lt (length (drop long w.text)) 2) _ _ (λ _. err _) (λ more.
    ok _ (record { terminal = yal-take long w.text h some; net = yal-drop long w.text h more })))

kept-pins : (size : ℕ) (ts : List Token) → Named ts → Keeps (λ x. AllByRecursion IsKeptPin x.0 × Named x.1) (pins size ts)
unfolding pins
kept-pins size [] h = ok ([], []) (tt, h)
kept-pins size (line_end left ∷ ts) h = ok ([], ts) (tt, record { each = h.each.1 })
kept-pins size (word w ∷ ts) h =
    next (a_pin size w) _ (kept-pin size w h.each.0) (λ pin kp.
    next (pins size ts) _ (kept-pins size ts (record { each = h.each.1 })) (λ others k.
    ok (pin ∷ others.0, others.1) ((kp, k.0), k.1)))

-- a gate with its name
kept-cname : (size : ℕ) (ts : List Token) → Named ts → Keeps (λ x. IsKeptWord x.0 × Named x.1) (a_cname size ts)
unfolding a_cname
kept-cname size ts h =
    next (the_word (codes ".cname") ts) _ (kept-keyword (codes ".cname") ts h) (λ opened ko.
    next (a_word opened) _ (kept-word opened ko) (λ name kn.
    next (an_end name.1) _ (kept-end name.1 kn.1) (λ rest kr.
    ok (worded size name.0, rest) (record { text = kn.0 }, kr))))

kept-below : (size : ℕ) (ts : List Token) → Named ts → Keeps (λ x. IfSome x.0 IsKeptWord × Named x.1) (name_below size ts)
unfolding name_below
kept-below size ts h = either (is_next (codes ".cname") (from_line ts)) _ _
    (λ _. next (a_cname size (from_line ts)) _ (kept-cname size (from_line ts) (kept-line ts h)) (λ x k. ok (Some x.0, x.1) k))
    (λ _. ok (None, ts) (tt, h))

kept-gate : (size : ℕ) (ts : List Token) → Named ts → Keeps (λ x. IsKeptGate x.0 × Named x.1) (gate_after size ts)
unfolding gate_after
kept-gate size ts h =
    next (a_word ts) _ (kept-word ts h) (λ kind kk.
    next (pins size kind.1) _ (kept-pins size kind.1 kk.1) (λ ended ke.
    next (name_below size ended.1) _ (kept-below size ended.1 ke.1) (λ name kn.
    ok _ (record { «module» = kk.0; name = kn.0; pins = ke.0 }, kn.1))))

-- what the lines gave so far
pub record AreKept (p : Parts) : Type 0 where
  pub inputs : AllByRecursion IsKeptWord p.inputs
  pub outputs : AllByRecursion IsKeptWord p.outputs
  pub gates : AllByRecursion IsKeptGate p.gates
  pub joins : AllByRecursion IsKeptJoin p.joins
  pub constants : AllByRecursion IsKeptWord p.constants

kept-gate_line : (size : ℕ) (p : Parts) (ts : List Token) → AreKept p → Named ts → Keeps (λ x. AreKept x.0 × Named x.1) (gate_line size p ts)
unfolding gate_line
kept-gate_line size p ts a h = next (gate_after size ts) _ (kept-gate size ts h) (λ x k.
    ok (record p { gates = p.gates ++ x.0 ∷ [] }, x.1)
    (record { inputs = a.inputs; outputs = a.outputs; gates = every-push IsKeptGate p.gates x.0 a.gates k.0; joins = a.joins; constants = a.constants }, k.1))

-- the rows of tables
kept-one : (ts : List Token) → Named ts → Keeps Named (one_row ts)
unfolding one_row
kept-one ts h = next (the_word (codes "1") ts) _ (kept-keyword (codes "1") ts h) (λ rest k. kept-end rest k)

kept-equal : (ts : List Token) → Named ts → Keeps Named (equal_row ts)
unfolding equal_row
kept-equal ts h = next (the_word (codes "1") ts) _ (kept-keyword (codes "1") ts h) (λ rest k. kept-one rest k)

kept-constant : (ts : List Token) → Named ts → Keeps Named (constant_end ts)
unfolding constant_end
kept-constant ts h = next (an_end ts) _ (kept-end ts h) (λ ended k. either (is_row (from_line ended)) _ _ (λ _. kept-one (from_line ended) (kept-line ended k)) (λ _. ok ended k))

kept-second : (ts : List Token) → Named ts → Keeps (λ x. IsYalWord x.0.text × Named x.1) (second_word ts)
unfolding second_word
kept-second ts h =
    next (a_word ts) _ (kept-word ts h) (λ second ks.
    next (an_end second.1) _ (kept-end second.1 ks.1) (λ ended ke.
    next (equal_row (from_line ended)) _ (kept-equal (from_line ended) (kept-line ended ke)) (λ rest kr.
    ok (second.0, rest) (ks.0, kr))))

kept-table_of : (size : ℕ) (w : Spelled) (p : Parts) (first : Spelled) (ts : List Token) → AreKept p → IsYalWord first.text → Named ts → Keeps (λ x. AreKept x.0 × Named x.1) (table_of size w p first ts)
unfolding table_of
kept-table_of size w p first ts a f h = either (ends_here ts) _ _
    (λ _. next (or_table w (constant_end ts)) _ (of_table w (constant_end ts) (kept-constant ts h)) (λ rest k.
    ok _ (record { inputs = a.inputs; outputs = a.outputs; gates = a.gates; joins = a.joins; constants = every-push IsKeptWord p.constants (worded size first) a.constants (record { text = f }) }, k)))
    (λ _. next (or_table w (second_word ts)) _ (of_table w (second_word ts) (kept-second ts h)) (λ x k.
    ok _ (record { inputs = a.inputs; outputs = a.outputs; gates = a.gates; joins = every-push IsKeptJoin p.joins (record { first = worded size first; second = worded size x.0 }) a.joins (record { first = record { text = f }; second = record { text = k.0 } }); constants = a.constants }, k.1)))

kept-table : (size : ℕ) (w : Spelled) (p : Parts) (ts : List Token) → AreKept p → Named ts → Keeps (λ x. AreKept x.0 × Named x.1) (table_after size w p ts)
unfolding table_after
kept-table size w p ts a h = next (or_table w (a_word ts)) _ (of_table w (a_word ts) (kept-word ts h)) (λ first k. kept-table_of size w p first.0 first.1 a k.0 k.1)

-- one line
kept-line_after : (size : ℕ) (p : Parts) (w : Spelled) (ts : List Token) → AreKept p → Named ts → Keeps (λ x. AreKept x.0 × Named x.1) (line_after size p w ts)
unfolding line_after
kept-line_after size p w ts a h =
    let k = kept-words size ts h in
    either (is_word (codes ".inputs") w) _ _
    (λ _. ok _ (record { inputs = every-append IsKeptWord p.inputs (words size ts).0 a.inputs k.0; outputs = a.outputs; gates = a.gates; joins = a.joins; constants = a.constants }, k.1)) (λ _.
    either (is_word (codes ".outputs") w) _ _
    (λ _. ok _ (record { inputs = a.inputs; outputs = every-append IsKeptWord p.outputs (words size ts).0 a.outputs k.0; gates = a.gates; joins = a.joins; constants = a.constants }, k.1)) (λ _.
    either (is_word (codes ".gate") w) _ _ (λ _. kept-gate_line size p ts a h) (λ _.
    either (is_word (codes ".names") w) _ _ (λ _. kept-table size w p ts a h) (λ _. err _))))

-- all lines
kept-lines : (size n : ℕ) (p : Parts) (ts : List Token) → AreKept p → Named ts → Keeps AreKept (lines size n p ts)
unfolding lines
kept-lines size zero p ts a h = err _
kept-lines size (suc n) p ts a h =
    next (a_word (from_line ts)) _ (kept-word (from_line ts) (kept-line ts h)) (λ first k.
    either (is_word (codes ".end") first.0) _ _
    (λ _. next {P = λ _. Unit {0}} (closed first.1) _ (anything (closed first.1)) (λ x _. ok p a))
    (λ _. next (line_after size p first.0 first.1) _ (kept-line_after size p first.0 first.1 a k.1) (λ more m. kept-lines size n more.0 more.1 m.0 m.1)))
  where
    anything : (r : Result (Unit {0}) Flaw) → Keeps (λ _. Unit {0}) r
    anything (Ok x) = record { holds = tt }
    anything (Err e) = record { holds = tt }

kept-heading : (ts : List Token) → Named ts → Keeps (λ x. IsYalWord x.0.text × Named x.1) (heading ts)
unfolding heading
kept-heading ts h =
    next (the_word (codes ".model") ts) _ (kept-keyword (codes ".model") ts h) (λ opened ko.
    next (a_word opened) _ (kept-word opened ko) (λ name kn.
    next (an_end name.1) _ (kept-end name.1 kn.1) (λ rest kr.
    ok (name.0, rest) (kn.0, kr))))

-- a file of such parts
file-kept : (name : BlifWord) (p : Parts) → IsKeptWord name → AreKept p → IsKept (file_with name p)
file-kept name p n a = record { model = n; inputs = a.inputs; outputs = a.outputs; gates = a.gates; joins = a.joins; constants = a.constants }

kept-model : (size n : ℕ) (ts : List Token) → Named ts → Keeps IsKept (model size n ts)
unfolding model
kept-model size n ts h =
    next (heading (from_line ts)) _ (kept-heading (from_line ts) (kept-line ts h)) (λ head kh.
    next (lines size n no_parts head.1) _ (kept-lines size n no_parts head.1 (record { inputs = tt; outputs = tt; gates = tt; joins = tt; constants = tt }) kh.1) (λ found kf.
    ok (file_with (worded size head.0) found) (file-kept (worded size head.0) found (record { text = kh.0 }) kf)))

kept-file_of : (bytes : List ℕ) → Keeps IsKept (file_of bytes)
unfolding file_of
kept-file_of bytes =
    next (fitting (cleaned Line bytes)) _ (fitting-is (cleaned Line bytes)) (λ _ fits.
    kept-model (length bytes) (suc (length (cleaned Line bytes))) (tokens (cleaned Line bytes)) (record { each = tokens-each (cleaned Line bytes) fits }))

-- what a reading gives has what the reading keeps
kept-value : (P : BlifFile → Type 0) (r : Result BlifFile Flaw) (file : BlifFile) → Keeps P r → r ≡ Ok file → P file
kept-value P (Ok f) file h is = let e : f ≡ file = cc in subst P e h.holds
kept-value P (Err e) file h is = absurd (apart is)
  where
    apart : ◌≡◌ {A = Result BlifFile Flaw} (Err e) (Ok file) → ⊥
    apart is = cc

-- what a text reads as keeps what every file has
pub reads-kept : (bytes : List ℕ) (file : BlifFile) → file_of bytes ≡ Ok file → IsKept file
reads-kept bytes file is = kept-value IsKept (file_of bytes) file (kept-file_of bytes) is
