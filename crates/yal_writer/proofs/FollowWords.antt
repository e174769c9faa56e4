use Rattle.std.proofs.Common.{◌≡◌, ℕ, ℤ, Bool, true, false, ◌&&◌, List, [], ◌∷◌, refl, ap, ap₂}
use Rattle.yal_reader.specs.Numbers.{a_number, number, number_run}
use Rattle.yal_reader.specs.Tokens.{Token, word, semicolon}
use Rattle.yal_reader.specs.Words.{a_flow, a_kind, a_word, after_stop, an_end, flow_of, is_empty, is_word, kind_of, or_bad, past_words, spells, statement, the_word, words}
use Rattle.yal_reader.specs.declared.fault.YalKind.TheVariants as faults
use Rattle.yal_reader.specs.declared.notation.Numbers.{Numbers}
use Rattle.yal_writer.proofs.Alike.{Alike, Follows, Same, SameWord, both, either, next, none, ok}

-- a word
pub same-word : (tail ts us : List Token) → Alike tail ts us → Follows (SameWord tail) (a_word ts) (a_word us)
same-word tail [] us h = none _ _
same-word tail (semicolon l ∷ ts) us h = none _ _
same-word tail (word w ∷ ts) [] h = absurd h.says
same-word tail (word w ∷ ts) (semicolon m ∷ us) h = absurd h.says
same-word tail (word w ∷ ts) (word v ∷ us) h = ok (w, ts) (v, us) (h.says.0, record { says = h.says.1 })

-- the end of a statement
pub same-end : (tail ts us : List Token) → Alike tail ts us → Follows (Alike tail) (an_end ts) (an_end us)
same-end tail [] us h = none _ _
same-end tail (word w ∷ ts) us h = none _ _
same-end tail (semicolon l ∷ ts) [] h = absurd h.says
same-end tail (semicolon l ∷ ts) (word v ∷ us) h = absurd h.says
same-end tail (semicolon l ∷ ts) (semicolon m ∷ us) h = ok ts us (record { says = h.says })

-- the statement that comes next, where there is one
pub same-statement : (tail ts us : List Token) → is_empty (statement ts) ≡ false → Alike tail ts us → Alike tail (statement ts) (statement us)
same-statement tail [] us some h = let never : ⊥ = cc in absurd never
same-statement tail (word w ∷ ts) [] some h = absurd h.says
same-statement tail (word w ∷ ts) (semicolon m ∷ us) some h = absurd h.says
same-statement tail (word w ∷ ts) (word v ∷ us) some h = h
same-statement tail (semicolon l ∷ ts) [] some h = absurd h.says
same-statement tail (semicolon l ∷ ts) (word v ∷ us) some h = absurd h.says
same-statement tail (semicolon l ∷ ts) (semicolon m ∷ us) some h = same-statement tail ts us some (record { says = h.says })

-- and where there is none, what comes next is that of the tail
pub no-statement : (tail ts us : List Token) → is_empty (statement ts) ≡ true → Alike tail ts us → statement us ≡ statement tail
no-statement tail [] us none h = ap statement h.says
no-statement tail (word w ∷ ts) us none h = let never : ⊥ = cc in absurd never
no-statement tail (semicolon l ∷ ts) [] none h = absurd h.says
no-statement tail (semicolon l ∷ ts) (word v ∷ us) none h = absurd h.says
no-statement tail (semicolon l ∷ ts) (semicolon m ∷ us) none h = no-statement tail ts us none (record { says = h.says })

-- the first word of the next statement
pub same-first : (tail ts us : List Token) → Alike tail ts us → Follows (SameWord tail) (a_word (statement ts)) (a_word (statement us))
same-first tail ts us h = by (is_empty (statement ts)) refl
  where
    empty : (xs : List Token) → is_empty xs ≡ true → Follows (SameWord tail) (a_word xs) (a_word (statement us))
    empty [] is = none _ _
    empty (t ∷ xs) is = cc

    by : (b : Bool) → is_empty (statement ts) ≡ b → Follows (SameWord tail) (a_word (statement ts)) (a_word (statement us))
    by true is = empty (statement ts) is
    by false is = same-word tail (statement ts) (statement us) (same-statement tail ts us is h)

-- a keyword
pub same-keyword : (tail : List Token) (keyword : List ℕ) (ts us : List Token) → Alike tail ts us → Follows (Alike tail) (the_word keyword ts) (the_word keyword us)
unfolding the_word
same-keyword tail keyword ts us h =
    next (a_word ts) (a_word us) _ _ (same-word tail ts us h) (λ x y q. either (is_word keyword x.0) (is_word keyword y.0) _ _ _ _ (ap (spells keyword) q.0) (ok x.1 y.1 q.1) (none _ _))

-- words up to a semicolon
pub same-words : (tail ts us : List Token) → Alike tail ts us → Follows (Same tail) (words ts) (words us)
unfolding words
same-words tail [] us h = none _ _
same-words tail (semicolon l ∷ ts) [] h = absurd h.says
same-words tail (semicolon l ∷ ts) (word v ∷ us) h = absurd h.says
same-words tail (semicolon l ∷ ts) (semicolon m ∷ us) h = ok ([], ts) ([], us) (refl, record { says = h.says })
same-words tail (word w ∷ ts) [] h = absurd h.says
same-words tail (word w ∷ ts) (semicolon m ∷ us) h = absurd h.says
same-words tail (word w ∷ ts) (word v ∷ us) h =
    next (words ts) (words us) _ _ (same-words tail ts us (record { says = h.says.1 })) (λ x y q.
    ok (w.text ∷ x.0, x.1) (v.text ∷ y.0, y.1) (ap₂ (λ (a : List ℕ) (b : List (List ℕ)). a ∷ b) h.says.0 q.0, q.1))

-- what follows the next semicolon
pub same-past : (tail ts us : List Token) → Alike tail ts us → Follows (Alike tail) (past_words ts) (past_words us)
same-past tail [] us h = none _ _
same-past tail (semicolon l ∷ ts) [] h = absurd h.says
same-past tail (semicolon l ∷ ts) (word v ∷ us) h = absurd h.says
same-past tail (semicolon l ∷ ts) (semicolon m ∷ us) h = ok ts us (record { says = h.says })
same-past tail (word w ∷ ts) [] h = absurd h.says
same-past tail (word w ∷ ts) (semicolon m ∷ us) h = absurd h.says
same-past tail (word w ∷ ts) (word v ∷ us) h = same-past tail ts us (record { says = h.says.1 })

-- what follows an END word
pub same-stop : (tail : List Token) (keyword : List ℕ) (start : Bool) (ts us : List Token) → Alike tail ts us → Follows (Alike tail) (after_stop keyword start ts) (after_stop keyword start us)
unfolding after_stop
same-stop tail keyword start [] us h = none _ _
same-stop tail keyword start (semicolon l ∷ ts) [] h = absurd h.says
same-stop tail keyword start (semicolon l ∷ ts) (word v ∷ us) h = absurd h.says
same-stop tail keyword start (semicolon l ∷ ts) (semicolon m ∷ us) h = same-stop tail keyword true ts us (record { says = h.says })
same-stop tail keyword start (word w ∷ ts) [] h = absurd h.says
same-stop tail keyword start (word w ∷ ts) (semicolon m ∷ us) h = absurd h.says
same-stop tail keyword start (word w ∷ ts) (word v ∷ us) h =
    either (start && is_word keyword w) (start && is_word keyword v) _ _ _ _ (ap (λ (t : List ℕ). start && spells keyword t) h.says.0)
    (ok ts us (record { says = h.says.1 })) (same-stop tail keyword false ts us (record { says = h.says.1 }))

-- a type and a flow
pub same-kind : (tail ts us : List Token) → Alike tail ts us → Follows (Same tail) (a_kind ts) (a_kind us)
unfolding a_kind
same-kind tail ts us h =
    next (a_word ts) (a_word us) _ _ (same-word tail ts us h) (λ x y q.
    next (or_bad faults.Word x.0 (kind_of x.0.text)) (or_bad faults.Word y.0 (kind_of y.0.text)) _ _ (both faults.Word x.0 y.0 _ _ (ap kind_of q.0)) (λ k j e.
    ok (k, x.1) (j, y.1) (e, q.1)))

pub same-flow : (tail ts us : List Token) → Alike tail ts us → Follows (Same tail) (a_flow ts) (a_flow us)
unfolding a_flow
same-flow tail ts us h =
    next (a_word ts) (a_word us) _ _ (same-word tail ts us h) (λ x y q.
    next (or_bad faults.Word x.0 (flow_of x.0.text)) (or_bad faults.Word y.0 (flow_of y.0.text)) _ _ (both faults.Word x.0 y.0 _ _ (ap flow_of q.0)) (λ k j e.
    ok (k, x.1) (j, y.1) (e, q.1)))

-- numbers
pub same-number : (tail : List Token) (numbers : Numbers) (ts us : List Token) → Alike tail ts us → Follows (Same tail) (a_number numbers ts) (a_number numbers us)
unfolding a_number
same-number tail numbers ts us h =
    next (a_word ts) (a_word us) _ _ (same-word tail ts us h) (λ x y q.
    next (or_bad faults.Number x.0 (number numbers x.0.text)) (or_bad faults.Number y.0 (number numbers y.0.text)) _ _ (both faults.Number x.0 y.0 _ _ (ap (number numbers) q.0)) (λ k j e.
    ok (k, x.1) (j, y.1) (e, q.1)))

pub same-numbers : (tail : List Token) (numbers : Numbers) (ts us : List Token) → Alike tail ts us → Follows (Same tail) (number_run numbers ts) (number_run numbers us)
unfolding number_run
same-numbers tail numbers [] us h = none _ _
same-numbers tail numbers (semicolon l ∷ ts) [] h = absurd h.says
same-numbers tail numbers (semicolon l ∷ ts) (word v ∷ us) h = absurd h.says
same-numbers tail numbers (semicolon l ∷ ts) (semicolon m ∷ us) h = ok ([], ts) ([], us) (refl, record { says = h.says })
same-numbers tail numbers (word w ∷ ts) [] h = absurd h.says
same-numbers tail numbers (word w ∷ ts) (semicolon m ∷ us) h = absurd h.says
same-numbers tail numbers (word w ∷ ts) (word v ∷ us) h =
    next (or_bad faults.Number w (number numbers w.text)) (or_bad faults.Number v (number numbers v.text)) _ _ (both faults.Number w v _ _ (ap (number numbers) h.says.0)) (λ k j e.
    next (number_run numbers ts) (number_run numbers us) _ _ (same-numbers tail numbers ts us (record { says = h.says.1 })) (λ x y q.
    ok (k ∷ x.0, x.1) (j ∷ y.0, y.1) (ap₂ (λ (a : ℤ) (b : List ℤ). a ∷ b) e q.0, q.1)))
