use Rattle.std.proofs.Common.{◌≡◌, refl, ap, sym, ◌∙◌, append_assoc, ℕ, suc, ◌≤◌, List, [], ◌∷◌, ◌++◌, length, length-append, Bool, true, false, ℤ, pos, negsuc, arith, decimal}
use Rattle.std.proofs.lemmas.Bool.Decides.{nat_tests}
use Rattle.std.proofs.lemmas.Bool.{and_parts}
use Rattle.std.proofs.lemmas.Int.{ints}
use Rattle.std.proofs.lemmas.List.{append-nil}
use Rattle.std.specs.Char.{is_ascii_digit}
use Rattle.std.specs.Fmt.{signed_decimal}
use Rattle.std.specs.List.{list_all}
use Rattle.std.specs.Prelude.{if◌then◌else◌, ◌&&◌}
use Rattle.geom_core.specs.Reach.{IsInReach}
use Rattle.geom_core.specs.declared.layout.Shape.{Shape}
use Rattle.cif_text.specs.Bytes.{is_white, begins, skip, span, without_tail, trimmed}
use Rattle.cif_text.specs.Printing.{blanked}
use Rattle.cif_text.specs.Written.{middle, label_text}
use Rattle.cif_text.proofs.FuelLaws.{span-rest}
use Rattle.cif_text.proofs.NumberLemmas.{decimal-digits, digits-some}
use Rattle.cif_text.proofs.PlainLemmas.{plain-blanked, plain-joined, plain-reach}
use Rattle.cif_text.proofs.PrintableTexts.{IsNameText}
use Rattle.cif_text.proofs.SpanLemmas.{skip-stop}
use Rattle.cif_text.proofs.TextLemmas.{is_shown, shown-bare, shown-ends}
use Rattle.cif_text.proofs.WrittenLayout.{IsLabel}
use Rattle.std_laws.proofs.Searches.{list_all-weaker}

-- a text without the white at its end is no longer
tail-shorter : (text : List ℕ) → length (without_tail text) ≤ length text
tail-shorter [] = omega arith
tail-shorter (c ∷ cs) = by (is_white c && list_all is_white cs) (tail-shorter cs)
  where
    by : (b : Bool) → length (without_tail cs) ≤ length cs → length (if b then [] else c ∷ without_tail cs) ≤ suc (length cs)
    by true fewer = omega arith
    by false fewer = omega arith

-- a text without white at its ends begins with none
bare-begins : (text : List ℕ) → trimmed text ≡ text → begins is_white text ≡ false
bare-begins [] bare = refl
bare-begins (c ∷ cs) bare = by (is_white c) refl
  where
    by : (b : Bool) → is_white c ≡ b → b ≡ false
    by false is = refl
    by true is =
        let first : trimmed (c ∷ cs) ≡ without_tail (skip is_white cs) =
        ap (λ (b : Bool). without_tail (if◌then◌else◌ {A = List ℕ × List ℕ} b (c ∷ (span is_white cs).0, (span is_white cs).1) ([], c ∷ cs)).1) is in
        let whole : length (c ∷ cs) ≡ length (without_tail (skip is_white cs)) = ap length (sym bare ∙ first) in
        let kept : length (without_tail (skip is_white cs)) ≤ length (skip is_white cs) = tail-shorter (skip is_white cs) in
        let rest : length (skip is_white cs) ≤ length cs = span-rest is_white cs in
        absurd (omega arith)

-- and begins so with any bytes behind it
begins-joined : (xs ys : List ℕ) → 1 ≤ length xs → begins is_white xs ≡ false → begins is_white (xs ++ ys) ≡ false
begins-joined [] ys some stop = absurd (omega arith)
begins-joined (x ∷ xs) ys some stop = stop

-- where bytes that are not white stand last, there is no white at the end
not-all : (xs ys : List ℕ) → list_all is_white ys ≡ false → list_all is_white (xs ++ ys) ≡ false
not-all [] ys shows = shows
not-all (x ∷ xs) ys shows = by (is_white x) (not-all xs ys shows)
  where
    by : (b : Bool) → list_all is_white (xs ++ ys) ≡ false → (b && list_all is_white (xs ++ ys)) ≡ false
    by true more = more
    by false more = refl

no-tail : (xs ys : List ℕ) → list_all is_white ys ≡ false → without_tail ys ≡ ys → without_tail (xs ++ ys) ≡ xs ++ ys
no-tail [] ys shows kept = kept
no-tail (x ∷ xs) ys shows kept = by (is_white x) (not-all xs ys shows) (no-tail xs ys shows kept)
  where
    by : (b : Bool) → list_all is_white (xs ++ ys) ≡ false → without_tail (xs ++ ys) ≡ xs ++ ys
        → (if b && list_all is_white (xs ++ ys) then [] else x ∷ without_tail (xs ++ ys)) ≡ x ∷ (xs ++ ys)
    by true others more = rw others (ap (λ (rest : List ℕ). x ∷ rest) more)
    by false others more = ap (λ (rest : List ℕ). x ∷ rest) more

shown-some : (bytes : List ℕ) → 1 ≤ length bytes → list_all is_shown bytes ≡ true → list_all is_white bytes ≡ false
shown-some [] some shown = absurd (omega arith)
shown-some (c ∷ cs) some shown = rw (shown-bare c (and_parts (is_shown c) (list_all is_shown cs) shown).0) refl

digit-shown : (c : ℕ) → is_ascii_digit c ≡ true → is_shown c ≡ true
digit-shown c digit = grind (arith, nat_tests)

-- the digits of a number within reach, and the sign before them
number-shown : (z : ℤ) → IsInReach z → list_all is_shown (signed_decimal z) ≡ true
number-shown (pos n) near = list_all-weaker is_ascii_digit is_shown digit-shown (decimal n) (decimal-digits n (omega (arith, ints)))
number-shown (negsuc n) near = list_all-weaker is_ascii_digit is_shown digit-shown (decimal (suc n)) (decimal-digits (suc n) (omega (arith, ints)))

number-some : (z : ℤ) → IsInReach z → 1 ≤ length (signed_decimal z)
number-some (pos n) near = digits-some n (omega (arith, ints))
number-some (negsuc n) near = omega arith

-- the text of a label with its second number last
label-ends : (name x y : List ℕ) → name ++ blanked (x ∷ y ∷ []) ≡ (name ++ (32 ∷ x ++ (32 ∷ []))) ++ y
label-ends name x y = simp (append_assoc, append-nil)

-- the text of a label is a name text, so that it reads as it is
pub label-named : (name : List ℕ) (s : Shape) → IsLabel name s → IsNameText (label_text name s)
label-named name s h =
    let x : List ℕ = signed_decimal (middle s.rect.x0 s.rect.x1) in
    let y : List ℕ = signed_decimal (middle s.rect.y0 s.rect.y1) in
    let front : List ℕ = name ++ (32 ∷ x ++ (32 ∷ [])) in
    let shown : list_all is_shown y ≡ true = number-shown (middle s.rect.y0 s.rect.y1) h.up in
    record {
      some = omega (arith, length-append name (blanked (x ∷ y ∷ [])), h.named.some);
      plain = plain-joined name (blanked (x ∷ y ∷ [])) h.named.plain
          (plain-blanked (x ∷ y ∷ []) (plain-reach (middle s.rect.x0 s.rect.x1) h.across, (plain-reach (middle s.rect.y0 s.rect.y1) h.up, tt)));
      bare = ap without_tail (skip-stop is_white (label_text name s)
          (begins-joined name (blanked (x ∷ y ∷ [])) h.named.some (bare-begins name h.named.bare)))
          ∙ ap without_tail (label-ends name x y)
          ∙ no-tail front y (shown-some y (number-some (middle s.rect.y0 s.rect.y1) h.up) shown) (shown-ends y shown)
          ∙ sym (label-ends name x y);
    }
