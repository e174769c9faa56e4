use Rattle.std.proofs.Common.{◌≡◌, ◌+◌, ◌++◌, ◌∙◌, sym, ap, refl, ℕ, List, Option, Some, None, length, min, take, arith, append_assoc}
use Rattle.std.proofs.Math.Seq.{take-append-add}
use Rattle.std.proofs.lemmas.List.{take-append-le, take_min}
use Rattle.shelf_io.specs.Told.{EndsWithin, Refines, appended}

-- two appends are one of both pieces
pub appended-twice : (first second third : Option (List ℕ)) (x y : List ℕ)
    → Refines second (appended first x) → Refines third (appended second y)
    → Refines third (appended first (x ++ y))
appended-twice first None third x y one two = λ bytes at.
    let none : appended None y ≡ Some bytes = two bytes at in cc
appended-twice None (Some held) third x y one two = λ bytes at.
    let none : appended None x ≡ Some held = one held refl in cc
appended-twice (Some start) (Some held) third x y one two = λ bytes at.
    let front : start ++ x ≡ held = cc (one held refl) in
    let whole : held ++ y ≡ bytes = cc (two bytes at) in
    ap (λ (l : List ℕ). Some l) (sym (append_assoc start x y) ∙ ap (λ (l : List ℕ). l ++ y) front ∙ whole)

-- what was put in two parts is the text of both
pub both-whole : (before mid after : Option (List ℕ)) (x y text : List ℕ) → x ++ y ≡ text
    → Refines mid (appended before x) → Refines after (appended mid y) → Refines after (appended before text)
both-whole before mid after x y text is one two = rw (← is) (appended-twice before mid after x y one two)

-- a front of the first part is a front of the text
pub first-front : (before after : Option (List ℕ)) (x y text : List ℕ) → x ++ y ≡ text
    → EndsWithin before x after → EndsWithin before text after
first-front before after x y text is ends held at =
    let found = ends held at in
    let k : ℕ = min found.0 (length x) in
    let front : take k text ≡ take found.0 x =
    ap (take k) (sym is) ∙ take-append-le k x y (omega arith) ∙ take_min found.0 x in
    (k, ap (appended before) front ∙ found.1)

-- the first part and a front of the second are a front of the text
pub second-front : (before mid after : Option (List ℕ)) (x y text : List ℕ) → x ++ y ≡ text
    → Refines mid (appended before x) → EndsWithin mid y after → EndsWithin before text after
second-front before None after x y text is one ends held at =
    let found = ends held at in
    let none : appended None (take found.0 y) ≡ Some held = found.1 in cc
second-front None (Some middle) after x y text is one ends held at =
    let none : appended None x ≡ Some middle = one middle refl in cc
second-front (Some start) (Some middle) after x y text is one ends held at =
    let found = ends held at in
    let front : start ++ x ≡ middle = cc (one middle refl) in
    let whole : middle ++ take found.0 y ≡ held = cc found.1 in
    let reach : take (length x + found.0) text ≡ x ++ take found.0 y =
    ap (take (length x + found.0)) (sym is) ∙ take-append-add x y found.0 in (
      length x + found.0,
      ap (λ (l : List ℕ). Some l) (ap (λ (l : List ℕ). start ++ l) reach ∙ sym (append_assoc start x (take found.0 y))
          ∙ ap (λ (l : List ℕ). l ++ take found.0 y) front ∙ whole),
    )
