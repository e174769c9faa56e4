use Rattle.std.proofs.Common.{◌≡◌, ℕ, ◌+◌, List, ◌++◌, length, ap, ◌∙◌, Some, arith, take, drop, sym, map, append_assoc}
use Rattle.std.specs.Prelude.{slice_get}
use Rattle.std_laws.proofs.Places.{get-before, get-behind}
use Rattle.std.proofs.Math.Seq.{drop-append_seam, take-append_seam}
use Rattle.std.proofs.lemmas.List.{length-map, map-append, length-append}

-- a list stands in another from a place on
pub record Part {X : Type 0} (xs : List X) (start : ℕ) (ys : List X) : Type 0 where
  pub before : List X
  pub after : List X
  pub is : xs ≡ before ++ (ys ++ after)
  pub at : start ≡ length before

-- each element of a part stands behind where the part begins
pub part-get : {X : Type 0} (xs : List X) (start : ℕ) (ys : List X) → Part xs start ys → (j n : ℕ) (y : X) → slice_get ys j ≡ Some y → n ≡ start + j
    → slice_get xs n ≡ Some y
part-get {X = X} xs start ys p j n y at is =
    ap (λ (l : List X). slice_get l n) p.is
    ∙ get-behind p.before (ys ++ p.after) n j (let e = p.at in omega arith)
    ∙ get-before ys p.after j y at

-- a part's elements are as many from where it begins
pub part-taken : {X : Type 0} (xs : List X) (start : ℕ) (ys : List X) → Part xs start ys → take (length ys) (drop start xs) ≡ ys
part-taken {X = X} xs start ys p =
    ap (λ (l : List X). take (length ys) (drop start l)) p.is
    ∙ ap (λ (n : ℕ). take (length ys) (drop n (p.before ++ (ys ++ p.after)))) p.at
    ∙ ap (take (length ys)) (drop-append_seam p.before (ys ++ p.after))
    ∙ take-append_seam ys p.after

-- the images of a part are a part of the images
pub part-map : {X Y : Type 0} (f : X → Y) (xs : List X) (start : ℕ) (ys : List X) → Part xs start ys → Part (map f xs) start (map f ys)
part-map {X = X} f xs start ys p = record {
  before = map f p.before;
  after = map f p.after;
  is = ap (map f) p.is ∙ map-append f p.before (ys ++ p.after) ∙ ap (λ l. map f p.before ++ l) (map-append f ys p.after);
  at = p.at ∙ sym (length-map p.before f);
}

-- a part of a list is one of the list with more behind it, or before it
pub part-before : {X : Type 0} (xs more : List X) (start : ℕ) (ys : List X) → Part xs start ys → Part (xs ++ more) start ys
part-before {X = X} xs more start ys p = record {
  before = p.before;
  after = p.after ++ more;
  is = ap (λ (l : List X). l ++ more) p.is ∙ append_assoc p.before (ys ++ p.after) more ∙ ap (λ (l : List X). p.before ++ l) (append_assoc ys p.after more);
  at = p.at;
}

pub part-behind : {X : Type 0} (xs more : List X) (start : ℕ) (ys : List X) → Part xs start ys → Part (more ++ xs) (length more + start) ys
part-behind {X = X} xs more start ys p = record {
  before = more ++ p.before;
  after = p.after;
  is = ap (λ (l : List X). more ++ l) p.is ∙ sym (append_assoc more p.before (ys ++ p.after));
  at = ap (λ (n : ℕ). length more + n) p.at ∙ sym (length-append more p.before);
}
