use Rattle.std.proofs.Common.{◌≡◌, ◌⊎◌, ◌<◌, ◌≤◌, ◌+◌, inl, inr, ℕ, List, Bool, true, false, length, slice_get, get_or, cond, Option, Some, None, subst, ap, arith, sym, ◌∙◌, lt-ltb}
use Rattle.std.specs.List.{list_any, position, position_or_len}
use Rattle.std.proofs.lemmas.Bool.{cases_eq, cases_lt, false_from_ne_true, false≢true}
use Rattle.std.proofs.lemmas.List.Folds.{Any-from_list_any, list_any_at}
use Rattle.std.proofs.lemmas.List.Quantifiers.{position-Some}
use Rattle.std.proofs.lemmas.List.Sums.{fails_before_first}
use Rattle.std.proofs.lemmas.Option.{get_or_from_slice_get, slice_get-get_or, slice_get_within}
use Rattle.choose_core.specs.declared.candidate.Ask.TheVariants.{Enter}
use Rattle.choose_core.specs.declared.candidate.Candidate.{Candidate}
use Rattle.choose_core.specs.declared.candidate.Next.TheVariants.{Ends}
use Rattle.choose_core.specs.Styles.{IsFirstLeast, IsLastGreatest, IsFirstGreatest}

-- of the first n values of a function the first least one
pub record IsFirstOf (f : ℕ → ℕ) (n place : ℕ) : Type 0 where
  pub among : place < n
  pub least : (other : ℕ) → other < n → f place ≤ f other
  pub first : (other : ℕ) → other < place → f place < f other

-- the last greatest one
pub record IsLastOf (f : ℕ → ℕ) (n place : ℕ) : Type 0 where
  pub among : place < n
  pub greatest : (other : ℕ) → other < n → f other ≤ f place
  pub last : (other : ℕ) → place < other → other < n → f other < f place

-- of those that pass a test the first greatest one
pub record IsFarthestOf (p : ℕ → Bool) (f : ℕ → ℕ) (n place : ℕ) : Type 0 where
  pub among : place < n
  pub passed : p place ≡ true
  pub greatest : (other : ℕ) → other < n → p other ≡ true → f other ≤ f place
  pub first : (other : ℕ) → other < place → p other ≡ true → f other < f place

-- a number below the next one of n is below n, or n itself
below_next : (i n : ℕ) → i < n + 1 → (i < n) ⊎ (n ≡ i)
below_next i n low = elim (cases_eq n i) [ inl same ↦ inr same | inr other ↦ inl (omega arith) ]

-- a fact of the first n numbers and of n
each_below : (p : ℕ → Type 0) (n : ℕ) → ((i : ℕ) → i < n → p i) → p n → (i : ℕ) → i < n + 1 → p i
each_below p n before here i low = elim (below_next i n low) [ inl less ↦ before i less | inr same ↦ subst p same here ]

pub first-began : (f : ℕ → ℕ) → IsFirstOf f 1 0
first-began f = record {
  among = omega arith;
  least = each_below (λ i. f 0 ≤ f i) 0 (λ i low. absurd (omega arith)) (omega arith);
  first = λ other low. absurd (omega arith);
}

pub first-nearer : (f : ℕ → ℕ) (n place : ℕ) → IsFirstOf f n place → f n < f place → IsFirstOf f (n + 1) n
first-nearer f n place so_far less = record {
  among = omega arith;
  least = each_below (λ i. f n ≤ f i) n (λ i low. omega (arith, so_far.least i low)) (omega arith);
  first = λ other low. omega (arith, so_far.least other low);
}

pub first-kept : (f : ℕ → ℕ) (n place : ℕ) → IsFirstOf f n place → f place ≤ f n → IsFirstOf f (n + 1) place
first-kept f n place so_far more = record {
  among = omega (arith, so_far.among);
  least = each_below (λ i. f place ≤ f i) n so_far.least more;
  first = so_far.first;
}

pub last-began : (f : ℕ → ℕ) → IsLastOf f 1 0
last-began f = record {
  among = omega arith;
  greatest = each_below (λ i. f i ≤ f 0) 0 (λ i low. absurd (omega arith)) (omega arith);
  last = λ other above low. absurd (omega arith);
}

pub last-further : (f : ℕ → ℕ) (n place : ℕ) → IsLastOf f n place → f place ≤ f n → IsLastOf f (n + 1) n
last-further f n place so_far more = record {
  among = omega arith;
  greatest = each_below (λ i. f i ≤ f n) n (λ i low. omega (arith, so_far.greatest i low)) (omega arith);
  last = λ other above low. absurd (omega arith);
}

pub last-kept : (f : ℕ → ℕ) (n place : ℕ) → IsLastOf f n place → f n < f place → IsLastOf f (n + 1) place
last-kept f n place so_far less = record {
  among = omega (arith, so_far.among);
  greatest = each_below (λ i. f i ≤ f place) n so_far.greatest (omega arith);
  last = λ other above low. each_below (λ i. place < i → f i < f place) n (λ i in_it after. so_far.last i after in_it) (λ after. less) other low above;
}

pub farthest-began : (p : ℕ → Bool) (f : ℕ → ℕ) (place : ℕ) → p place ≡ true → ((other : ℕ) → other < place → p other ≡ false) → IsFarthestOf p f (place + 1) place
farthest-began p f place passed before = record {
  among = omega arith;
  passed = passed;
  greatest = each_below (λ i. p i ≡ true → f i ≤ f place) place (λ i low passes. absurd (false≢true (sym (before i low) ∙ passes))) (λ passes. omega arith);
  first = λ other low passes. absurd (false≢true (sym (before other low) ∙ passes));
}

pub farthest-further : (p : ℕ → Bool) (f : ℕ → ℕ) (n place : ℕ) → IsFarthestOf p f n place → p n ≡ true → f place < f n → IsFarthestOf p f (n + 1) n
farthest-further p f n place so_far passed more = record {
  among = omega arith;
  passed = passed;
  greatest = each_below (λ i. p i ≡ true → f i ≤ f n) n (λ i low passes. omega (arith, so_far.greatest i low passes)) (λ passes. omega arith);
  first = λ other low passes. omega (arith, so_far.greatest other low passes);
}

pub farthest-kept : (p : ℕ → Bool) (f : ℕ → ℕ) (n place : ℕ) → IsFarthestOf p f n place → (p n ≡ true → f n ≤ f place) → IsFarthestOf p f (n + 1) place
farthest-kept p f n place so_far less = record {
  among = omega (arith, so_far.among);
  passed = so_far.passed;
  greatest = each_below (λ i. p i ≡ true → f i ≤ f place) n so_far.greatest less;
  first = so_far.first;
}

-- what stands past the end of a list
abbrev pub nobody : Candidate
nobody = record { ask = Enter; track = 0; gap = 0; next = Ends; pull = 0 }

-- the values of a list's members
abbrev pub keyed : (Candidate → ℕ) → List Candidate → ℕ → ℕ
keyed key list i = key (get_or list i nobody)

keyed-there : (key : Candidate → ℕ) (list : List Candidate) (i : ℕ) (c : Candidate) → slice_get list i ≡ Some c → keyed key list i ≡ key c
keyed-there key list i c there = ap key (get_or_from_slice_get list i c _ there)

pub first-of-all : (key : Candidate → ℕ) (list : List Candidate) (n place : ℕ) → n ≡ length list → IsFirstOf (keyed key list) n place → IsFirstLeast key list place
first-of-all key list n place all so_far = record {
  chosen = get_or list place nobody;
  there = slice_get-get_or list place _ (omega (arith, so_far.among));
  least = λ other c there. omega (arith, so_far.least other (omega (arith, slice_get_within list other c there)), keyed-there key list other c there);
  first = λ other c there low. omega (arith, so_far.first other low, keyed-there key list other c there);
}

pub last-of-all : (key : Candidate → ℕ) (list : List Candidate) (n place : ℕ) → n ≡ length list → IsLastOf (keyed key list) n place → IsLastGreatest key list place
last-of-all key list n place all so_far = record {
  chosen = get_or list place nobody;
  there = slice_get-get_or list place _ (omega (arith, so_far.among));
  greatest = λ other c there. omega (arith, so_far.greatest other (omega (arith, slice_get_within list other c there)), keyed-there key list other c there);
  last = λ other c there above. omega (arith, so_far.last other above (omega (arith, slice_get_within list other c there)), keyed-there key list other c there);
}

-- whether a list's members pass a test
abbrev pub passing : (Candidate → Bool) → List Candidate → ℕ → Bool
passing p list i = p (get_or list i nobody)

passing-there : (p : Candidate → Bool) (list : List Candidate) (i : ℕ) (c : Candidate) → slice_get list i ≡ Some c → passing p list i ≡ p c
passing-there p list i c there = ap p (get_or_from_slice_get list i c _ there)

pub farthest-of-all : (p : Candidate → Bool) (key : Candidate → ℕ) (list : List Candidate) (n place : ℕ) → n ≡ length list
    → IsFarthestOf (passing p list) (keyed key list) n place → IsFirstGreatest p key list place
farthest-of-all p key list n place all so_far = record {
  chosen = get_or list place nobody;
  there = slice_get-get_or list place _ (omega (arith, so_far.among));
  passed = so_far.passed;
  greatest = λ other c there passes.
      omega (arith, so_far.greatest other (omega (arith, slice_get_within list other c there)) (passing-there p list other c there ∙ passes), keyed-there key list other c there);
  first = λ other c there passes low. omega (arith, so_far.first other low (passing-there p list other c there ∙ passes), keyed-there key list other c there);
}

-- a list has a member that passes a test, or none, by the place of the first
pub some-owned : (p : Candidate → Bool) (list : List Candidate) (first : ℕ) → position p list ≡ Some first → list_any p list ≡ true
some-owned p list first is = let at = position-Some p list first nobody is in list_any_at p list first nobody at.0 at.1

pub none-owned : (p : Candidate → Bool) (list : List Candidate) → position p list ≡ None → list_any p list ≡ false
none-owned p list none = false_from_ne_true (list_any p list) (λ some.
    let at = Any-from_list_any p list some in
    elim (cases_lt (position_or_len p list) (length list)) [
      | inl within ↦ absurd (cc (none, ap (λ (b : Bool). cond {A = Option ℕ} b (Some (position_or_len p list)) None) (lt-ltb (position_or_len p list) (length list) within)))
      | inr past ↦ false≢true (sym (fails_before_first p list at.0 at.1 (omega (arith, at.2, past))) ∙ ap p at.3 ∙ at.4)
    ])
