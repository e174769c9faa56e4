use Rattle.std.proofs.Common.{◌≡◌, ◌+◌, ◌<◌, ◌≤◌, ℕ, suc, List, [], ◌∷◌, ◌++◌, Bool, true, false, if◌then◌else◌, Option, Some, None, length, map, drop, refl, ap, sym, ◌∙◌, append_assoc, arith}
use Rattle.std.specs.Prelude.{All}
use Rattle.std.specs.List.{cons_option, slice_get}
use Rattle.std.specs.Option.{option_to_list}
use Rattle.std.proofs.lemmas.List.{append-nil}
use Rattle.std.proofs.lemmas.List.Elements.{All-cons, All-nil}
use Rattle.close_rects.specs.Crowds.{KeepsInReach, crowd_of, crowds_of, is_crowded}
use Rattle.close_rects.specs.declared.member.Member.{Member}
use Rattle.rule_check.specs.Failing.{failing_from, failing_pairs_from}
use Rattle.rule_check.specs.Members.{members_from}
use Rattle.std_laws.proofs.Places.{drop-here, drop-past}

module _ {A : Type 0} (made : ℕ → A → Option Member) where
  -- what is made of the next is put to the members
  pub members-more : (xs : List A) (k : ℕ) (x : A) (members pushed all : List Member) → slice_get xs k ≡ Some x
      → pushed ≡ members ++ option_to_list (made k x) → members ++ members_from made k (drop k xs) ≡ all
      → pushed ++ members_from made (k + 1) (drop (k + 1) xs) ≡ all
  members-more xs k x members pushed all here is rest =
      ap (λ t. t ++ members_from made (k + 1) (drop (k + 1) xs)) is
      ∙ append_assoc members (option_to_list (made k x)) (members_from made (k + 1) (drop (k + 1) xs))
      ∙ ap (λ t. members ++ t) (first (made k x) (members_from made (k + 1) (drop (k + 1) xs)) ∙ sym next)
      ∙ rest
    where
      step : suc k ≡ k + 1
      step = omega arith

      first : (o : Option Member) (t : List Member) → option_to_list o ++ t ≡ cons_option o t
      first None t = refl
      first (Some a) t = refl

      next : members_from made k (drop k xs) ≡ cons_option (made k x) (members_from made (k + 1) (drop (k + 1) xs))
      next =
          ap (members_from made k) (drop-here xs k x here)
          ∙ ap (λ i. cons_option (made k x) (members_from made (k + 1) (drop i xs))) step

  pub members-all : (xs : List A) (k : ℕ) (members all : List Member) → length xs ≤ k → members ++ members_from made k (drop k xs) ≡ all
      → members ≡ all
  members-all xs k members all past rest =
      sym (append-nil members) ∙ ap (λ t. members ++ members_from made k t) (sym (drop-past xs k past)) ∙ rest

  -- there are no more members than those that they are made of
  pub members-fewer : (n : ℕ) (xs : List A) → length (members_from made n xs) ≤ length xs
  members-fewer n [] = omega arith
  members-fewer n (x ∷ xs) = cases (made n x) (members-fewer (n + 1) xs)
    where
      cases : (o : Option Member) → length (members_from made (n + 1) xs) ≤ length xs
          → length (cons_option o (members_from made (n + 1) xs)) ≤ suc (length xs)
      cases None later = omega arith
      cases (Some a) later = omega arith

  -- each is made of one of those
  pub members-reach : (n : ℕ) (xs : List A)
      → ((k : ℕ) (x : A) (a : Member) → slice_get xs k ≡ Some x → made (n + k) x ≡ Some a → KeepsInReach a)
      → All KeepsInReach (members_from made n xs)
  members-reach n [] each = All-nil KeepsInReach
  members-reach n (x ∷ xs) each =
      cases (made n x) refl (members-reach (n + 1) xs (λ k y a is is_made.
      let step : n + suc k ≡ n + 1 + k = omega arith in
      each (suc k) y a is (ap (λ i. made i y) step ∙ is_made)))
    where
      cases : (o : Option Member) → made n x ≡ o → All KeepsInReach (members_from made (n + 1) xs)
          → All KeepsInReach (cons_option o (members_from made (n + 1) xs))
      cases None is later = later
      cases (Some a) is later =
          let here : n + 0 ≡ n = omega arith in
          All-cons KeepsInReach a (members_from made (n + 1) xs) (each 0 x a refl (ap (λ i. made i x) here ∙ is)) later

-- whether the first crowds the second, where both are there
abbrev pub do_crowd : Option Member → Option Member → Bool
do_crowd None other = false
do_crowd (Some a) None = false
do_crowd (Some a) (Some b) = is_crowded a b

module _ {A : Type 0} (made : ℕ → A → Option Member) (fails : A → A → Bool) where
  -- each member has its number
  abbrev pub AreOwn : Type 0
  AreOwn = (n : ℕ) (x : A) (a : Member) → made n x ≡ Some a → a.number ≡ n

  -- two fail exactly where their members crowd
  abbrev pub Agree : ℕ → List A → Type 0
  Agree n xs =
      (i j : ℕ) (x y : A) → i < j → slice_get xs i ≡ Some x → slice_get xs j ≡ Some y
      → fails x y ≡ do_crowd (made (n + i) x) (made (n + j) y)

  abbrev AgreeWith : ℕ → A → ℕ → List A → Type 0
  AgreeWith n x m ys = (j : ℕ) (y : A) → slice_get ys j ≡ Some y → fails x y ≡ do_crowd (made n x) (made (m + j) y)

  agree_here : (n : ℕ) (x : A) (m : ℕ) (y : A) (ys : List A) → AgreeWith n x m (y ∷ ys) → fails x y ≡ do_crowd (made n x) (made m y)
  agree_here n x m y ys agree =
      let here : m + 0 ≡ m = omega arith in agree 0 y refl ∙ ap (λ i. do_crowd (made n x) (made i y)) here

  agree_later : (n : ℕ) (x : A) (m : ℕ) (y : A) (ys : List A) → AgreeWith n x m (y ∷ ys) → AgreeWith n x (m + 1) ys
  agree_later n x m y ys agree j z is =
      let step : m + suc j ≡ m + 1 + j = omega arith in agree (suc j) z is ∙ ap (λ i. do_crowd (made n x) (made i z)) step

  crowd-failing : (n : ℕ) (x : A) (a : Member) (m : ℕ) (ys : List A) → AreOwn → made n x ≡ Some a → AgreeWith n x m ys
      → crowd_of a (members_from made m ys) ≡ map (λ later. (n, later)) (failing_from (fails x) m ys)
  crowd-failing n x a m [] own is agree = refl
  crowd-failing n x a m (y ∷ ys) own is agree =
      cases (made m y) refl (agree_here n x m y ys agree ∙ ap (λ o. do_crowd o (made m y)) is)
      (crowd-failing n x a (m + 1) ys own is (agree_later n x m y ys agree))
    where
      later : List (ℕ × ℕ)
      later = map (λ later. (n, later)) (failing_from (fails x) (m + 1) ys)

      put : (t : Bool) (p : ℕ × ℕ) → p ≡ (n, m)
          → (if t then p ∷ later else later) ≡ map (λ later. (n, later)) (if t then m ∷ failing_from (fails x) (m + 1) ys else failing_from (fails x) (m + 1) ys)
      put true p same = ap (λ (q : ℕ × ℕ). q ∷ later) same
      put false p same = refl

      cases : (o : Option Member) → made m y ≡ o → fails x y ≡ do_crowd (Some a) (made m y)
          → crowd_of a (members_from made (m + 1) ys) ≡ later
          → crowd_of a (cons_option o (members_from made (m + 1) ys))
          ≡ map (λ later. (n, later)) (if fails x y then m ∷ failing_from (fails x) (m + 1) ys else failing_from (fails x) (m + 1) ys)
      cases None none test rest =
          let not : fails x y ≡ false = test ∙ ap (do_crowd (Some a)) none in
          rest
          ∙ ap (λ t. map (λ later. (n, later)) (if t then m ∷ failing_from (fails x) (m + 1) ys else failing_from (fails x) (m + 1) ys)) (sym not)
      cases (Some b) some test rest =
          let same : fails x y ≡ is_crowded a b = test ∙ ap (do_crowd (Some a)) some in
          let first : a.number ≡ n = own n x a is in
          let second : b.number ≡ m = own m y b some in
          let pair : (a.number, b.number) ≡ (n, m) = cc in
          ap (λ t. if is_crowded a b then (a.number, b.number) ∷ t else t) rest
          ∙ put (is_crowded a b) (a.number, b.number) pair
          ∙ ap (λ t. map (λ later. (n, later)) (if t then m ∷ failing_from (fails x) (m + 1) ys else failing_from (fails x) (m + 1) ys)) (sym same)

  none-failing : (n : ℕ) (x : A) (m : ℕ) (ys : List A) → made n x ≡ None → AgreeWith n x m ys → failing_from (fails x) m ys ≡ []
  none-failing n x m [] none agree = refl
  none-failing n x m (y ∷ ys) none agree =
      let not : fails x y ≡ false = agree_here n x m y ys agree ∙ ap (λ o. do_crowd o (made m y)) none in
      ap (λ t. if t then m ∷ failing_from (fails x) (m + 1) ys else failing_from (fails x) (m + 1) ys) not
      ∙ none-failing n x (m + 1) ys none (agree_later n x m y ys agree)

  -- the pairs that fail are those of the members that crowd
  pub crowds-failing : (n : ℕ) (xs : List A) → AreOwn → Agree n xs → crowds_of (members_from made n xs) ≡ failing_pairs_from fails n xs
  crowds-failing n [] own agree = refl
  crowds-failing n (x ∷ xs) own agree =
      cases (made n x) refl with_later
      (crowds-failing (n + 1) xs own (λ i j y z less y_is z_is.
      let first : n + suc i ≡ n + 1 + i = omega arith in
      let second : n + suc j ≡ n + 1 + j = omega arith in
      agree (suc i) (suc j) y z (omega arith) y_is z_is
      ∙ ap (λ k. do_crowd (made k y) (made (n + suc j) z)) first
      ∙ ap (λ k. do_crowd (made (n + 1 + i) y) (made k z)) second))
    where
      with_later : AgreeWith n x (n + 1) xs
      with_later j y is =
          let here : n + 0 ≡ n = omega arith in
          let step : n + suc j ≡ n + 1 + j = omega arith in
          agree 0 (suc j) x y (omega arith) refl is
          ∙ ap (λ k. do_crowd (made k x) (made (n + suc j) y)) here
          ∙ ap (λ k. do_crowd (made n x) (made k y)) step

      cases : (o : Option Member) → made n x ≡ o → AgreeWith n x (n + 1) xs
          → crowds_of (members_from made (n + 1) xs) ≡ failing_pairs_from fails (n + 1) xs
          → crowds_of (cons_option o (members_from made (n + 1) xs))
          ≡ map (λ later. (n, later)) (failing_from (fails x) (n + 1) xs) ++ failing_pairs_from fails (n + 1) xs
      cases None none with_it rest =
          rest
          ∙ ap (λ t. map (λ (later : ℕ). (n, later)) t ++ failing_pairs_from fails (n + 1) xs) (sym (none-failing n x (n + 1) xs none with_it))
      cases (Some a) is with_it rest =
          ap (λ t. crowd_of a (members_from made (n + 1) xs) ++ t) rest
          ∙ ap (λ t. t ++ failing_pairs_from fails (n + 1) xs) (crowd-failing n x a (n + 1) xs own is with_it)
