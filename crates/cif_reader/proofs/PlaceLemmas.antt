use Rattle.std.proofs.Common.{◌≡◌, refl, ap, sym, ◌∙◌, ℕ, suc, ◌+◌, ◌<◌, List, [], ◌∷◌, ◌++◌, length, get_or, map, append_assoc, append-nil, arith, subst, Bool, true, false, Some, None}
use Rattle.std.specs.Prelude.{if◌then◌else◌, ◌==◌, position}
use Rattle.std.specs.List.{position_from}
use Rattle.std.proofs.lemmas.List.{map-append}
use Rattle.std.proofs.lemmas.Iterator.Adapters.{position_from-zero}
use Rattle.cif_text.specs.Symbols.{Symbol, symbol_of}
use Rattle.cif_reader.specs.declared.table.Kept.{Kept}
use Rattle.cif_reader.specs.Limits.{depth_of}
use Rattle.cif_reader.specs.Table.{depth_kept, symbol_at, symbol_kept, symbols_behind}

abbrev number_of : Symbol → ℕ
number_of s = s.number

abbrev kept_number : Kept → ℕ
kept_number k = k.number

-- the symbols of a table have the numbers that it keeps
numbers-behind : (symbols : List Symbol) (table : List Kept) → map number_of (symbols_behind symbols table) ≡ map number_of symbols ++ map kept_number table
unfolding symbols_behind
numbers-behind symbols [] = sym (append-nil (map number_of symbols))
numbers-behind symbols (kept ∷ more) =
    numbers-behind (symbols ++ (symbol_kept symbols kept ∷ [])) more
    ∙ ap (λ (ms : List ℕ). ms ++ map kept_number more) (map-append number_of symbols (symbol_kept symbols kept ∷ []))
    ∙ append_assoc (map number_of symbols) (kept.number ∷ []) (map kept_number more)

heads : (a b : ℕ) (xs ys : List ℕ) → a ∷ xs ≡ b ∷ ys → (a ≡ b) × (xs ≡ ys)
heads a b xs ys h = (cc, cc)

no-place : (n k : ℕ) (table : List Kept) (symbols : List Symbol) → map number_of symbols ≡ map kept_number table
    → position_from (λ (x : Kept). x.number == n) k table ≡ None → symbol_of n symbols ≡ None
no-place n k table [] same none = refl
no-place n k [] (s ∷ ss) same none = cc
no-place n k (t ∷ ts) (s ∷ ss) same none =
    let parts = heads s.number t.number (map number_of ss) (map kept_number ts) same in
    by (t.number == n) refl (ap (λ (m : ℕ). m == n) parts.0) (λ more. no-place n (k + 1) ts ss parts.1 more) none
  where
    by : (b : Bool) → (t.number == n) ≡ b → (s.number == n) ≡ (t.number == n)
        → (position_from (λ (x : Kept). x.number == n) (k + 1) ts ≡ None → symbol_of n ss ≡ None)
        → (if b then Some k else position_from (λ (x : Kept). x.number == n) (k + 1) ts) ≡ None
        → (if s.number == n then Some s else symbol_of n ss) ≡ None
    by true test first others none = cc
    by false test first others none = rw (first ∙ test) (others none)

-- where the symbol of a number stands
pub record IsPlace (n : ℕ) (table : List Kept) (symbols : List Symbol) (place : ℕ) : Type 0 where
  pub below : place < length table
  pub symbol : symbol_of n symbols ≡ Some (symbol_at symbols place)
  pub depth : (kept : Kept) → depth_of n symbols (map depth_kept table) ≡ (get_or table place kept).depth

at-first : (n : ℕ) (t : Kept) (ts : List Kept) (s : Symbol) (ss : List Symbol) → (s.number == n) ≡ true → IsPlace n (t ∷ ts) (s ∷ ss) 0
at-first n t ts s ss test = record { below = omega arith; symbol = rw test refl; depth = λ kept. rw test refl }

at-next : (n i : ℕ) (t : Kept) (ts : List Kept) (s : Symbol) (ss : List Symbol) → (s.number == n) ≡ false → IsPlace n ts ss i → IsPlace n (t ∷ ts) (s ∷ ss) (suc i)
at-next n i t ts s ss test h = record {
  below = (let below : i < length ts = h.below in omega arith);
  symbol = rw test h.symbol;
  depth = λ kept. rw test (h.depth kept);
}

some-place : (n k i : ℕ) (table : List Kept) (symbols : List Symbol) → map number_of symbols ≡ map kept_number table
    → position_from (λ (x : Kept). x.number == n) k table ≡ Some i → (j : ℕ) × (i ≡ k + j) × IsPlace n table symbols j
some-place n k i [] symbols same some = cc
some-place n k i (t ∷ ts) [] same some = cc
some-place n k i (t ∷ ts) (s ∷ ss) same some =
    let parts = heads s.number t.number (map number_of ss) (map kept_number ts) same in
    by (t.number == n) refl (ap (λ (m : ℕ). m == n) parts.0) (λ more. some-place n (k + 1) i ts ss parts.1 more) some
  where
    by : (b : Bool) → (t.number == n) ≡ b → (s.number == n) ≡ (t.number == n)
        → (position_from (λ (x : Kept). x.number == n) (k + 1) ts ≡ Some i → (j : ℕ) × (i ≡ k + 1 + j) × IsPlace n ts ss j)
        → (if b then Some k else position_from (λ (x : Kept). x.number == n) (k + 1) ts) ≡ Some i
        → (j : ℕ) × (i ≡ k + j) × IsPlace n (t ∷ ts) (s ∷ ss) j
    by true test first others some = let same : k ≡ i = cc in (0, omega arith, at-first n t ts s ss (first ∙ test))
    by false test first others some =
        let found = others some in
        let at : i ≡ k + 1 + found.0 = found.1 in
        (suc found.0, omega arith, at-next n found.0 t ts s ss (first ∙ test) found.2)

pub no-symbol : (n : ℕ) (table : List Kept) → position (λ (x : Kept). x.number == n) table ≡ None → symbol_of n (symbols_behind [] table) ≡ None
no-symbol n table none = no-place n 0 table (symbols_behind [] table) (numbers-behind [] table) (sym (position_from-zero (λ (x : Kept). x.number == n) table) ∙ none)

pub place-of : (n i : ℕ) (table : List Kept) → position (λ (x : Kept). x.number == n) table ≡ Some i → IsPlace n table (symbols_behind [] table) i
place-of n i table some =
    let found = some-place n 0 i table (symbols_behind [] table) (numbers-behind [] table) (sym (position_from-zero (λ (x : Kept). x.number == n) table) ∙ some) in
    let same : found.0 ≡ i = (let at : i ≡ 0 + found.0 = found.1 in omega arith) in
    subst (IsPlace n table (symbols_behind [] table)) same found.2
