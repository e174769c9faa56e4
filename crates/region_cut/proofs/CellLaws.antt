use Rattle.std.proofs.Common.{◌≡◌, ◌∙◌, ◌≢◌, ◌<◌, ◌≤◌, ◌+◌, ◌%◌, ◌-◌, inl, inr, ℕ, zero, suc, replicate, ℤ, Bool, true, false, not, ◌&&◌, cond, List, [], ◌∷◌, ◌++◌, length, length-set, take, drop, get_or, get_or-set_other, get_or-set_same, set, ap, refl, sym, subst, arith, SFits, to_z, of_z, w64}
use Rattle.std.proofs.lemmas.Bool.{cases_eq}
use Rattle.std.proofs.lemmas.Bool.Decides.{nat_tests}
use Rattle.std.proofs.lemmas.Int.{ints, to_z-of_z}
use Rattle.std.proofs.lemmas.List.{append-nil, get_or-replicate, length-replicate, take_all}
use Rattle.std.proofs.lemmas.List.Sums.{sum_by-cons}
use Rattle.std.specs.Int.{int_max, int_min}
use Rattle.std.specs.List.{count_by}
use Rattle.std.specs.Ordering.{int_eq}
use Rattle.std.specs.Prelude.{int_le, int_lt, slice_index_or, ◌==◌}
use Rattle.geom_core.specs.declared.corner.Corner.{Corner}
use Rattle.std_laws.proofs.Integers.{int-itself}
use Rattle.std_laws.proofs.Places.{drop-past}
use Rattle.region_cut.specs.Ceilings.{AreUnder}
use Rattle.region_cut.specs.Cells.{grid_of, is_filled, lines_across, lines_up, spans, stands_left}
use Rattle.region_cut.specs.Grids.{columns, line}
use Rattle.region_cut.specs.Steps.{Step, closed_steps, steps_from}

-- a cell that is flipped where a step stands at its left
pub flip-cell : (place low high : ℤ) (s : Step) (old b : Bool) → SFits w64 s.from.x → SFits w64 place → int_le (to_z w64 (of_z w64 s.from.x)) (to_z w64 (of_z w64 place)) ≡ b
    → true ≡ spans low high s → cond b (not old) old ≡ cond (stands_left place low high s) (not old) old
flip-cell place low high s old b first second test over =
    let left : int_le s.from.x place ≡ b = rw (to_z-of_z w64 s.from.x first, to_z-of_z w64 place second) at test in
    ap (λ t. cond t (not old) old) (sym left) ∙ ap (λ t. cond (t && int_le s.from.x place) (not old) old) over

pub keep-cell : (place low high : ℤ) (s : Step) (old : Bool) → false ≡ spans low high s → old ≡ cond (stands_left place low high s) (not old) old
keep-cell place low high s old over = ap (λ t. cond (t && int_le s.from.x place) (not old) old) over

-- items that are changed one after the other, each by a rule
pub record Changing {X : Type 0} (rule : ℕ → X → X) (d : X) (place : ℕ) (was now : List X) : Type 0 where
  pub long : length now ≡ length was
  pub done : (k : ℕ) → k < place → get_or now k d ≡ rule k (get_or was k d)
  pub rest : (k : ℕ) → place ≤ k → get_or now k d ≡ get_or was k d

pub changing-none : {X : Type 0} (rule : ℕ → X → X) (d : X) (was : List X) → Changing rule d 0 was was
changing-none rule d was = record { long = refl; done = λ k less. absurd (omega arith); rest = λ k more. refl }

changing-one : {X : Type 0} (rule : ℕ → X → X) (d : X) (place : ℕ) (was now new : List X) → Changing rule d place was now → length new ≡ length now
    → get_or new place d ≡ rule place (get_or now place d) → ((k : ℕ) → k ≢ place → get_or new k d ≡ get_or now k d) → Changing rule d (place + 1) was new
changing-one rule d place was now new old long one others = record {
  long = long ∙ old.long;
  done = λ k less. elim (cases_eq k place) [
    | inl same ↦ subst (λ j. get_or new j d ≡ rule j (get_or was j d)) (sym same) (one ∙ ap (rule place) (old.rest place (omega arith)))
    | inr other ↦ others k other ∙ old.done k (omega arith)
  ];
  rest = λ k more. others k (λ same. omega arith) ∙ old.rest k (omega arith);
}

pub changing-written : {X : Type 0} (rule : ℕ → X → X) (d : X) (place : ℕ) (was now new : List X) (v : X) → Changing rule d place was now → place < length was
    → new ≡ set now place v → v ≡ rule place (get_or now place d) → Changing rule d (place + 1) was new
changing-written {X} rule d place was now new v old within is one =
    let inside : place < length now = omega (arith, old.long) in
    changing-one rule d place was now new old (ap length is ∙ length-set now place v)
    (ap (λ (l : List X). get_or l place d) is ∙ get_or-set_same now place v d inside ∙ one)
    (λ k other. ap (λ (l : List X). get_or l k d) is ∙ get_or-set_other now place k v d other)

pub changing-same : {X : Type 0} (rule : ℕ → X → X) (d : X) (place : ℕ) (was now new : List X) → Changing rule d place was now → new ≡ now
    → get_or now place d ≡ rule place (get_or now place d) → Changing rule d (place + 1) was new
changing-same {X} rule d place was now new old is one =
    changing-one rule d place was now new old (ap length is) (ap (λ (l : List X). get_or l place d) is ∙ one) (λ k other. ap (λ (l : List X). get_or l k d) is)

-- whether an odd number of members pass
abbrev pub odd : {X : Type 0} → (X → Bool) → List X → Bool
odd p [] = false
odd p (x ∷ xs) = cond (p x) (not (odd p xs)) (odd p xs)

odd-next : (n : ℕ) → ((n + 1) % 2 == 1) ≡ not (n % 2 == 1)
odd-next n = grind (arith, nat_tests)

pub odd-count : {X : Type 0} (p : X → Bool) (xs : List X) → odd p xs ≡ (count_by p xs % 2 == 1)
odd-count p [] = refl
odd-count p (x ∷ xs) = by (p x) refl (odd-count p xs)
  where
    by : (b : Bool) → p x ≡ b → odd p xs ≡ (count_by p xs % 2 == 1) → cond (p x) (not (odd p xs)) (odd p xs) ≡ (count_by p (x ∷ xs) % 2 == 1)
    by true is rest =
        let count = sum_by-cons (λ y. cond (p y) 1 0) x xs ∙ ap (λ b. cond b 1 0 + count_by p xs) is in
        let more : count_by p (x ∷ xs) ≡ count_by p xs + 1 = omega (arith, count) in
        ap (λ b. cond b (not (odd p xs)) (odd p xs)) is ∙ ap not rest ∙ sym (odd-next (count_by p xs)) ∙ ap (λ n. n % 2 == 1) (sym more)
    by false is rest =
        let count = sum_by-cons (λ y. cond (p y) 1 0) x xs ∙ ap (λ b. cond b 1 0 + count_by p xs) is in
        let same : count_by p (x ∷ xs) ≡ count_by p xs = omega (arith, count) in
        ap (λ b. cond b (not (odd p xs)) (odd p xs)) is ∙ rest ∙ ap (λ n. n % 2 == 1) (sym same)

-- one of two, and not both
abbrev pub xor : Bool → Bool → Bool
xor a b = cond a (not b) b

turned : (a p o : Bool) → xor (cond p (not a) a) o ≡ xor a (cond p (not o) o)
turned true true true = refl
turned true true false = refl
turned true false true = refl
turned true false false = refl
turned false true true = refl
turned false true false = refl
turned false false true = refl
turned false false false = refl

either : (a o : Bool) → xor a o ≡ cond o (not a) a
either true true = refl
either true false = refl
either false true = refl
either false false = refl

-- one step more
pub xor-step : (p : Step → Bool) (a b : Bool) (here next first : Corner) (rest later : List Corner) (all : Bool) → rest ≡ next ∷ later
    → b ≡ cond (p (record { from = here; to = next })) (not a) a → xor a (odd p (steps_from here (rest ++ first ∷ []))) ≡ all → xor b (odd p (steps_from next (later ++ first ∷ []))) ≡ all
xor-step p a b here next first rest later all is flip was =
    ap (λ t. xor t (odd p (steps_from next (later ++ first ∷ [])))) flip
    ∙ turned a (p (record { from = here; to = next })) (odd p (steps_from next (later ++ first ∷ [])))
    ∙ subst (λ (l : List Corner). xor a (odd p (steps_from here (l ++ first ∷ []))) ≡ all) is was

-- the last step
pub xor-end : (p : Step → Bool) (a b i : Bool) (here first : Corner) (rest : List Corner) (steps : List Step) → length rest ≡ 0
    → b ≡ cond (p (record { from = here; to = first })) (not a) a → xor a (odd p (steps_from here (rest ++ first ∷ []))) ≡ xor i (odd p steps)
    → b ≡ cond (count_by p steps % 2 == 1) (not i) i
xor-end p a b i here first (next ∷ later) steps none flip was = absurd (omega arith)
xor-end p a b i here first [] steps none flip was =
    flip ∙ sym (back (cond (p (record { from = here; to = first })) (not a) a)) ∙ turned a (p (record { from = here; to = first })) false
    ∙ was ∙ either i (odd p steps) ∙ ap (λ t. cond t (not i) i) (odd-count p steps)
  where
    back : (t : Bool) → xor t false ≡ t
    back true = refl
    back false = refl

-- a path without corners flips nothing
pub flip-nothing : (p : Step → Bool) (path : List Corner) (i : Bool) → length path ≡ 0 → i ≡ cond (count_by p (closed_steps path) % 2 == 1) (not i) i
flip-nothing p [] i none = refl
flip-nothing p (first ∷ rest) i none = absurd (omega arith)

-- a vertical step that begins no higher than a height, by numbers that are written and read back
pub spans-last : (low high : ℤ) (s : Step) (m n : ℤ) → SFits w64 low → SFits w64 high → SFits w64 s.from.x → SFits w64 s.to.x → SFits w64 s.from.y → SFits w64 s.to.y → SFits w64 m → SFits w64 n
    → of_z w64 s.from.x ≡ of_z w64 s.to.x → m ≡ int_min (to_z w64 (of_z w64 s.from.y)) (to_z w64 (of_z w64 s.to.y)) → n ≡ int_max (to_z w64 (of_z w64 s.from.y)) (to_z w64 (of_z w64 s.to.y))
    → int_lt (to_z w64 (of_z w64 low)) (to_z w64 (of_z w64 m)) ≡ false → int_le (to_z w64 (of_z w64 high)) (to_z w64 (of_z w64 n)) ≡ spans low high s
spans-last low high s m n flow fhigh fx tx fy ty fm fn same least greatest over =
    let x : s.from.x ≡ s.to.x = sym (to_z-of_z w64 s.from.x fx) ∙ ap (to_z w64) same ∙ to_z-of_z w64 s.to.x tx in
    let eq : int_eq s.from.x s.to.x ≡ true = subst (λ z. int_eq s.from.x z ≡ true) x (int-itself s.from.x) in
    let least' : m ≡ int_min s.from.y s.to.y = rw (to_z-of_z w64 s.from.y fy, to_z-of_z w64 s.to.y ty) at least in
    let greatest' : n ≡ int_max s.from.y s.to.y = rw (to_z-of_z w64 s.from.y fy, to_z-of_z w64 s.to.y ty) at greatest in
    let under : int_le m low ≡ true = not-above low m (rw (to_z-of_z w64 low flow, to_z-of_z w64 m fm) at over) in
    rw (to_z-of_z w64 high fhigh, to_z-of_z w64 n fn, eq, ← least', under, ← greatest') refl
  where
    not-above : (a b : ℤ) → int_lt a b ≡ false → int_le b a ≡ true
    not-above a b h = grind (arith, ints)

-- what a slice of a list's length leaves of the list
pub overwritten-all : {X : Type 0} (len : ℕ) (new items : List X) → len ≡ length items → length new ≡ length items → take len (new ++ drop (length new) items) ≡ new
overwritten-all {X} len new items whole long =
    ap (λ (l : List X). take len (new ++ l)) (drop-past items (length new) (omega arith)) ∙ ap (take len) (append-nil new) ∙ take_all len new (omega arith)

-- under the lowest line no cell is filled
pub under-none : (filled : ℕ → ℕ → Bool) (columns strip : ℕ) (cells : List Bool) → cells ≡ replicate columns false → strip ≡ 0 → AreUnder filled columns strip cells
under-none filled columns strip cells is none =
    subst (λ k. AreUnder filled columns k cells) (sym none) (record {
      long = ap length is ∙ length-replicate columns false;
      each = λ column within. ap (λ (l : List Bool). get_or l column false) is ∙ get_or-replicate columns column false false within;
    })

filled-is : (path : List Corner) (s column : ℕ)
    → (count_by (stands_left (line (lines_across path) column) (line (lines_up path) s) (line (lines_up path) (s + 1))) (closed_steps path) % 2 == 1) ≡ is_filled path s column
unfolding is_filled
filled-is path s column = refl

itself : (b : Bool) → cond b (not false) false ≡ b
itself true = refl
itself false = refl

-- under another those are that an odd number of edges flip
pub under-flipped : (path : List Corner) (strip : ℕ) (cells new : List Bool) (across up : List ℤ) (low high : ℤ) → cells ≡ replicate (columns (grid_of path)) false → 0 < strip
    → across ≡ lines_across path → up ≡ lines_up path → low ≡ line up (strip - 1) → high ≡ line up strip → length new ≡ length cells
    → ((column : ℕ) → column < length cells → slice_index_or new column false
    ≡ cond (count_by (stands_left (line across column) low high) (closed_steps path) % 2 == 1) (not (slice_index_or cells column false)) (slice_index_or cells column false))
    → AreUnder (is_filled path) (columns (grid_of path)) strip new
under-flipped path strip cells new across up low high none some crossed raised from to long flips = by strip refl
  where
    width : length cells ≡ columns (grid_of path)
    width = ap length none ∙ length-replicate (columns (grid_of path)) false

    by : (s : ℕ) → strip ≡ s → AreUnder (is_filled path) (columns (grid_of path)) strip new
    by zero is = absurd (omega arith)
    by (suc s) is =
        let under : strip - 1 ≡ s = omega arith in
        let over : strip ≡ s + 1 = omega arith in
        subst (λ k. AreUnder (is_filled path) (columns (grid_of path)) k new) (sym is) (record {
          long = long ∙ width;
          each = λ column within.
              let empty : slice_index_or cells column false ≡ false = ap (λ (l : List Bool). get_or l column false) none ∙ get_or-replicate (columns (grid_of path)) column false false within in
              flips column (omega (arith, width)) ∙ ap (λ b. cond (count_by (stands_left (line across column) low high) (closed_steps path) % 2 == 1) (not b) b) empty
              ∙ itself (count_by (stands_left (line across column) low high) (closed_steps path) % 2 == 1)
              ∙ ap (λ (l : List ℤ). count_by (stands_left (line l column) low high) (closed_steps path) % 2 == 1) crossed
              ∙ ap (λ z. count_by (stands_left (line (lines_across path) column) z high) (closed_steps path) % 2 == 1) (from ∙ ap (λ (l : List ℤ). line l (strip - 1)) raised ∙ ap (line (lines_up path)) under)
              ∙ ap (λ z. count_by (stands_left (line (lines_across path) column) (line (lines_up path) s) z) (closed_steps path) % 2 == 1) (to ∙ ap (λ (l : List ℤ). line l strip) raised ∙ ap (line (lines_up path)) over)
              ∙ filled-is path s column;
        })
