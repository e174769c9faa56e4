use Rattle.std.proofs.Common.{◌≡◌, ◌<◌, ◌≤◌, ◌+◌, ◌-◌, ℕ, Bool, true, false, not, ◌&&◌, ◌||◌, List, [], ◌∷◌, Contains, refl, subst, arith}
use Rattle.std.proofs.lemmas.Bool.{and_from, and_parts, both_ways, false_from_ne_true}
use Rattle.std.proofs.lemmas.Bool.Decides.{nat_tests}
use Rattle.std.specs.List.{list_all}
use Rattle.std.specs.Prelude.{nat_le}
use Rattle.std_laws.proofs.Members.{all-member, Contains-flat_map, Contains-flat_map_cases, contains-range, map-cases, map-member, member-head, member-tail, range-contains}
use Rattle.region_cut.specs.Blocks.{Block, IsBlock, blocks, blocks_at, blocks_from, blocks_to, is_filled_block, is_maximal, lies_in, numbers}

-- which numbers lie between two
pub numbers-has : (a b k : ℕ) → a ≤ k → k < b → Contains (numbers a b) k
numbers-has a b k low high = range-contains a (b - a) k low (omega arith)

pub numbers-are : (a b k : ℕ) → Contains (numbers a b) k → (a ≤ k) × (k < b)
numbers-are a b k member = let is = contains-range a (b - a) k member in (is.0, omega (arith, is.0, is.1))

-- what every member passes, all pass
pub all-from : {X : Type 0} (p : X → Bool) (xs : List X) → ((x : X) → Contains xs x → p x ≡ true) → list_all p xs ≡ true
all-from p [] each = refl
all-from p (x ∷ xs) each = and_from (p x) (list_all p xs) (each x (member-head x xs)) (all-from p xs (λ y member. each y (member-tail x xs y member)))

-- a block is filled where its cells are
pub filled-cell : (filled : ℕ → ℕ → Bool) (b : Block) (strip column : ℕ) → is_filled_block filled b ≡ true → b.low ≤ strip → strip < b.high → b.left ≤ column → column < b.right
    → filled strip column ≡ true
filled-cell filled b strip column is low high left right =
    all-member (filled strip) column (numbers b.left b.right)
    (all-member (λ s. list_all (filled s) (numbers b.left b.right)) strip (numbers b.low b.high) is (numbers-has b.low b.high strip low high))
    (numbers-has b.left b.right column left right)

pub filled-from : (filled : ℕ → ℕ → Bool) (b : Block)
    → ((strip column : ℕ) → b.low ≤ strip → strip < b.high → b.left ≤ column → column < b.right → filled strip column ≡ true) → is_filled_block filled b ≡ true
filled-from filled b each =
    all-from (λ s. list_all (filled s) (numbers b.left b.right)) (numbers b.low b.high)
    (λ strip up.
    all-from (filled strip) (numbers b.left b.right)
    (λ column across.
    let at = numbers-are b.low b.high strip up in
    let over = numbers-are b.left b.right column across in
    each strip column at.0 at.1 over.0 over.1))

-- a block that lies in another
pub record LiesIn (a b : Block) : Type 0 where
  pub low : b.low ≤ a.low
  pub left : b.left ≤ a.left
  pub high : a.high ≤ b.high
  pub right : a.right ≤ b.right

le-true : (a b : ℕ) → a ≤ b → nat_le a b ≡ true
le-true a b h = grind (arith, nat_tests)

true-le : (a b : ℕ) → nat_le a b ≡ true → a ≤ b
true-le a b h = grind (arith, nat_tests)

pub lies-true : (a b : Block) → LiesIn a b → lies_in a b ≡ true
lies-true a b is =
    let one = le-true b.low a.low is.low in
    let two = le-true b.left a.left is.left in
    let three = le-true a.high b.high is.high in
    let four = le-true a.right b.right is.right in
    rw (one, two, three, four) refl

pub true-lies : (a b : Block) → lies_in a b ≡ true → LiesIn a b
true-lies a b is = go (nat_le b.low a.low) (nat_le b.left a.left) (nat_le a.high b.high) (nat_le a.right b.right) refl refl refl refl is
  where
    go : (p q r s : Bool) → nat_le b.low a.low ≡ p → nat_le b.left a.left ≡ q → nat_le a.high b.high ≡ r → nat_le a.right b.right ≡ s → (p && q && r && s) ≡ true → LiesIn a b
    go true true true true one two three four is =
        record { low = true-le _ _ one; left = true-le _ _ two; high = true-le _ _ three; right = true-le _ _ four }
    go false q r s one two three four is = let never : ⊥ = cc in absurd never
    go true false r s one two three four is = let never : ⊥ = cc in absurd never
    go true true false s one two three four is = let never : ⊥ = cc in absurd never
    go true true true false one two three four is = let never : ⊥ = cc in absurd never

-- the list of all blocks
pub blocks-has : (strips columns : ℕ) (b : Block) → IsBlock strips columns b → Contains (blocks strips columns) b
blocks-has strips columns b is =
    Contains-flat_map (blocks_from strips columns) (numbers 0 strips) b.low b (numbers-has 0 strips b.low (omega arith) (omega (arith, is.tall, is.up)))
    (Contains-flat_map (blocks_at strips columns b.low) (numbers 0 columns) b.left b (numbers-has 0 columns b.left (omega arith) (omega (arith, is.wide, is.across)))
    (Contains-flat_map (blocks_to strips columns b.low b.left) (numbers (b.low + 1) (strips + 1)) b.high b
    (numbers-has (b.low + 1) (strips + 1) b.high (omega (arith, is.tall)) (omega (arith, is.up)))
    (map-member (λ (r : ℕ). record { low = b.low; left = b.left; high = b.high; right = r }) (numbers (b.left + 1) (columns + 1)) b.right
    (numbers-has (b.left + 1) (columns + 1) b.right (omega (arith, is.wide)) (omega (arith, is.across))))))

pub blocks-are : (strips columns : ℕ) (b : Block) → Contains (blocks strips columns) b → IsBlock strips columns b
blocks-are strips columns b member =
    let low = Contains-flat_map_cases (blocks_from strips columns) (numbers 0 strips) b member in
    let left = Contains-flat_map_cases (blocks_at strips columns low.0) (numbers 0 columns) b low.2 in
    let high = Contains-flat_map_cases (blocks_to strips columns low.0 left.0) (numbers (low.0 + 1) (strips + 1)) b left.2 in
    let right = map-cases (λ (r : ℕ). record { low = low.0; left = left.0; high = high.0; right = r }) (numbers (left.0 + 1) (columns + 1)) b high.2 in
    let up = numbers-are (low.0 + 1) (strips + 1) high.0 high.1 in
    let across = numbers-are (left.0 + 1) (columns + 1) right.0 right.1 in
    subst (IsBlock strips columns) right.2
    (record { wide = omega (arith, across.0); tall = omega (arith, up.0); across = omega (arith, across.1); up = omega (arith, up.1) })

spared : (p q r : Bool) → (not (p && q) || r) ≡ true → p ≡ true → q ≡ true → r ≡ true
spared true true r is first second = is
spared false q r is first second = let never : ⊥ = cc in absurd never
spared true false r is first second = let never : ⊥ = cc in absurd never

spare : (p q r : Bool) → (p ≡ true → q ≡ true → r ≡ true) → (not (p && q) || r) ≡ true
spare true true r is = is refl refl
spare false q r is = refl
spare true false r is = refl

module _ (filled : ℕ → ℕ → Bool) (strips columns : ℕ) where
  -- what it says that a block is maximal
  pub maximal-filled : (b : Block) → is_maximal filled strips columns b ≡ true → is_filled_block filled b ≡ true
  maximal-filled b is = (and_parts (is_filled_block filled b) _ is).0

  pub maximal-widest : (b c : Block) → is_maximal filled strips columns b ≡ true → IsBlock strips columns c → is_filled_block filled c ≡ true → LiesIn b c → LiesIn c b
  maximal-widest b c is block full inside =
      true-lies c b
      (spared (is_filled_block filled c) (lies_in b c) (lies_in c b)
      (all-member (λ other. not (is_filled_block filled other && lies_in b other) || lies_in other b) c (blocks strips columns)
      ((and_parts (is_filled_block filled b) _ is).1) (blocks-has strips columns c block))
      full (lies-true b c inside))

  pub maximal-from : (b : Block) → is_filled_block filled b ≡ true
      → ((c : Block) → IsBlock strips columns c → is_filled_block filled c ≡ true → LiesIn b c → LiesIn c b) → is_maximal filled strips columns b ≡ true
  maximal-from b full widest =
      and_from (is_filled_block filled b) _ full
      (all-from (λ other. not (is_filled_block filled other && lies_in b other) || lies_in other b) (blocks strips columns)
      (λ c member.
      spare (is_filled_block filled c) (lies_in b c) (lies_in c b)
      (λ other inside. lies-true c b (widest c (blocks-are strips columns c member) other (true-lies b c inside)))))

  -- a block is not maximal where a cell of it is not filled
  pub not-filled : (b : Block) (strip column : ℕ) → b.low ≤ strip → strip < b.high → b.left ≤ column → column < b.right → filled strip column ≡ false
      → is_maximal filled strips columns b ≡ false
  not-filled b strip column low high left right empty =
      false_from_ne_true (is_maximal filled strips columns b)
      (λ is. both_ways (filled strip column) empty (filled-cell filled b strip column (maximal-filled b is) low high left right))

  -- nor where it can grow
  pub grows : (b c : Block) → IsBlock strips columns c → LiesIn b c → (LiesIn c b → ⊥) → (is_filled_block filled b ≡ true → is_filled_block filled c ≡ true)
      → is_maximal filled strips columns b ≡ false
  grows b c block inside larger full =
      false_from_ne_true (is_maximal filled strips columns b) (λ is. larger (maximal-widest b c is block (full (maximal-filled b is)) inside))
