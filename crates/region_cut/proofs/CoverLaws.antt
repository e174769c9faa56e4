use Rattle.std.proofs.Common.{◌≡◌, ◌∙◌, ◌<◌, ◌≤◌, ◌+◌, ◌*◌, inl, inr, ◌⊎◌, ℕ, zero, suc, Bool, true, false, ◌&&◌, ℤ, ◌≤ℤ◌, ◌<ℤ◌, List, [], ◌∷◌, Contains, length, refl, sym, subst, arith, Ordering}
use Rattle.std.proofs.lemmas.Bool.{and_from, and_parts, cases_lt}
use Rattle.std.proofs.lemmas.Cmp.{int_ranked}
use Rattle.std.proofs.lemmas.Int.{ints}
use Rattle.std.specs.BTreeSet.{insert_key}
use Rattle.std.specs.List.{AllByRecursion, flat_map, fold}
use Rattle.std.specs.Ordering.{MatchOrdering, int_cmp, match_ordering}
use Rattle.std.specs.Prelude.{if◌then◌else◌, int_le, nat_le}
use Rattle.std.specs.declared.cmp.Ordering.TheVariants.{Less, Equal, Greater}
use Rattle.std_laws.proofs.Every.{every-get}
use Rattle.std_laws.proofs.Members.{Contains-flat_map, any-cases, any-member, contains-get, filter-from, map-cases, member-cases, member-head, member-none, member-same, member-tail}
use Rattle.geom_core.specs.Extent.{Extent}
use Rattle.geom_core.specs.Rectangles.{Encloses}
use Rattle.region_cut.specs.Blocks.{Block, IsBlock, blocks, is_filled_block, is_maximal, maximal_blocks}
use Rattle.region_cut.specs.Covered.{HasArea, covers, grid_over, is_covered, reaches, sides_across, sides_up, spreads}
use Rattle.region_cut.specs.Grids.{ascending, blocks_of, columns, extent_of, line, strips}
use Rattle.region_cut.specs.Merged.{CoverSame, IsInSome, merged, work}
use Rattle.region_cut.specs.Strokes.{IsIn}
use Rattle.region_cut.proofs.BlockLaws.{blocks-are, filled-cell, filled-from, maximal-filled}
use Rattle.region_cut.proofs.LineLaws.{Rises, rises-ascending}
use Rattle.region_cut.proofs.MarkLaws.{covered-is}
use Rattle.region_cut.proofs.MaximalLaws.{fill, line-rises}

either : (a b : ℤ) → (a ≤ℤ b) ⊎ (b ≤ℤ a)
either a b = grind (arith, ints)

true-le : (a b : ℤ) → int_le a b ≡ true → a ≤ℤ b
true-le a b is = grind (arith, ints)

le-true : (a b : ℤ) → a ≤ℤ b → int_le a b ≡ true
le-true a b is = grind (arith, ints)

-- a place between two lines lies between two neighbours
between : (lines : List ℤ) (x : ℤ) (i j : ℕ) → i < j → line lines i ≤ℤ x → x ≤ℤ line lines j → (k : ℕ) × (i ≤ k) × (k < j) × (line lines k ≤ℤ x) × (x ≤ℤ line lines (k + 1))
between lines x i zero less above below = absurd (omega arith)
between lines x i (suc j) less above below = elim (cases_lt i j) [
  | inl more ↦ elim (either x (line lines j)) [
    | inl under ↦ let found = between lines x i j more above under in (found.0, found.1, omega (arith, found.2), found.3, found.4)
    | inr over ↦ here over
  ]
  | inr last ↦ let same : i ≡ j = omega arith in here (subst (λ k. line lines k ≤ℤ x) same above)
]
  where
    here : line lines j ≤ℤ x → (k : ℕ) × (i ≤ k) × (k < suc j) × (line lines k ≤ℤ x) × (x ≤ℤ line lines (k + 1))
    here over =
        let next : suc j ≡ j + 1 = omega arith in
        (j, omega arith, omega arith, over, subst (λ k. x ≤ℤ line lines k) next below)

-- a rectangle has a cell with these sides in it
record HasCell (left right low high : ℤ) (r : Extent) : Type 0 where
  low_in : r.y0 ≤ℤ low
  high_in : high ≤ℤ r.y1
  left_in : r.x0 ≤ℤ left
  right_in : right ≤ℤ r.x1

covers-has : (left right low high : ℤ) (r : Extent) → covers left right low high r ≡ true → HasCell left right low high r
covers-has left right low high r is =
    let both = and_parts (reaches low high r) (spreads left right r) is in
    let up = and_parts (int_le r.y0 low) (int_le high r.y1) both.0 in
    let across = and_parts (int_le r.x0 left) (int_le right r.x1) both.1 in
    record { low_in = true-le _ _ up.0; high_in = true-le _ _ up.1; left_in = true-le _ _ across.0; right_in = true-le _ _ across.1 }

has-covers : (left right low high : ℤ) (r : Extent) → HasCell left right low high r → covers left right low high r ≡ true
has-covers left right low high r is =
    and_from (reaches low high r) (spreads left right r)
    (and_from (int_le r.y0 low) (int_le high r.y1) (le-true _ _ is.low_in) (le-true _ _ is.high_in))
    (and_from (int_le r.x0 left) (int_le right r.x1) (le-true _ _ is.left_in) (le-true _ _ is.right_in))

-- a number is among its different ones
key-new : (keys : List ℤ) (z : ℤ) → Contains (insert_key int_cmp keys z) z
key-new [] z = member-head z []
key-new (x ∷ xs) z = by (int_cmp z x) (int_ranked z x (int_cmp z x) refl) (key-new xs z)
  where
    by : (o : Ordering) → MatchOrdering o (z <ℤ x) (z ≡ x) (x <ℤ z) → Contains (insert_key int_cmp xs z) z → Contains (match_ordering o (z ∷ (x ∷ xs)) (x ∷ xs) (x ∷ insert_key int_cmp xs z)) z
    by Less is rest = member-head z (x ∷ xs)
    by Equal is rest = member-same x z xs (sym is)
    by Greater is rest = member-tail x (insert_key int_cmp xs z) z rest

key-old : (keys : List ℤ) (z w : ℤ) → Contains keys w → Contains (insert_key int_cmp keys z) w
key-old [] z w member = absurd (member-none w member)
key-old (x ∷ xs) z w member = by (int_cmp z x) (λ later. key-old xs z w later)
  where
    by : (o : Ordering) → (Contains xs w → Contains (insert_key int_cmp xs z) w) → Contains (match_ordering o (z ∷ (x ∷ xs)) (x ∷ xs) (x ∷ insert_key int_cmp xs z)) w
    by Less rest = member-tail z (x ∷ xs) w member
    by Equal rest = member
    by Greater rest = elim (member-cases x xs w member) [
      | inl same ↦ member-same x w (insert_key int_cmp xs z) same
      | inr later ↦ member-tail x (insert_key int_cmp xs z) w (rest later)
    ]

keys-old : (keys zs : List ℤ) (w : ℤ) → Contains keys w → Contains (fold (insert_key int_cmp) keys zs) w
keys-old keys [] w member = member
keys-old keys (z ∷ zs) w member = keys-old (insert_key int_cmp keys z) zs w (key-old keys z w member)

keys-new : (keys zs : List ℤ) (w : ℤ) → Contains zs w → Contains (fold (insert_key int_cmp) keys zs) w
keys-new keys [] w member = absurd (member-none w member)
keys-new keys (z ∷ zs) w member = elim (member-cases z zs w member) [
  | inl same ↦ keys-old (insert_key int_cmp keys z) zs w (subst (λ v. Contains (insert_key int_cmp keys z) v) same (key-new keys z))
  | inr later ↦ keys-new (insert_key int_cmp keys z) zs w later
]

place : (lines : List ℤ) (z : ℤ) → Contains lines z → (i : ℕ) × (i < length lines) × (line lines i ≡ z)
place [] z member = absurd (member-none z member)
place (x ∷ xs) z member = elim (member-cases x xs z member) [
  | inl same ↦ (0, omega arith, same)
  | inr later ↦ let found = place xs z later in (suc found.0, omega (arith, found.1), found.2)
]

line-at : (zs : List ℤ) (z : ℤ) → Contains zs z → (i : ℕ) × (i < length (ascending zs)) × (line (ascending zs) i ≡ z)
unfolding ascending
line-at zs z member = place (fold (insert_key int_cmp) [] zs) z (keys-new [] zs z member)

-- two lines stand in the order of the numbers where they lie
ordered : (lines : List ℤ) (i j : ℕ) (a b : ℤ) → Rises lines → i < length lines → line lines i ≡ a → line lines j ≡ b → a <ℤ b → i < j
ordered lines i j a b up within first second less = elim (cases_lt i j) [
  | inl below ↦ below
  | inr above ↦
      let back = line-rises lines j i up above within in
      let turned : b ≤ℤ a = subst (λ v. v ≤ℤ a) second (subst (λ v. line lines j ≤ℤ v) first back) in
      absurd (omega (arith, ints))
]

module _ (rects : List Extent) where
  has-first : (f g : Extent → ℤ) (r : Extent) → Contains rects r → Contains (flat_map (λ e. f e ∷ (g e ∷ [])) rects) (f r)
  has-first f g r member = Contains-flat_map (λ e. f e ∷ (g e ∷ [])) rects r (f r) member (member-head (f r) (g r ∷ []))

  has-second : (f g : Extent → ℤ) (r : Extent) → Contains rects r → Contains (flat_map (λ e. f e ∷ (g e ∷ [])) rects) (g r)
  has-second f g r member =
      Contains-flat_map (λ e. f e ∷ (g e ∷ [])) rects r (g r) member (member-tail (f r) (g r ∷ []) (g r) (member-head (g r) []))

  -- the sides of a filled block that is one of the rectangles
  record IsBlockOf (r : Extent) (b : Block) : Type 0 where
    valid : IsBlock (strips (grid_over rects)) (columns (grid_over rects)) b
    full : is_filled_block (is_covered rects) b ≡ true
    left : line (sides_across rects) b.left ≡ r.x0
    right : line (sides_across rects) b.right ≡ r.x1
    low : line (sides_up rects) b.low ≡ r.y0
    high : line (sides_up rects) b.high ≡ r.y1

  block-of : (r : Extent) → Contains rects r → HasArea r → (b : Block) × IsBlockOf r b
  block-of r member area =
      let left = line-at _ r.x0 (has-first (λ e. e.x0) (λ e. e.x1) r member) in
      let right = line-at _ r.x1 (has-second (λ e. e.x0) (λ e. e.x1) r member) in
      let low = line-at _ r.y0 (has-first (λ e. e.y0) (λ e. e.y1) r member) in
      let high = line-at _ r.y1 (has-second (λ e. e.y0) (λ e. e.y1) r member) in
      let wide = ordered (sides_across rects) left.0 right.0 r.x0 r.x1 (rises-ascending _) left.1 left.2 right.2 area.across in
      let tall = ordered (sides_up rects) low.0 high.0 r.y0 r.y1 (rises-ascending _) low.1 low.2 high.2 area.up in
      let b : Block = record { low = low.0; left = left.0; high = high.0; right = right.0 } in (
        b,
        record {
          valid = record { wide = wide; tall = tall; across = omega (arith, right.1); up = omega (arith, high.1) };
          full = filled-from (is_covered rects) b (λ s k under over from to.
              sym (covered-is rects s k)
              ∙ any-member (covers (line (sides_across rects) k) (line (sides_across rects) (k + 1)) (line (sides_up rects) s) (line (sides_up rects) (s + 1))) rects r member
              (has-covers _ _ _ _ r (record {
                low_in = subst (λ v. v ≤ℤ line (sides_up rects) s) low.2 (line-rises (sides_up rects) low.0 s (rises-ascending _) under (omega (arith, over, high.1)));
                high_in = subst (λ v. line (sides_up rects) (s + 1) ≤ℤ v) high.2 (line-rises (sides_up rects) (s + 1) high.0 (rises-ascending _) (omega (arith, over)) high.1);
                left_in = subst (λ v. v ≤ℤ line (sides_across rects) k) left.2 (line-rises (sides_across rects) left.0 k (rises-ascending _) from (omega (arith, to, right.1)));
                right_in = subst (λ v. line (sides_across rects) (k + 1) ≤ℤ v) right.2 (line-rises (sides_across rects) (k + 1) right.0 (rises-ascending _) (omega (arith, to)) right.1);
              })));
          left = left.2;
          right = right.2;
          low = low.2;
          high = high.2;
        },
      )

  -- a point of a filled block lies in one of the rectangles
  point-covered : (x y : ℤ) (b : Block) → IsBlock (strips (grid_over rects)) (columns (grid_over rects)) b → is_filled_block (is_covered rects) b ≡ true
      → IsIn x y (extent_of (grid_over rects) b) → IsInSome x y rects
  point-covered x y b valid full inside =
      let k = between (sides_across rects) x b.left b.right valid.wide inside.left inside.right in
      let s = between (sides_up rects) y b.low b.high valid.tall inside.low inside.high in
      let found =
      any-cases (covers (line (sides_across rects) k.0) (line (sides_across rects) (k.0 + 1)) (line (sides_up rects) s.0) (line (sides_up rects) (s.0 + 1))) rects
      (covered-is rects s.0 k.0 ∙ filled-cell (is_covered rects) b s.0 k.0 full s.1 s.2 k.1 k.2) in
      let cell = covers-has _ _ _ _ found.0 found.2 in (
        found.0,
        found.1,
        record {
          left = under _ _ _ cell.left_in k.3;
          low = under _ _ _ cell.low_in s.3;
          right = under _ _ _ k.4 cell.right_in;
          high = under _ _ _ s.4 cell.high_in;
        },
      )
    where
      under : (a b c : ℤ) → a ≤ℤ b → b ≤ℤ c → a ≤ℤ c
      under a b c first second = omega (arith, ints)

  -- the maximal blocks have the points of the rectangles in them
  blocks-cover : AllByRecursion HasArea rects → CoverSame rects (blocks_of (grid_over rects))
  blocks-cover areas x y = (
    λ has.
        let r = has.0 in
        let b = block-of r has.1 (every-get HasArea rects has.1.0 r areas (contains-get rects r has.1)) in
        let found = (fill (grid_over rects) (rises-ascending _) (rises-ascending _)).blocks b.0 b.1.valid b.1.full in (
          found.0,
          found.1,
          wider found.0 b.0 r b.1 found.2 has.2,
        ),
    λ has.
        let from = map-cases (extent_of (grid_over rects)) (maximal_blocks (is_covered rects) (strips (grid_over rects)) (columns (grid_over rects))) has.0 has.1 in
        let kept = filter-from (is_maximal (is_covered rects) (strips (grid_over rects)) (columns (grid_over rects))) (blocks (strips (grid_over rects)) (columns (grid_over rects))) from.0 from.1 in
        point-covered x y from.0 (blocks-are (strips (grid_over rects)) (columns (grid_over rects)) from.0 kept.0)
        (maximal-filled (is_covered rects) (strips (grid_over rects)) (columns (grid_over rects)) from.0 kept.1)
        (subst (IsIn x y) (sym from.2) has.2),
  )
    where
      step : (a b c d : ℤ) → a ≤ℤ b → b ≡ c → c ≤ℤ d → a ≤ℤ d
      step a b c d first same second = omega (arith, ints)

      wider : (e : Extent) (b : Block) (r : Extent) → IsBlockOf r b → Encloses e (extent_of (grid_over rects) b) → IsIn x y r → IsIn x y e
      wider e b r is round inside = record {
        left = step _ _ _ _ round.left is.left inside.left;
        low = step _ _ _ _ round.low is.low inside.low;
        right = step _ _ _ _ inside.right (sym is.right) round.right;
        high = step _ _ _ _ inside.high (sym is.high) round.high;
      }

chosen : (b : Bool) (rects xs ys : List Extent) → CoverSame rects xs → CoverSame rects ys → CoverSame rects (if b then xs else ys)
chosen true rects xs ys first second = first
chosen false rects xs ys first second = second

-- and so have the rectangles merged
pub merged-covers : (most : ℕ) (rects : List Extent) → AllByRecursion HasArea rects → CoverSame rects (merged most rects)
unfolding merged
merged-covers most rects areas =
    chosen (nat_le (work rects) most && nat_le (length (blocks_of (grid_over rects))) (2 * length rects)) rects (blocks_of (grid_over rects)) rects (blocks-cover rects areas)
    (λ x y. (λ has. has, λ has. has))

pub covers-from : (most : ℕ) (rects items : List Extent) → AllByRecursion HasArea rects → items ≡ merged most rects → CoverSame rects items
covers-from most rects items areas is = subst (CoverSame rects) (sym is) (merged-covers most rects areas)
