use Rattle.std.proofs.Common.{◌≡◌, ◌∙◌, ◌<◌, ◌≤◌, ◌+◌, ◌-◌, inl, inr, ℕ, suc, zero, Bool, true, false, not, ◌&&◌, ◌||◌, ℤ, ◌≤ℤ◌, List, [], ◌∷◌, ◌++◌, Contains, filter, length, map, ap, ap₂, refl, sym, subst, arith}
use Rattle.std.proofs.lemmas.Bool.{both_ways, cases_lt}
use Rattle.std.proofs.lemmas.Int.{ints}
use Rattle.std.proofs.lemmas.List.{map-append}
use Rattle.std.proofs.lemmas.List.Elements.{filter-append}
use Rattle.std.specs.List.{flat_map, list_all}
use Rattle.std_laws.proofs.Members.{all-fails, filter-from, filter-member, map-cases, map-member}
use Rattle.geom_core.specs.Extent.{Extent}
use Rattle.geom_core.specs.Rectangles.{Encloses}
use Rattle.region_cut.specs.Blocks.{Block, IsBlock, blocks, blocks_at, blocks_from, is_filled_block, is_maximal, lies_in, maximal_blocks, numbers}
use Rattle.region_cut.specs.Grids.{Grid, blocks_of, cell, columns, extent_of, line, strips}
use Rattle.region_cut.specs.Maximal.{Fill, corner_rects, rects_from, strip_rects}
use Rattle.region_cut.proofs.BlockLaws.{LiesIn, blocks-are, blocks-has, filled-cell, filled-from, lies-true, maximal-filled, true-lies}
use Rattle.region_cut.proofs.LineLaws.{Rises, rises-lines}

-- what is drawn of lists one after the other
drawn : {X : Type 0} (p : Block → Bool) (f : Block → X) (g : ℕ → List Block) (xs : List ℕ) → map f (filter p (flat_map g xs)) ≡ flat_map (λ x. map f (filter p (g x))) xs
drawn p f g [] = refl
drawn p f g (x ∷ xs) =
    ap (map f) (filter-append p (g x) (flat_map g xs)) ∙ map-append f (filter p (g x)) (filter p (flat_map g xs)) ∙ ap (λ l. map f (filter p (g x)) ++ l) (drawn p f g xs)

flat-same : {X : Type 0} (f g : ℕ → List X) (xs : List ℕ) → ((x : ℕ) → f x ≡ g x) → flat_map f xs ≡ flat_map g xs
flat-same f g [] same = refl
flat-same f g (x ∷ xs) same = ap₂ (λ a b. a ++ b) (same x) (flat-same f g xs same)

-- all maximal blocks, corner by corner
pub all-rects : (g : Grid) → blocks_of g ≡ rects_from g 0
unfolding corner_rects
all-rects g =
    drawn (is_maximal g.filled (strips g) (columns g)) (extent_of g) (blocks_from (strips g) (columns g)) (numbers 0 (strips g))
    ∙ flat-same (λ low. map (extent_of g) (filter (is_maximal g.filled (strips g) (columns g)) (blocks_from (strips g) (columns g) low)))
    (λ low. strip_rects g low 0) (numbers 0 (strips g))
    (λ low. drawn (is_maximal g.filled (strips g) (columns g)) (extent_of g) (blocks_at (strips g) (columns g) low) (numbers 0 (columns g)))

module _ (filled : ℕ → ℕ → Bool) (rows cols : ℕ) where
  same-block : (b : Block) → LiesIn b b
  same-block b = record { low = omega arith; left = omega arith; high = omega arith; right = omega arith }

  larger : (a b c : Block) → LiesIn a b → LiesIn b c → LiesIn a c
  larger a b c first second = record {
    low = omega (arith, first.low, second.low);
    left = omega (arith, first.left, second.left);
    high = omega (arith, first.high, second.high);
    right = omega (arith, first.right, second.right);
  }

  -- how much a block could grow
  room : Block → ℕ
  room b = b.low + b.left + (rows - b.high) + (cols - b.right)

  less-room : (b c : Block) → IsBlock rows cols c → LiesIn b c → (LiesIn c b → ⊥) → room c < room b
  unfolding room
  less-room b c valid inside apart = elim (cases_lt c.low b.low) [
    | inl low ↦ omega (arith, inside.left, inside.high, inside.right, valid.up, valid.across)
    | inr low ↦ elim (cases_lt c.left b.left) [
      | inl left ↦ omega (arith, inside.low, inside.high, inside.right, valid.up, valid.across)
      | inr left ↦ elim (cases_lt b.high c.high) [
        | inl high ↦ omega (arith, inside.low, inside.left, inside.right, valid.up, valid.across)
        | inr high ↦ elim (cases_lt b.right c.right) [
          | inl right ↦ omega (arith, inside.low, inside.left, inside.high, valid.up, valid.across)
          | inr right ↦ absurd (apart (record { low = low; left = left; high = high; right = right }))
        ]
      ]
    ]
  ]

  refused : (p q r : Bool) → (not (p && q) || r) ≡ false → (p ≡ true) × (q ≡ true) × (r ≡ false)
  refused true true r is = (refl, refl, is)
  refused true false r is = let never : ⊥ = cc in absurd never
  refused false q r is = let never : ⊥ = cc in absurd never

  -- every filled block lies in a maximal one
  widen : (b : Block) → IsBlock rows cols b → is_filled_block filled b ≡ true
      → ((c : Block) → room c < room b → IsBlock rows cols c → is_filled_block filled c ≡ true → (d : Block) × Contains (maximal_blocks filled rows cols) d × LiesIn c d)
      → (c : Block) × Contains (maximal_blocks filled rows cols) c × LiesIn b c
  widen b valid full more = by (is_maximal filled rows cols b) refl
    where
      by : (t : Bool) → is_maximal filled rows cols b ≡ t → (c : Block) × Contains (maximal_blocks filled rows cols) c × LiesIn b c
      by true is = (b, filter-member (is_maximal filled rows cols) (blocks rows cols) b (blocks-has rows cols b valid) is, same-block b)
      by false is =
          let rest : list_all (λ other. not (is_filled_block filled other && lies_in b other) || lies_in other b) (blocks rows cols) ≡ false = ap (λ t. t && list_all (λ other. not (is_filled_block filled other && lies_in b other) || lies_in other b) (blocks rows cols)) (sym full) ∙ is in
          let found = all-fails (λ other. not (is_filled_block filled other && lies_in b other) || lies_in other b) (blocks rows cols) rest in
          let says = refused (is_filled_block filled found.0) (lies_in b found.0) (lies_in found.0 b) found.2 in
          let block = blocks-are rows cols found.0 found.1 in
          let inside = true-lies b found.0 says.1 in
          let greater = more found.0 (less-room b found.0 block inside (λ back. both_ways (lies_in found.0 b) says.2 (lies-true found.0 b back))) block says.0 in
          (greater.0, greater.1, larger b found.0 greater.0 inside greater.2)

  lies-maximal : (fuel : ℕ) (b : Block) → room b ≤ fuel → IsBlock rows cols b → is_filled_block filled b ≡ true
      → (c : Block) × Contains (maximal_blocks filled rows cols) c × LiesIn b c
  lies-maximal zero b within valid full = widen b valid full (λ c less block all. absurd (omega arith))
  lies-maximal (suc fuel) b within valid full = widen b valid full (λ c less block all. lies-maximal fuel c (omega arith) block all)

  pub in-maximal : (b : Block) → IsBlock rows cols b → is_filled_block filled b ≡ true → (c : Block) × Contains (maximal_blocks filled rows cols) c × LiesIn b c
  in-maximal b valid full = lies-maximal (room b) b (omega arith) valid full

-- lines do not fall
pub line-rises : (lines : List ℤ) (i j : ℕ) → Rises lines → i ≤ j → j < length lines → line lines i ≤ℤ line lines j
line-rises lines i j up less within = elim (cases_lt i j) [
  | inl below ↦ let strict = rises-lines lines i j up below within in omega (arith, ints)
  | inr above ↦ let same : i ≡ j = omega arith in subst (λ k. line lines i ≤ℤ line lines k) same (omega (arith, ints))
]

line-order : (lines : List ℤ) (i j : ℕ) → Rises lines → i < length lines → line lines j ≤ℤ line lines i → j < length lines → j ≤ i
line-order lines i j up within below inside = elim (cases_lt i j) [
  | inl less ↦ let strict = rises-lines lines i j up less inside in absurd (omega (arith, ints))
  | inr fits ↦ fits
]

module _ (g : Grid) (rises : Rises g.across) (climbs : Rises g.up) where
  -- a block lies in another just where its rectangle does
  encloses : (b c : Block) → IsBlock (strips g) (columns g) c → LiesIn b c → b.left < b.right → b.low < b.high → Encloses (extent_of g c) (extent_of g b)
  encloses b c valid inside wide tall = record {
    left = line-rises g.across c.left b.left rises inside.left (omega (arith, valid.wide, valid.across, inside.right));
    low = line-rises g.up c.low b.low climbs inside.low (omega (arith, valid.tall, valid.up, inside.high));
    right = line-rises g.across b.right c.right rises inside.right (omega (arith, valid.wide, valid.across));
    high = line-rises g.up b.high c.high climbs inside.high (omega (arith, valid.tall, valid.up));
  }

  enclosed : (b c : Block) → IsBlock (strips g) (columns g) b → IsBlock (strips g) (columns g) c → Encloses (extent_of g c) (extent_of g b) → LiesIn b c
  enclosed b c valid block inside = record {
    left = line-order g.across b.left c.left rises (omega (arith, valid.wide, valid.across)) inside.left (omega (arith, block.wide, block.across));
    low = line-order g.up b.low c.low climbs (omega (arith, valid.tall, valid.up)) inside.low (omega (arith, block.tall, block.up));
    right = line-order g.across c.right b.right rises (omega (arith, block.wide, block.across)) inside.right (omega (arith, valid.wide, valid.across));
    high = line-order g.up c.high b.high climbs (omega (arith, block.tall, block.up)) inside.high (omega (arith, valid.tall, valid.up));
  }

  fill-blocks : (b : Block) → IsBlock (strips g) (columns g) b → is_filled_block g.filled b ≡ true
      → (r : Extent) × Contains (map (extent_of g) (maximal_blocks g.filled (strips g) (columns g))) r × Encloses r (extent_of g b)
  fill-blocks b valid full =
      let found = in-maximal g.filled (strips g) (columns g) b valid full in
      let block = blocks-are (strips g) (columns g) found.0 (filter-from (is_maximal g.filled (strips g) (columns g)) (blocks (strips g) (columns g)) found.0 found.1).0 in
      (extent_of g found.0, map-member (extent_of g) _ found.0 found.1, encloses b found.0 block found.2 valid.wide valid.tall)

  -- the maximal blocks fill just the filled cells
  pub fill : Fill g (blocks_of g)
  fill = record {
    cells = λ strip column up across.
        let is : IsBlock (strips g) (columns g) (cell strip column) = record { wide = omega arith; tall = omega arith; across = omega arith; up = omega arith } in (
          λ has.
              let from = map-cases (extent_of g) (maximal_blocks g.filled (strips g) (columns g)) has.0 has.1 in
              let kept = filter-from (is_maximal g.filled (strips g) (columns g)) (blocks (strips g) (columns g)) from.0 from.1 in
              let block = blocks-are (strips g) (columns g) from.0 kept.0 in
              let inside = enclosed (cell strip column) from.0 is block (subst (λ r. Encloses r (extent_of g (cell strip column))) (sym from.2) has.2) in
              filled-cell g.filled from.0 strip column (maximal-filled g.filled (strips g) (columns g) from.0 kept.1)
              inside.low (omega (arith, inside.high)) inside.left (omega (arith, inside.right)),
          λ full. fill-blocks (cell strip column) is (filled-from g.filled (cell strip column) (λ s k low high left right.
              let first : strip ≡ s = omega arith in
              let second : column ≡ k = omega arith in
              subst (λ t. g.filled t k ≡ true) first (subst (λ t. g.filled strip t ≡ true) second full))),
        );
    blocks = fill-blocks;
  }
