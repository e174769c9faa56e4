use Rattle.std.proofs.Common.{◌≡◌, ◌∙◌, ◌<◌, ◌≤◌, ◌+◌, ◌*◌, ◌&&◌, ℕ, Bool, true, false, cond, List, [], ◌∷◌, length, ℤ, ap, refl, sym, arith}
use Rattle.std.proofs.lemmas.Bool.Decides.{nat_tests}
use Rattle.std.specs.List.{AllByRecursion, flat_map}
use Rattle.std.specs.Prelude.{if◌then◌else◌, nat_le}
use Rattle.std_laws.proofs.Every.{every-weaker}
use Rattle.geom_core.specs.Extent.{Extent}
use Rattle.region_cut.specs.Covered.{grid_over}
use Rattle.region_cut.specs.Grids.{blocks_of, columns, strips}
use Rattle.region_cut.specs.Merged.{merged, work}
use Rattle.region_cut.proofs.SideLaws.{OfSides, blocks-all, every-ascending}

-- what merging gives, by what the two tests say
by-tests : {X : Type 0} (p q : Bool) (blocks rects : List X) → p ≡ true → q ≡ true → blocks ≡ cond (p && q) blocks rects
by-tests true true blocks rects first second = refl
by-tests true false blocks rects first second = let never : ⊥ = cc in absurd never
by-tests false q blocks rects first second = let never : ⊥ = cc in absurd never

no-work : {X : Type 0} (p q : Bool) (blocks rects : List X) → p ≡ false → rects ≡ cond (p && q) blocks rects
no-work true q blocks rects first = let never : ⊥ = cc in absurd never
no-work false q blocks rects first = refl

no-room : {X : Type 0} (p q : Bool) (blocks rects : List X) → q ≡ false → rects ≡ cond (p && q) blocks rects
no-room p true blocks rects second = let never : ⊥ = cc in absurd never
no-room true false blocks rects second = refl
no-room false false blocks rects second = refl

-- what the test of the work says
pub work-test : (most s k : ℕ) (rects : List Extent) (b : Bool) → s ≡ strips (grid_over rects) → k ≡ columns (grid_over rects) → b ≡ nat_le (s * (k + length rects)) most → nat_le (work rects) most ≡ b
work-test most s k rects b up across is =
    sym (is ∙ ap (λ n. nat_le (n * (k + length rects)) most) up ∙ ap (λ n. nat_le (strips (grid_over rects) * (n + length rects)) most) across)

-- rectangles that become the maximal blocks, and rectangles that stay
pub merged-blocks : (most : ℕ) (rects : List Extent) → nat_le (work rects) most ≡ true → length (blocks_of (grid_over rects)) ≤ 2 * length rects → blocks_of (grid_over rects) ≡ merged most rects
unfolding merged
merged-blocks most rects first few =
    by-tests (nat_le (work rects) most) (nat_le (length (blocks_of (grid_over rects))) (2 * length rects)) (blocks_of (grid_over rects)) rects first (grind (arith, nat_tests))

pub merged-work : (most : ℕ) (rects : List Extent) → nat_le (work rects) most ≡ false → rects ≡ merged most rects
unfolding merged
merged-work most rects first =
    no-work (nat_le (work rects) most) (nat_le (length (blocks_of (grid_over rects))) (2 * length rects)) (blocks_of (grid_over rects)) rects first

pub merged-many : (most : ℕ) (rects : List Extent) → 2 * length rects < length (blocks_of (grid_over rects)) → rects ≡ merged most rects
unfolding merged
merged-many most rects many =
    no-room (nat_le (work rects) most) (nat_le (length (blocks_of (grid_over rects))) (2 * length rects)) (blocks_of (grid_over rects)) rects (grind (arith, nat_tests))

pairs-all : (P : ℤ → Type 0) (f g : Extent → ℤ) (rects : List Extent) → AllByRecursion (λ r. P (f r) × P (g r)) rects → AllByRecursion P (flat_map (λ r. f r ∷ (g r ∷ [])) rects)
pairs-all P f g [] all = tt
pairs-all P f g (r ∷ rects) all = (all.0.0, (all.0.1, pairs-all P f g rects all.1))

chosen : {X : Type 0} (Q : X → Type 0) (b : Bool) (xs ys : List X) → AllByRecursion Q xs → AllByRecursion Q ys → AllByRecursion Q (if b then xs else ys)
chosen Q true xs ys first second = first
chosen Q false xs ys first second = second

-- what holds of the sides of rectangles holds of those of the rectangles merged
pub merged-all : (P : ℤ → Type 0) (most : ℕ) (rects : List Extent) → AllByRecursion (λ (r : Extent). P r.x0 × P r.x1 × P r.y0 × P r.y1) rects
    → AllByRecursion (λ (r : Extent). P r.x0 × P r.x1 × P r.y0 × P r.y1) (merged most rects)
unfolding merged
merged-all P most rects all =
    chosen (OfSides P) (nat_le (work rects) most && nat_le (length (blocks_of (grid_over rects))) (2 * length rects)) (blocks_of (grid_over rects)) rects
    (blocks-all P (grid_over rects)
    (every-ascending P _ (pairs-all P (λ r. r.x0) (λ r. r.x1) rects (every-weaker (OfSides P) (λ r. P r.x0 × P r.x1) (λ r is. (is.0, is.1)) rects all)))
    (every-ascending P _ (pairs-all P (λ r. r.y0) (λ r. r.y1) rects (every-weaker (OfSides P) (λ r. P r.y0 × P r.y1) (λ r is. (is.2, is.3)) rects all))))
    all
