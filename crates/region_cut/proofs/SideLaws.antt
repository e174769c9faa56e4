use Rattle.std.proofs.Common.{◌≡◌, ◌<◌, ◌<ℤ◌, subst, sym, ℕ, zero, suc, List, [], ◌∷◌, Contains, length, ℤ, Ordering, arith}
use Rattle.std.specs.BTreeSet.{insert_key}
use Rattle.std.specs.List.{AllByRecursion, fold}
use Rattle.std.specs.Ordering.{int_cmp, match_ordering}
use Rattle.std.specs.declared.cmp.Ordering.TheVariants.{Less, Equal, Greater}
use Rattle.std_laws.proofs.Every.{every-map}
use Rattle.std_laws.proofs.Members.{filter-from, member-head, member-tail}
use Rattle.geom_core.specs.Extent.{Extent}
use Rattle.region_cut.specs.Blocks.{blocks, is_maximal, maximal_blocks}
use Rattle.region_cut.specs.Covered.{HasArea}
use Rattle.region_cut.specs.Grids.{Grid, ascending, blocks_of, columns, extent_of, line, strips}
use Rattle.region_cut.proofs.BlockLaws.{blocks-are}

-- what holds of numbers holds of their different ones
every-key : (P : ℤ → Type 0) (keys : List ℤ) (z : ℤ) → AllByRecursion P keys → P z → AllByRecursion P (insert_key int_cmp keys z)
every-key P [] z all one = (one, tt)
every-key P (x ∷ xs) z all one = by (int_cmp z x) (every-key P xs z all.1 one)
  where
    by : (o : Ordering) → AllByRecursion P (insert_key int_cmp xs z) → AllByRecursion P (match_ordering o (z ∷ (x ∷ xs)) (x ∷ xs) (x ∷ insert_key int_cmp xs z))
    by Less more = (one, all)
    by Equal more = all
    by Greater more = (all.0, more)

every-keys : (P : ℤ → Type 0) (keys zs : List ℤ) → AllByRecursion P keys → AllByRecursion P zs → AllByRecursion P (fold (insert_key int_cmp) keys zs)
every-keys P keys [] before all = before
every-keys P keys (z ∷ zs) before all = every-keys P (insert_key int_cmp keys z) zs (every-key P keys z before all.0) all.1

pub every-ascending : (P : ℤ → Type 0) (zs : List ℤ) → AllByRecursion P zs → AllByRecursion P (ascending zs)
unfolding ascending
every-ascending P zs all = every-keys P [] zs tt all

every-line : (P : ℤ → Type 0) (lines : List ℤ) (k : ℕ) → AllByRecursion P lines → k < length lines → P (line lines k)
every-line P [] k all within = absurd (omega arith)
every-line P (x ∷ xs) zero all within = all.0
every-line P (x ∷ xs) (suc k) all within = every-line P xs k all.1 (omega arith)

every-member : {X : Type 0} (P : X → Type 0) (xs : List X) → ((x : X) → Contains xs x → P x) → AllByRecursion P xs
every-member P [] each = tt
every-member P (x ∷ xs) each = (each x (member-head x xs), every-member P xs (λ y member. each y (member-tail x xs y member)))

-- something holds of each of the four sides of a rectangle
abbrev pub OfSides : (ℤ → Type 0) → Extent → Type 0
OfSides P r = P r.x0 × P r.x1 × P r.y0 × P r.y1

-- what holds of the lines of a grid holds of the sides of its blocks
pub blocks-all : (P : ℤ → Type 0) (g : Grid) → AllByRecursion P g.across → AllByRecursion P g.up → AllByRecursion (OfSides P) (blocks_of g)
blocks-all P g across up =
    every-map (OfSides P) (extent_of g) (maximal_blocks g.filled (strips g) (columns g))
    (every-member (λ b. OfSides P (extent_of g b)) (maximal_blocks g.filled (strips g) (columns g)) (λ b member.
    let is = blocks-are (strips g) (columns g) b (filter-from (is_maximal g.filled (strips g) (columns g)) (blocks (strips g) (columns g)) b member).0 in (
      every-line P g.across b.left across (omega (arith, is.wide, is.across)),
      every-line P g.across b.right across (omega (arith, is.wide, is.across)),
      every-line P g.up b.low up (omega (arith, is.tall, is.up)),
      every-line P g.up b.high up (omega (arith, is.tall, is.up)),
    )))

-- a rectangle has an area where its sides stand in order
pub area-of : (r : Extent) (a b c d : ℤ) → a <ℤ c → b <ℤ d → ◌≡◌ {A = Extent} (record { x0 = a; y0 = b; x1 = c; y1 = d }) r → HasArea r
area-of r a b c d across up is = subst HasArea is (record { across = across; up = up })

-- the first of rectangles has one, and then the others
pub area-first : (rects rest later : List Extent) (r : Extent) → rest ≡ r ∷ later → HasArea r → AllByRecursion HasArea later → (AllByRecursion HasArea rest → AllByRecursion HasArea rects)
    → AllByRecursion HasArea rects
area-first rects rest later r is one others all = all (subst (AllByRecursion HasArea) (sym is) (one, others))
