use Rattle.std.proofs.Common.{◌≡◌, refl, sym, ap, ◌∙◌, subst, ℕ, zero, suc, List, [], ◌∷◌, ◌++◌, false, Some}
use Rattle.std.proofs.lemmas.List.Elements.{filter_map-append}
use Rattle.std.proofs.lemmas.Option.{none-some, same_Some}
use Rattle.std.specs.List.{AllByRecursion, IsDistinct}
use Rattle.std.specs.Prelude.{nat_eq, slice_get}
use Rattle.design_model.specs.Netlist.{Netlist}
use Rattle.row_model.specs.Rows.{all_instances, instances_in, ArePlaced}
use Rattle.row_model.specs.Stands.{row_in, row_of}
use Rattle.row_model.specs.declared.rows.Seat.{Seat}
use Rattle.row_model.proofs.PlacedLaws.{placed-distinct}
use Rattle.row_model.proofs.SeatLaws.{seat-stands}
use Rattle.feed_cells.specs.Fed.{fed_rows, seat_in, seats_in}
use Rattle.feed_cells.specs.declared.fed.Item.{Item}
use Rattle.feed_cells.specs.declared.fed.Item.TheVariants.{Cell, Feed}
use Rattle.feed_cells.proofs.FedLaws.{cells-fed}
use Rattle.pin_assign.proofs.BesideLaws.{row-cells}
use Rattle.std_laws.proofs.Distinct.{first-distinct, second-distinct}
use Rattle.std_laws.proofs.Tests.{nat_eq-differ}

-- the seats of a row with feeds, of which one is this
pub seats-split : (front back : List Item) (s : Seat) → seats_in (front ++ Cell s ∷ back) ≡ seats_in front ++ s ∷ seats_in back
seats-split front back s = filter_map-append seat_in front (Cell s ∷ back)

-- the instances of one row differ
row-distinct : (rows : List (List Seat)) (k : ℕ) (row : List Seat) → IsDistinct nat_eq (all_instances rows) → slice_get rows k ≡ Some row → IsDistinct nat_eq (instances_in row)
row-distinct [] k row different at = absurd (none-some row at)
row-distinct (first ∷ rows) zero row different at =
    subst (λ (seats : List Seat). IsDistinct nat_eq (instances_in seats)) (same_Some first row at) (first-distinct (instances_in first) (all_instances rows) different)
row-distinct (first ∷ rows) (suc k) row different at = row-distinct rows k row (second-distinct (instances_in first) (all_instances rows) different) at

-- what holds of all instances of a row holds of that of a seat
at-seat : (P : ℕ → Type 0) (front : List Item) (s : Seat) (back : List Item) → AllByRecursion P (instances_in (seats_in (front ++ Cell s ∷ back))) → P s.instance
at-seat P [] s back all = all.0
at-seat P (Cell t ∷ front) s back all = at-seat P front s back all.1
at-seat P (Feed net ∷ front) s back all = at-seat P front s back all

-- two places of a row with seats of one instance are one
pub record IsSame (f g : List Item) (s t : Seat) : Type 0 where
  pub fronts : f ≡ g
  pub seats : s ≡ t

more-same : (x y : Item) (f g : List Item) (s t : Seat) → x ≡ y → IsSame f g s t → IsSame (x ∷ f) (y ∷ g) s t
more-same x y f g s t first rest = record { fronts = ap (λ (z : Item). z ∷ f) first ∙ ap (λ (zs : List Item). y ∷ zs) rest.fronts; seats = rest.seats }

head-is : (x y : Item) (f g : List Item) → x ∷ f ≡ y ∷ g → x ≡ y
head-is x y f g e = cc

tail-is : (x y : Item) (f g : List Item) → x ∷ f ≡ y ∷ g → f ≡ g
tail-is x y f g e = cc

cell-is : (s t : Seat) → Cell s ≡ Cell t → s ≡ t
cell-is s t e = cc

no-feed : (net : ℕ) (t : Seat) → Feed net ≡ Cell t → ⊥
no-feed net t e = cc

seat-once : (f g : List Item) (s t : Seat) (a b : List Item) → IsDistinct nat_eq (instances_in (seats_in (f ++ Cell s ∷ a))) → f ++ Cell s ∷ a ≡ g ++ Cell t ∷ b
    → s.instance ≡ t.instance → IsSame f g s t
unfolding IsDistinct
seat-once [] [] s t a b different same instance = record { fronts = refl; seats = cell-is s t (head-is (Cell s) (Cell t) a b same) }
seat-once [] (y ∷ g) s t a b different same instance =
    let rest : a ≡ g ++ Cell t ∷ b = tail-is (Cell s) y a (g ++ Cell t ∷ b) same in
    absurd (nat_eq-differ s.instance t.instance
    (at-seat (λ (n : ℕ). nat_eq s.instance n ≡ false) g t b
    (subst (λ (xs : List Item). AllByRecursion (λ (n : ℕ). nat_eq s.instance n ≡ false) (instances_in (seats_in xs))) rest different.0)) instance)
seat-once (Cell u ∷ f) [] s t a b different same instance =
    let first : u ≡ t = cell-is u t (head-is (Cell u) (Cell t) (f ++ Cell s ∷ a) b same) in
    absurd (nat_eq-differ u.instance s.instance (at-seat (λ (n : ℕ). nat_eq u.instance n ≡ false) f s a different.0)
    (ap (λ (x : Seat). x.instance) first ∙ sym instance))
seat-once (Feed net ∷ f) [] s t a b different same instance = absurd (no-feed net t (head-is (Feed net) (Cell t) (f ++ Cell s ∷ a) b same))
seat-once (Cell u ∷ f) (y ∷ g) s t a b different same instance =
    more-same (Cell u) y f g s t (head-is (Cell u) y (f ++ Cell s ∷ a) (g ++ Cell t ∷ b) same)
    (seat-once f g s t a b different.1 (tail-is (Cell u) y (f ++ Cell s ∷ a) (g ++ Cell t ∷ b) same) instance)
seat-once (Feed net ∷ f) (y ∷ g) s t a b different same instance =
    more-same (Feed net) y f g s t (head-is (Feed net) y (f ++ Cell s ∷ a) (g ++ Cell t ∷ b) same)
    (seat-once f g s t a b different (tail-is (Feed net) y (f ++ Cell s ∷ a) (g ++ Cell t ∷ b) same) instance)

module _ (d : Netlist) (rows : List (List Seat)) (placed : ArePlaced d rows) where
  -- the cells of a row with feeds
  pub cells-at : (k : ℕ) (front back : List Item) (s : Seat) → slice_get (fed_rows d rows).rows k ≡ Some (front ++ Cell s ∷ back)
      → slice_get rows k ≡ Some (seats_in (front ++ Cell s ∷ back))
  cells-at k front back s at =
      subst (λ (cells : List (List Seat)). slice_get cells k ≡ Some (seats_in (front ++ Cell s ∷ back))) (cells-fed d rows)
      (row-cells (fed_rows d rows).rows k (front ++ Cell s ∷ back) at)

  -- a seat's instance is of the seat's row
  pub seat-row : (k : ℕ) (front back : List Item) (s : Seat) → slice_get (fed_rows d rows).rows k ≡ Some (front ++ Cell s ∷ back) → row_of d rows s.instance ≡ k
  seat-row k front back s at =
      ap row_in (seat-stands d rows (placed-distinct d rows placed) k (seats_in front) (seats_in back) s
      (cells-at k front back s at ∙ ap (λ (xs : List Seat). Some xs) (seats-split front back s)))

  -- and it has no other seat
  pub seat-same : (k : ℕ) (f g : List Item) (s t : Seat) (a b : List Item) → slice_get (fed_rows d rows).rows k ≡ Some (f ++ Cell s ∷ a)
      → slice_get (fed_rows d rows).rows k ≡ Some (g ++ Cell t ∷ b) → s.instance ≡ t.instance → IsSame f g s t
  seat-same k f g s t a b first second instance =
      seat-once f g s t a b (row-distinct rows k (seats_in (f ++ Cell s ∷ a)) (placed-distinct d rows placed) (cells-at k f a s first))
      (same_Some (f ++ Cell s ∷ a) (g ++ Cell t ∷ b) (sym first ∙ second)) instance
