use Rattle.std.proofs.Common.{◌≡◌, ◌≢◌, ◌<◌, ◌≤◌, ℕ, zero, suc, ◌*◌, List, [], ◌∷◌, ◌++◌, length, take, drop, get_or, Bool, true, false, Option, None, Some, refl, ap, sym, ◌∙◌, subst, arith}
use Rattle.std.proofs.lemmas.Bool.Decides.{nat_tests}
use Rattle.std.proofs.lemmas.List.{length-map}
use Rattle.std.proofs.lemmas.Option.{get_or_from_slice_get, none-some, same_Some, slice_get-map, slice_get_within}
use Rattle.std.specs.List.{IsDistinct, slice_get}
use Rattle.std.specs.Option.{option_map}
use Rattle.std.specs.Prelude.{nat_eq}
use Rattle.design_model.specs.Netlist.{IsNetlist, Netlist}
use Rattle.row_board.specs.Moving.{row_there}
use Rattle.row_model.specs.Rows.{all_instances, ArePlaced, AreRows, instances_in}
use Rattle.row_board.specs.Standings.{AreApart, AreEntered, standing_at}
use Rattle.row_model.specs.Stands.{stand_of}
use Rattle.row_model.specs.Widths.{row_width}
use Rattle.row_model.specs.declared.rows.Seat.{Seat}
use Rattle.row_board.specs.Spot.{Spot}
use Rattle.row_model.specs.Stand.{Stand}
use Rattle.row_model.proofs.PlacedLaws.{placed-distinct, rows-within}
use Rattle.row_model.proofs.SeatLaws.{seat-stands}
use Rattle.row_model.proofs.StandLaws.{stand-is, stand-there}
use Rattle.row_model.proofs.WidthLaws.{columns-few, width-cons}
use Rattle.std_laws.proofs.Distinct.{first-distinct, second-distinct, apart-places}
use Rattle.std_laws.proofs.Every.{every-get}
use Rattle.std_laws.proofs.Places.{at-place, get-front}
use Rattle.std_laws.proofs.Slices.{split-here}

-- a seat is where its instance stands
pub seat-stand : (d : Netlist) (rows : List (List Seat)) → AreRows rows → (row place : ℕ) (seats : List Seat) (s : Seat) → slice_get rows row ≡ Some seats → slice_get seats place ≡ Some s
    → stand_of d rows s.instance ≡ Some (record { row = row; left = row_width d (take place seats); mirror = s.mirror })
seat-stand d rows different row place seats s in_row at =
    seat-stands d rows different row (take place seats) (drop (suc place) seats) s (in_row ∙ ap (λ (l : List Seat). Some l) (split-here seats place s at))

-- the instances of a row are all different
row-distinct : (rows : List (List Seat)) → AreRows rows → (row : ℕ) (seats : List Seat) → slice_get rows row ≡ Some seats → IsDistinct nat_eq (instances_in seats)
row-distinct [] different row seats at = absurd (none-some seats at)
row-distinct (x ∷ xs) different zero seats at =
    subst (λ (l : List Seat). IsDistinct nat_eq (instances_in l)) (same_Some x seats at) (first-distinct (instances_in x) (all_instances xs) different)
row-distinct (x ∷ xs) different (suc row) seats at = row-distinct xs (second-distinct (instances_in x) (all_instances xs) different) row seats at

number-at : (seats : List Seat) (k : ℕ) (s : Seat) → slice_get seats k ≡ Some s → get_or (instances_in seats) k 0 ≡ s.instance
number-at seats k s at =
    get_or_from_slice_get (instances_in seats) k s.instance 0 (slice_get-map (λ (s : Seat). s.instance) seats k ∙ ap (option_map (λ (s : Seat). s.instance)) at)

-- in a row no instance stands at two places
row-places : (seats : List Seat) → IsDistinct nat_eq (instances_in seats) → (j k : ℕ) (s t : Seat) → slice_get seats j ≡ Some s → slice_get seats k ≡ Some t → s.instance ≡ t.instance → j ≡ k
row-places seats different j k s t at_j at_k same = by (nat_eq j k) refl
  where
    by : (b : Bool) → nat_eq j k ≡ b → j ≡ k
    by true test = grind (arith, nat_tests)
    by false test =
        let other : j ≢ k = grind (arith, nat_tests) in
        absurd (apart-places (instances_in seats) j k 0 different
        (omega (arith, length-map seats (λ (s : Seat). s.instance), slice_get_within seats j s at_j))
        (omega (arith, length-map seats (λ (s : Seat). s.instance), slice_get_within seats k t at_k))
        other (number-at seats j s at_j ∙ same ∙ sym (number-at seats k t at_k)))

-- where no instance stands twice, it has one row and one place
pub one-place : (d : Netlist) (rows : List (List Seat)) → AreRows rows → (row row' place place' : ℕ) (seats seats' : List Seat) (s t : Seat)
    → slice_get rows row ≡ Some seats → slice_get seats place ≡ Some s → slice_get rows row' ≡ Some seats' → slice_get seats' place' ≡ Some t → s.instance ≡ t.instance
    → (row ≡ row') × (place ≡ place')
one-place d rows different row row' place place' seats seats' s t in_row at in_row' at' same =
    let one = seat-stand d rows different row place seats s in_row at in
    let two = seat-stand d rows different row' place' seats' t in_row' at' in
    let both = same_Some _ _ (sym one ∙ ap (stand_of d rows) same ∙ two) in
    let rows_same : row ≡ row' = ap (λ (a : Stand). a.row) both in
    let seats_same : seats ≡ seats' = same_Some seats seats' (sym in_row ∙ ap (slice_get rows) rows_same ∙ in_row') in (
      rows_same,
      row-places seats (row-distinct rows different row seats in_row) place place' s t at (ap (λ (l : List Seat). slice_get l place') seats_same ∙ at') same,
    )

-- the seats of a row of placed rows are of different instances of the design
pub row-apart : (d : Netlist) (rows : List (List Seat)) → IsNetlist d → ArePlaced d rows → (row : ℕ) (seats : List Seat) → slice_get rows row ≡ Some seats → AreApart (length d.instances) seats
row-apart d rows good placed row seats at = record {
  within = λ k s here. every-get (λ (s : Seat). s.instance < length d.instances) seats k s (every-get _ rows row seats (rows-within d rows good placed) at).0 here;
  apart = λ j k s t at_j at_k same. row-places seats (row-distinct rows (placed-distinct d rows placed) row seats at) j k s t at_j at_k same;
}

-- and they are at most 20,000
pub row-short : (d : Netlist) (rows : List (List Seat)) → IsNetlist d → ArePlaced d rows → (row : ℕ) (seats : List Seat) → slice_get rows row ≡ Some seats → length seats ≤ 20000
row-short d rows good placed row seats at = (every-get _ rows row seats (rows-within d rows good placed) at).1

-- what a right table says of an instance
pub record IsTold (d : Netlist) (rows : List (List Seat)) (standings : List Spot) (instance : ℕ) : Type 0 where
  pub standing : Spot
  pub told : slice_get standings instance ≡ Some standing
  pub stand : stand_of d rows instance ≡ Some (record { row = standing.row; left = standing.left; mirror = standing.mirror })
  pub seats : List Seat
  pub in_row : slice_get rows standing.row ≡ Some seats
  pub at : slice_get seats standing.place ≡ Some (record { instance = instance; mirror = standing.mirror })
  pub left : standing.left ≡ row_width d (take standing.place seats)

pub told : (d : Netlist) (rows : List (List Seat)) (standings : List Spot) (instance : ℕ) → ArePlaced d rows → AreEntered d rows standings → instance < length d.instances
    → IsTold d rows standings instance
told d rows standings instance placed entered within =
    let there = stand-there d rows instance placed within in
    let is = stand-is d rows instance there.0 there.1 in
    let at : slice_get (is.front ++ is.seat ∷ is.back) (length is.front) ≡ Some is.seat = get-front is.front is.seat is.back in
    record {
      standing = standing_at d there.0.row (length is.front) (is.front ++ is.seat ∷ is.back) is.seat;
      told = ap (slice_get standings) (sym is.own) ∙ entered.each there.0.row (length is.front) (is.front ++ is.seat ∷ is.back) is.seat is.at at;
      stand = ap (stand_of d rows) (sym is.own)
          ∙ seat-stand d rows (placed-distinct d rows placed) there.0.row (length is.front) (is.front ++ is.seat ∷ is.back) is.seat is.at at;
      seats = is.front ++ is.seat ∷ is.back;
      in_row = is.at;
      at = at ∙ ap (λ (i : ℕ). Some (record { instance = i; mirror = is.seat.mirror })) is.own;
      left = refl;
    }

pub width-few : (d : Netlist) → IsNetlist d → (seats : List Seat) → row_width d seats ≤ 100000000 * length seats
width-few d good [] = omega arith
width-few d good (s ∷ seats) = let rest = width-few d good seats in omega (arith, rest, columns-few d good s.instance, width-cons d s seats)

-- so it is of a row that may not be there
pub there-apart : (d : Netlist) (rows : List (List Seat)) → IsNetlist d → ArePlaced d rows → (row : ℕ) → AreApart (length d.instances) (row_there (slice_get rows row))
there-apart d rows good placed row = by (slice_get rows row) refl
  where
    by : (o : Option (List Seat)) → slice_get rows row ≡ o → AreApart (length d.instances) (row_there o)
    by None at = record { within = λ k s none. absurd (none-some s none); apart = λ j k s t none. absurd (none-some s none) }
    by (Some seats) at = row-apart d rows good placed row seats at

pub there-short : (d : Netlist) (rows : List (List Seat)) → IsNetlist d → ArePlaced d rows → (row : ℕ) → length (row_there (slice_get rows row)) ≤ 20000
there-short d rows good placed row = by (slice_get rows row) refl
  where
    by : (o : Option (List Seat)) → slice_get rows row ≡ o → length (row_there o) ≤ 20000
    by None at = omega arith
    by (Some seats) at = row-short d rows good placed row seats at

pub row-here : (rows : List (List Seat)) (row : ℕ) → row < length rows → slice_get rows row ≡ Some (row_there (slice_get rows row))
row-here rows row within = let here = at-place rows row within in here.1 ∙ ap (λ (o : Option (List Seat)). Some (row_there o)) (sym here.1)
