use Rattle.std.proofs.Common.{◌≡◌, ◌≢◌, inl, inr, ◌<◌, ◌≤◌, ℕ, ◌+◌, ◌-◌, ◌*◌, List, length, map, set, sum, Bool, true, false, Option, None, Some, refl, ap, ap₂, sym, ◌∙◌, subst, arith}
use Rattle.std.proofs.Math.Nat.{mul-le-mul_left}
use Rattle.std.proofs.lemmas.List.{length-set}
use Rattle.std.proofs.lemmas.Option.{slice_get-map, slice_get_within}
use Rattle.std.specs.List.{slice_get}
use Rattle.std.specs.Option.{option_map}
use Rattle.std.specs.Prelude.{nat_eq}
use Rattle.design_model.specs.Netlist.{IsNetlist, Netlist}
use Rattle.row_board.specs.Board.{IsBoard}
use Rattle.row_board.specs.Cost.{cost_of, difference, target_of}
use Rattle.row_board.specs.NetCosts.{table_costs, Tabled}
use Rattle.row_board.specs.RowLengths.{Lengths, width_in}
use Rattle.row_board.specs.RowLengthsView.{misses_of}
use Rattle.row_board.specs.Spot.{Spot}
use Rattle.row_board.specs.Standings.{in_place_of, standing_in, standing_of, traded}
use Rattle.row_board.specs.Trial.{least_cost}
use Rattle.row_board.specs.Weights.{Weighing}
use Rattle.row_model.specs.Changes.{swapped}
use Rattle.row_model.specs.Widths.{columns_of, row_width}
use Rattle.row_model.specs.declared.rows.Seat.{Seat}
use Rattle.row_board.proofs.MoveLaws.{cell-told}
use Rattle.row_model.proofs.PlacedLaws.{placed-distinct}
use Rattle.row_board.proofs.PutLaws.{swap-puts}
use Rattle.row_model.proofs.SwapLaws.{swapped-length}
use Rattle.row_board.proofs.TotalLaws.{nets-sum}
use Rattle.row_board.proofs.TrialLaws.{trial-costs}
use Rattle.row_board.proofs.UnevenLaws.{uneven-apart, uneven-near}
use Rattle.std_laws.proofs.Images.{map-map}
use Rattle.std_laws.proofs.Places.{list-same, get-none, get-set-other, get-set-same}
use Rattle.std_laws.proofs.Tests.{equal_or_not, nat_eq-equal, nat_eq-differ}

-- what a table has after two instances trade their places
pub traded-other : (a b : ℕ) (s : List Spot) (i : ℕ) → i ≢ a → i ≢ b → slice_get (traded a b s) i ≡ slice_get s i
traded-other a b s i not_a not_b =
    get-set-other (set s a (in_place_of (standing_of s b) (standing_of s a))) b i (in_place_of (standing_of s a) (standing_of s b)) not_b
    ∙ get-set-other s a i (in_place_of (standing_of s b) (standing_of s a)) not_a

pub traded-length : (a b : ℕ) (s : List Spot) → length (traded a b s) ≡ length s
traded-length a b s =
    length-set (set s a (in_place_of (standing_of s b) (standing_of s a))) b (in_place_of (standing_of s a) (standing_of s b))
    ∙ length-set s a (in_place_of (standing_of s b) (standing_of s a))

there : (s : List Spot) (i : ℕ) → i < length s → slice_get s i ≡ Some (standing_of s i)
there s i within = by (slice_get s i) refl
  where
    by : (o : Option Spot) → slice_get s i ≡ o → o ≡ Some (standing_in o)
    by None none = let past = get-none s i none in absurd (omega (arith, past, within))
    by (Some x) at = refl

-- a table has where it tells that an instance stands once that is put there again
set-there : (s x : List Spot) (i : ℕ) → length x ≡ length s → slice_get (set x i (standing_of s i)) i ≡ slice_get s i
set-there s x i long = by (slice_get s i) refl (slice_get (set x i (standing_of s i)) i) refl
  where
    by : (o : Option Spot) → slice_get s i ≡ o → (p : Option Spot) → slice_get (set x i (standing_of s i)) i ≡ p → slice_get (set x i (standing_of s i)) i ≡ slice_get s i
    by None none None at = at ∙ sym none
    by None none (Some y) at =
        let past = get-none s i none in
        let within = slice_get_within (set x i (standing_of s i)) i y at in
        absurd (omega (arith, past, within, long, length-set x i (standing_of s i)))
    by (Some y) some p at =
        let within = slice_get_within s i y some in
        get-set-same x i (standing_of s i) (omega (arith, within, long)) ∙ sym (there s i within)

-- two instances are put back where they stood
traded-back : (a b : ℕ) (s : List Spot) → set (set (traded a b s) a (standing_of s a)) b (standing_of s b) ≡ s
traded-back a b s = list-same (set (set (traded a b s) a (standing_of s a)) b (standing_of s b)) s (λ i. by i (nat_eq i b) refl (nat_eq i a) refl)
  where
    by : (i : ℕ) (x : Bool) → nat_eq i b ≡ x → (y : Bool) → nat_eq i a ≡ y → slice_get (set (set (traded a b s) a (standing_of s a)) b (standing_of s b)) i ≡ slice_get s i
    by i true last y is =
        subst (λ n. slice_get (set (set (traded a b s) a (standing_of s a)) b (standing_of s b)) n ≡ slice_get s n) (sym (nat_eq-equal i b last))
        (set-there s (set (traded a b s) a (standing_of s a)) b (length-set (traded a b s) a (standing_of s a) ∙ traded-length a b s))
    by i false last true is =
        get-set-other (set (traded a b s) a (standing_of s a)) b i (standing_of s b) (nat_eq-differ i b last)
        ∙ subst (λ n. slice_get (set (traded a b s) a (standing_of s a)) n ≡ slice_get s n) (sym (nat_eq-equal i a is)) (set-there s (traded a b s) a (traded-length a b s))
    by i false last false is =
        get-set-other (set (traded a b s) a (standing_of s a)) b i (standing_of s b) (nat_eq-differ i b last)
        ∙ get-set-other (traded a b s) a i (standing_of s a) (nat_eq-differ i a is) ∙ traded-other a b s i (nat_eq-differ i a is) (nat_eq-differ i b last)

pub put-back : (t once twice back : Tabled) (a b : ℕ) (one other : Spot) → one ≡ standing_of t.standings a → other ≡ standing_of t.standings b
    → once ≡ record t { standings = traded a b t.standings } → twice ≡ record once { standings = set once.standings a one } → back ≡ record twice { standings = set twice.standings b other } → back ≡ t
put-back t once twice back a b one other is_one is_other first second third =
    third ∙ ap (λ (t : Tabled). record t { standings = set t.standings b other }) second ∙ ap (λ (t : Tabled). record t { standings = set (set t.standings a one) b other }) first
    ∙ ap₂ (λ (one other : Spot). record t { standings = set (set (traded a b t.standings) a one) b other }) is_one is_other
    ∙ ap (λ (l : List Spot). record t { standings = l }) (traded-back a b t.standings)

-- by how many columns rows miss their target after a swap is told by the widths of the two rows
uneven-told : (d : Netlist) (rows : List (List Seat)) (standings : List Spot) (lengths : Lengths) (a b uneven : ℕ) → IsNetlist d → IsBoard d rows standings lengths → a ≢ b
    → a < length d.instances → b < length d.instances
    → ((standing_of standings a).row ≡ (standing_of standings b).row → uneven ≡ sum (misses_of lengths) - 2 * difference (columns_of d b) (columns_of d a))
    → ((standing_of standings a).row ≢ (standing_of standings b).row
    → uneven
    ≡ (sum (misses_of lengths)
    + (difference (width_in (slice_get lengths.widths (standing_of standings a).row) + columns_of d b - columns_of d a) lengths.target
    + difference (width_in (slice_get lengths.widths (standing_of standings b).row) + columns_of d a - columns_of d b) lengths.target))
    - (difference (width_in (slice_get lengths.widths (standing_of standings a).row)) lengths.target
    + difference (width_in (slice_get lengths.widths (standing_of standings b).row)) lengths.target))
    → uneven ≤ sum (map (λ (seats : List Seat). difference (row_width d seats) (target_of d (length rows))) (swapped a b rows))
uneven-told d rows standings lengths a b uneven good board apart in_a in_b same differ =
    let one = standing_of standings a in
    let other = standing_of standings b in
    let t = target_of d (length rows) in
    let cell_a = cell-told d rows standings a one good board.seated.placed board.seated.entered in_a refl in
    let cell_b = cell-told d rows standings b other good board.seated.placed board.seated.entered in_b refl in
    let puts = swap-puts rows one.row one.place other.row other.place (record { instance = a; mirror = one.mirror }) (record { instance = b; mirror = other.mirror }) (placed-distinct d rows board.seated.placed) cell_a.at cell_b.at in
    let known : sum (misses_of lengths) ≡ sum (map (λ (seats : List Seat). difference (row_width d seats) t) rows) =
    ap (λ (l : Lengths). sum (misses_of l)) board.are_lengths ∙ ap sum (map-map (row_width d) (λ (width : ℕ). difference width t) rows) in
    elim (equal_or_not one.row other.row) [
      | inl is ↦
          omega (
            arith,
            same is,
            known,
            uneven-near d rows (swapped a b rows) one.row one.place other.row other.place t (record { instance = a; mirror = one.mirror }) (record { instance = b; mirror = other.mirror }) cell_a.at cell_b.at apart puts,
          )
      | inr is ↦
          let target = ap (λ (l : Lengths). l.target) board.are_lengths in
          let wide = width one.row cell_a.at.seats cell_a.at.in_row in
          let wide' = width other.row cell_b.at.seats cell_b.at.in_row in
          all _ _ _ _ _ _ _ (differ is) known
          (ap₂ (λ (w t : ℕ). difference (w + columns_of d b - columns_of d a) t) wide target) (ap₂ (λ (w t : ℕ). difference (w + columns_of d a - columns_of d b) t) wide' target)
          (ap₂ (λ (w t : ℕ). difference w t) wide target) (ap₂ (λ (w t : ℕ). difference w t) wide' target)
          (uneven-apart d rows (swapped a b rows) one.row one.place other.row other.place t (record { instance = a; mirror = one.mirror }) (record { instance = b; mirror = other.mirror }) cell_a.at cell_b.at apart is puts)
    ]
  where
    width : (r : ℕ) (seats : List Seat) → slice_get rows r ≡ Some seats → width_in (slice_get lengths.widths r) ≡ row_width d seats
    width r seats at =
        ap (λ (l : Lengths). width_in (slice_get l.widths r)) board.are_lengths ∙ ap width_in (slice_get-map (row_width d) rows r ∙ ap (option_map (row_width d)) at)

    all : {n1 n2 o1 o2 : ℕ} (u s m m1 m2 p1 p2 : ℕ) {x : ℕ} → u ≡ (s + (n1 + n2)) - (o1 + o2) → s ≡ m → n1 ≡ m1 → n2 ≡ m2 → o1 ≡ p1 → o2 ≡ p2 → m + (m1 + m2) ≤ x + (p1 + p2) → u ≤ x
    all u s m m1 m2 p1 p2 e f g h i j k = omega (arith, e, f, g, h, i, j, k)

-- the same, where the rows and the widths of the two are known
pub uneven-known : (d : Netlist) (rows : List (List Seat)) (standings : List Spot) (lengths : Lengths) (a b uneven ra rb more fewer : ℕ) → IsNetlist d → IsBoard d rows standings lengths → a ≢ b
    → a < length d.instances → b < length d.instances → ra ≡ (standing_of standings a).row → rb ≡ (standing_of standings b).row → more ≡ columns_of d b → fewer ≡ columns_of d a
    → (ra ≡ rb → uneven ≡ sum (misses_of lengths) - 2 * difference more fewer)
    → (ra ≢ rb
    → uneven
    ≡ (sum (misses_of lengths)
    + (difference (width_in (slice_get lengths.widths ra) + more - fewer) lengths.target + difference (width_in (slice_get lengths.widths rb) + fewer - more) lengths.target))
    - (difference (width_in (slice_get lengths.widths ra)) lengths.target + difference (width_in (slice_get lengths.widths rb)) lengths.target))
    → uneven ≤ sum (map (λ (seats : List Seat). difference (row_width d seats) (target_of d (length rows))) (swapped a b rows))
uneven-known d rows standings lengths a b uneven ra rb more fewer good board apart in_a in_b is_ra is_rb is_more is_fewer same differ =
    let after = λ (r q m f : ℕ).
    (sum (misses_of lengths) + (difference (width_in (slice_get lengths.widths r) + m - f) lengths.target + difference (width_in (slice_get lengths.widths q) + f - m) lengths.target))
    - (difference (width_in (slice_get lengths.widths r)) lengths.target + difference (width_in (slice_get lengths.widths q)) lengths.target) in
    uneven-told d rows standings lengths a b uneven good board apart in_a in_b
    (λ is. same (is_ra ∙ is ∙ sym is_rb) ∙ ap₂ (λ (m f : ℕ). sum (misses_of lengths) - 2 * difference m f) is_more is_fewer)
    (λ other. differ (λ is. other (sym is_ra ∙ is ∙ is_rb)) ∙ ap₂ (λ (r q : ℕ). after r q more fewer) is_ra is_rb
    ∙ ap₂ (λ (m f : ℕ). after (standing_of standings a).row (standing_of standings b).row m f) is_more is_fewer)

-- rows cost after a swap at least what they do by the traded table, but for what the shifts may save and with what they surely cost
trial-total : (d : Netlist) (rows : List (List Seat)) (w : Weighing) (standings : List Spot) (lengths : Lengths) (a b uneven : ℕ) → IsNetlist d → IsBoard d rows standings lengths → a ≢ b
    → a < length d.instances → b < length d.instances
    → uneven ≤ sum (map (λ (seats : List Seat). difference (row_width d seats) (target_of d (length rows))) (swapped a b rows))
    → least_cost d rows (traded a b standings) a b (standing_of standings a) (standing_of standings b) (sum (table_costs d w (traded a b standings)) + w.length_cost * uneven)
    ≤ cost_of d (swapped a b rows) w
unfolding cost_of
trial-total d rows w standings lengths a b uneven good board apart in_a in_b few =
    let nets = trial-costs d rows w standings a b
    (record { good = good; placed = board.seated.placed; entered = board.seated.entered; count = board.seated.count; in_a = in_a; in_b = in_b; apart = apart }) in
    let target = ap (λ (n : ℕ). sum (map (λ (seats : List Seat). difference (row_width d seats) (target_of d n)) (swapped a b rows))) (sym (swapped-length rows a b)) in
    let weighed = mul-le-mul_left w.length_cost few in
    omega (arith, nets, weighed, ap (λ (n : ℕ). w.length_cost * n) target, nets-sum d (swapped a b rows) w good)

-- so the rows surely cost more than a limit where they do so by that
pub dear-told : (d : Netlist) (rows : List (List Seat)) (w : Weighing) (standings : List Spot) (lengths : Lengths) (a b uneven : ℕ) → IsNetlist d → IsBoard d rows standings lengths → a ≢ b
    → a < length d.instances → b < length d.instances
    → uneven ≤ sum (map (λ (seats : List Seat). difference (row_width d seats) (target_of d (length rows))) (swapped a b rows))
    → (cost least limit : ℕ) → cost ≡ sum (table_costs d w (traded a b standings)) + w.length_cost * uneven
    → least ≡ least_cost d rows (traded a b standings) a b (standing_of standings a) (standing_of standings b) cost → limit < least → limit < cost_of d (swapped a b rows) w
dear-told d rows w standings lengths a b uneven good board apart in_a in_b few cost least limit is_cost is_least dear =
    omega (
      arith,
      dear,
      is_least ∙ ap (least_cost d rows (traded a b standings) a b (standing_of standings a) (standing_of standings b)) is_cost,
      trial-total d rows w standings lengths a b uneven good board apart in_a in_b few,
    )
