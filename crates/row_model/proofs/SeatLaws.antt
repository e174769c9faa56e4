use Rattle.std.proofs.Common.{◌≡◌, ℕ, zero, suc, ◌+◌, List, [], ◌∷◌, ◌++◌, Bool, false, cond, Option, Some, None, refl, ap, ◌∙◌, subst, arith}
use Rattle.std.proofs.lemmas.Option.{none-some, same_Some}
use Rattle.std.specs.List.{AllByRecursion, IsDistinct, slice_get}
use Rattle.std.specs.Prelude.{nat_eq}
use Rattle.row_model.specs.Stand.{Stand}
use Rattle.design_model.specs.Netlist.{Netlist}
use Rattle.row_model.specs.Rows.{all_instances, AreRows, instances_in}
use Rattle.row_model.specs.Stands.{or_else, stand_from, stand_in, stand_of}
use Rattle.row_model.specs.Widths.{columns_of, row_width}
use Rattle.row_model.specs.declared.rows.Seat.{Seat}
use Rattle.row_model.proofs.WidthLaws.{width-cons}
use Rattle.std_laws.proofs.Distinct.{first-distinct, numbers-apart, second-distinct}
use Rattle.std_laws.proofs.Every.{every-at, every-left, every-right, every-weaker}
use Rattle.std_laws.proofs.Tests.{nat_eq-itself}

instances-append : (front back : List Seat) → instances_in (front ++ back) ≡ instances_in front ++ instances_in back
instances-append [] back = refl
instances-append (s ∷ front) back = ap (λ (l : List ℕ). s.instance ∷ l) (instances-append front back)

-- what holds of each instance of rows holds of that of a seat
seat-of-rows : (P : ℕ → Type 0) (rows : List (List Seat)) (row : ℕ) (front back : List Seat) (seat : Seat) → AllByRecursion P (all_instances rows)
    → slice_get rows row ≡ Some (front ++ seat ∷ back) → P seat.instance
seat-of-rows P [] row front back seat all at = absurd (none-some (front ++ seat ∷ back) at)
seat-of-rows P (seats ∷ rows) zero front back seat all at =
    every-at P (instances_in front) (instances_in back) seat.instance
    (subst (λ (l : List ℕ). AllByRecursion P l) (ap instances_in (same_Some seats (front ++ seat ∷ back) at) ∙ instances-append front (seat ∷ back))
    (every-left P (instances_in seats) (all_instances rows) all))
seat-of-rows P (seats ∷ rows) (suc row) front back seat all at = seat-of-rows P rows row front back seat (every-right P (instances_in seats) (all_instances rows) all) at

not-among : (d : Netlist) (row left : ℕ) (seats : List Seat) (instance : ℕ) → AllByRecursion (λ (k : ℕ). nat_eq k instance ≡ false) (instances_in seats) → stand_in d row left seats instance ≡ None
not-among d row left [] instance others = refl
not-among d row left (s ∷ seats) instance others =
    ap (λ (b : Bool). cond b (Some (record { row = row; left = left; mirror = s.mirror })) (stand_in d row (left + columns_of d s.instance) seats instance)) others.0
    ∙ not-among d row (left + columns_of d s.instance) seats instance others.1

seat-among : (d : Netlist) (row left : ℕ) (front back : List Seat) (seat : Seat) → AllByRecursion (λ (k : ℕ). nat_eq k seat.instance ≡ false) (instances_in front)
    → stand_in d row left (front ++ seat ∷ back) seat.instance ≡ Some (record { row = row; left = left + row_width d front; mirror = seat.mirror })
seat-among d row left [] back seat others =
    let begins : left ≡ left + 0 = omega arith in
    ap (λ (b : Bool). cond b (Some (record { row = row; left = left; mirror = seat.mirror })) (stand_in d row (left + columns_of d seat.instance) back seat.instance)) (nat_eq-itself seat.instance)
    ∙ ap (λ (n : ℕ). Some (record { row = row; left = n; mirror = seat.mirror })) begins
seat-among d row left (s ∷ front) back seat others =
    let begins : (left + columns_of d s.instance) + row_width d front ≡ left + row_width d (s ∷ front) = omega (arith, width-cons d s front) in
    ap (λ (b : Bool). cond b (Some (record { row = row; left = left; mirror = s.mirror })) (stand_in d row (left + columns_of d s.instance) (front ++ seat ∷ back) seat.instance)) others.0
    ∙ seat-among d row (left + columns_of d s.instance) front back seat others.1
    ∙ ap (λ (n : ℕ). Some (record { row = row; left = n; mirror = seat.mirror })) begins

seat-from : (d : Netlist) (first : ℕ) (rows : List (List Seat)) → AreRows rows → (row : ℕ) (front back : List Seat) (seat : Seat) → slice_get rows row ≡ Some (front ++ seat ∷ back)
    → stand_from d first rows seat.instance ≡ Some (record { row = first + row; left = row_width d front; mirror = seat.mirror })
seat-from d first [] different row front back seat at = absurd (none-some (front ++ seat ∷ back) at)
seat-from d first (seats ∷ rows) different zero front back seat at =
    let same : seats ≡ front ++ seat ∷ back = same_Some seats (front ++ seat ∷ back) at in
    let here = subst (λ (l : List ℕ). IsDistinct nat_eq l) (ap instances_in same ∙ instances-append front (seat ∷ back)) (first-distinct (instances_in seats) (all_instances rows) different) in
    let others = every-weaker (λ (k : ℕ). AllByRecursion (λ (y : ℕ). nat_eq k y ≡ false) (instances_in (seat ∷ back))) (λ (k : ℕ). nat_eq k seat.instance ≡ false) (λ k h. h.0) (instances_in front)
    (numbers-apart (instances_in front) (instances_in (seat ∷ back)) here) in
    let number : first ≡ first + 0 = omega arith in
    let begins : 0 + row_width d front ≡ row_width d front = omega arith in
    ap (λ (l : List Seat). or_else (stand_in d first 0 l seat.instance) (stand_from d (first + 1) rows seat.instance)) same
    ∙ ap (λ (a : Option Stand). or_else a (stand_from d (first + 1) rows seat.instance)) (seat-among d first 0 front back seat others)
    ∙ ap (λ (n : ℕ). Some (record { row = first; left = n; mirror = seat.mirror })) begins
    ∙ ap (λ (n : ℕ). Some (record { row = n; left = row_width d front; mirror = seat.mirror })) number
seat-from d first (seats ∷ rows) different (suc row) front back seat at =
    let others = every-weaker (λ (k : ℕ). AllByRecursion (λ (y : ℕ). nat_eq k y ≡ false) (all_instances rows)) (λ (k : ℕ). nat_eq k seat.instance ≡ false)
    (λ k h. seat-of-rows (λ (y : ℕ). nat_eq k y ≡ false) rows row front back seat h at) (instances_in seats) (numbers-apart (instances_in seats) (all_instances rows) different) in
    let number : (first + 1) + row ≡ first + suc row = omega arith in
    ap (λ (a : Option Stand). or_else a (stand_from d (first + 1) rows seat.instance)) (not-among d first 0 seats seat.instance others)
    ∙ seat-from d (first + 1) rows (second-distinct (instances_in seats) (all_instances rows) different) row front back seat at
    ∙ ap (λ (n : ℕ). Some (record { row = n; left = row_width d front; mirror = seat.mirror })) number

-- each seat of rows that hold no instance twice is where its instance stands
pub seat-stands : (d : Netlist) (rows : List (List Seat)) → AreRows rows → (row : ℕ) (front back : List Seat) (seat : Seat) → slice_get rows row ≡ Some (front ++ seat ∷ back)
    → stand_of d rows seat.instance ≡ Some (record { row = row; left = row_width d front; mirror = seat.mirror })
seat-stands d rows different row front back seat at =
    let number : 0 + row ≡ row = omega arith in
    seat-from d 0 rows different row front back seat at ∙ ap (λ (n : ℕ). Some (record { row = n; left = row_width d front; mirror = seat.mirror })) number
