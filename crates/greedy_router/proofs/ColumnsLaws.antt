use Rattle.std.proofs.Common.{◌≡◌, ◌++◌, ℕ, List, [], ◌∷◌, Some, ap, append_assoc, arith, length, map, ◌∙◌}
use Rattle.std.specs.Option.{option_map}
use Rattle.std.specs.Prelude.{slice_get}
use Rattle.std.specs.List.{zip}
use Rattle.std.proofs.lemmas.List.{length-append, length-map, map-append}
use Rattle.std.proofs.lemmas.Option.{slice_get-map}
use Rattle.greedy_column.specs.declared.column.Column.{Column}
use Rattle.greedy_column.specs.declared.column.Made.{Made}
use Rattle.greedy_router.specs.Columns.{AreAlike, column_of, columns_in, entered_of}
use Rattle.greedy_router.specs.declared.columns.Entered.{Entered}
use Rattle.greedy_router.specs.declared.columns.Parts.{Parts}
use Rattle.std_laws.proofs.Zips.{zip-at, zip-length, zip-push}

-- one column more
pub alike-push : (parts new : Parts) (done : Column) → AreAlike parts
    → new.entered.items ≡ parts.entered.items ++ entered_of done ∷ [] → new.made ≡ parts.made ++ done.made ∷ []
    → new.joins ≡ parts.joins ++ done.joins ∷ [] → new.ended ≡ parts.ended ++ done.ended ∷ [] → new.moves ≡ parts.moves ++ done.moves ∷ []
    → AreAlike new
alike-push parts new done alike is_entered is_made is_joins is_ended is_moves =
    let long = ap (λ (l : List Entered). length l) is_entered ∙ length-append parts.entered.items (entered_of done ∷ []) in
    record {
      made =
          let one = ap (λ (l : List (List Made)). length l) is_made ∙ length-append parts.made (done.made ∷ []) in
          let same = alike.made in
          omega (arith, long, one, same);
      joins =
          let one = ap (λ (l : List (List (ℕ × ℕ))). length l) is_joins ∙ length-append parts.joins (done.joins ∷ []) in
          let same = alike.joins in
          omega (arith, long, one, same);
      ended =
          let one = ap (λ (l : List (List ℕ)). length l) is_ended ∙ length-append parts.ended (done.ended ∷ []) in
          let same = alike.ended in
          omega (arith, long, one, same);
      moves =
          let one = ap (λ (l : List (List (ℕ × ℕ))). length l) is_moves ∙ length-append parts.moves (done.moves ∷ []) in
          let same = alike.moves in
          omega (arith, long, one, same);
    }

pub columns-push : (parts new : Parts) (done : Column) → AreAlike parts
    → new.entered.items ≡ parts.entered.items ++ entered_of done ∷ [] → new.made ≡ parts.made ++ done.made ∷ []
    → new.joins ≡ parts.joins ++ done.joins ∷ [] → new.ended ≡ parts.ended ++ done.ended ∷ [] → new.moves ≡ parts.moves ++ done.moves ∷ []
    → (later : List Column) → columns_in new ++ later ≡ columns_in parts ++ done ∷ later
columns-push parts new done alike is_entered is_made is_joins is_ended is_moves later =
    let fours = zip parts.ended parts.moves in
    let threes = zip parts.joins fours in
    let twos = zip parts.made threes in
    let ends = alike.ended in
    let moves = alike.moves in
    let joins = alike.joins in
    let mades = alike.made in
    let same_four : length parts.moves ≡ length parts.ended = omega (arith, ends, moves) in
    let long_four = zip-length parts.ended parts.moves same_four in
    let same_three : length fours ≡ length parts.joins = omega (arith, ends, joins, long_four) in
    let long_three = zip-length parts.joins fours same_three in
    let same_two : length threes ≡ length parts.made = omega (arith, mades, joins, long_three) in
    let long_two = zip-length parts.made threes same_two in
    let same_one : length twos ≡ length parts.entered.items = omega (arith, mades, long_two) in
    let four = (λ i. zip (is_ended i) (is_moves i)) ∙ zip-push parts.ended parts.moves done.ended done.moves same_four in
    let three = (λ i. zip (is_joins i) (four i)) ∙ zip-push parts.joins fours done.joins (done.ended, done.moves) same_three in
    let two = (λ i. zip (is_made i) (three i)) ∙ zip-push parts.made threes done.made (done.joins, (done.ended, done.moves)) same_two in
    let one = (λ i. zip (is_entered i) (two i))
    ∙ zip-push parts.entered.items twos (entered_of done) (done.made, (done.joins, (done.ended, done.moves))) same_one in
    let pushed = ap (map column_of) one
    ∙ map-append column_of (zip parts.entered.items twos) ((entered_of done, (done.made, (done.joins, (done.ended, done.moves)))) ∷ []) in
    ap (λ (l : List Column). l ++ later) pushed ∙ append_assoc (columns_in parts) (done ∷ []) later

-- how many columns there are
pub columns-length : (parts : Parts) → AreAlike parts → length (columns_in parts) ≡ length parts.entered.items
columns-length parts alike =
    let fours = zip parts.ended parts.moves in
    let threes = zip parts.joins fours in
    let twos = zip parts.made threes in
    let ends = alike.ended in
    let moves = alike.moves in
    let joins = alike.joins in
    let mades = alike.made in
    let long_four = zip-length parts.ended parts.moves (omega (arith, ends, moves)) in
    let long_three = zip-length parts.joins fours (omega (arith, ends, joins, long_four)) in
    let long_two = zip-length parts.made threes (omega (arith, mades, joins, long_three)) in
    length-map (zip parts.entered.items twos) column_of ∙ zip-length parts.entered.items twos (omega (arith, mades, long_two))

-- a column by its number
pub columns-at : (parts : Parts) (n : ℕ) (entered : Entered) (made : List Made) (joins : List (ℕ × ℕ)) (ended : List ℕ) (moves : List (ℕ × ℕ))
    → slice_get parts.entered.items n ≡ Some entered → slice_get parts.made n ≡ Some made → slice_get parts.joins n ≡ Some joins
    → slice_get parts.ended n ≡ Some ended → slice_get parts.moves n ≡ Some moves
    → slice_get (columns_in parts) n ≡ Some (column_of (entered, (made, (joins, (ended, moves)))))
columns-at parts n entered made joins ended moves is_entered is_made is_joins is_ended is_moves =
    let four = zip-at parts.ended parts.moves n ended moves is_ended is_moves in
    let three = zip-at parts.joins (zip parts.ended parts.moves) n joins (ended, moves) is_joins four in
    let two = zip-at parts.made (zip parts.joins (zip parts.ended parts.moves)) n made (joins, (ended, moves)) is_made three in
    let one = zip-at parts.entered.items (zip parts.made (zip parts.joins (zip parts.ended parts.moves))) n entered (made, (joins, (ended, moves))) is_entered two in
    slice_get-map column_of (zip parts.entered.items (zip parts.made (zip parts.joins (zip parts.ended parts.moves)))) n ∙ ap (option_map column_of) one
