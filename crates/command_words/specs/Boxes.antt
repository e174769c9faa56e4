-- the part of a layout that words ask for: four lengths in microns, parted by commas
use Rattle.std.specs.Prelude.{ℕ, ◌*◌, ℤ, pos, neg_ℤ, int_lt, Bool, ◌&&◌, not, ◌==◌, if◌then◌else◌, List, [], ◌∷◌, ◌++◌, take, drop, Option, Some, None, option_and_then, option_map}
use Rattle.std.specs.List.{prefix_len}
use Rattle.clap.specs.Words.{Text}
use Rattle.geom_core.specs.Extent.{Extent}
use Rattle.read_base.specs.Digits.{number_within}
use Rattle.command_words.specs.declared.box_word.TheConstants.{MOST_HUNDREDTHS}

-- all bytes but the point
abbrev pub is_no_point : ℕ → Bool
is_no_point c = not (c == 46)

-- all bytes but the comma
abbrev pub is_no_comma : ℕ → Bool
is_no_comma c = not (c == 44)

-- the hundredths of a micron that one or more digits and two behind the point write, if they are at most 1,000,000,000
unfoldable pub hundredths_of : List ℕ → ℕ → ℕ → Option ℕ
hundredths_of [] tenth hundredth = None
hundredths_of (c ∷ cs) tenth hundredth = number_within MOST_HUNDREDTHS ((c ∷ cs) ++ tenth ∷ hundredth ∷ [])

-- digits, and what stands from the first point on: nothing, or the point and one or two digits; one that is not written is a 0
unfoldable pub pointed : List ℕ → List ℕ → Option ℕ
pointed whole [] = hundredths_of whole 48 48
pointed whole (point ∷ []) = None
pointed whole (point ∷ tenth ∷ []) = hundredths_of whole tenth 48
pointed whole (point ∷ tenth ∷ hundredth ∷ []) = hundredths_of whole tenth hundredth
pointed whole (point ∷ tenth ∷ hundredth ∷ c ∷ cs) = None

-- the hundredths of a length without a sign
unfoldable pub size_of : List ℕ → Option ℕ
size_of text = pointed (take (prefix_len is_no_point text) text) (drop (prefix_len is_no_point text) text)

-- a length in half centimicrons, of which a hundredth of a micron has two, perhaps behind a minus sign
unfoldable pub length_in : List ℕ → Option ℤ
length_in [] = None
length_in (c ∷ cs) = if c == 45 then option_map (λ n. neg_ℤ (pos (2 * n))) (size_of cs) else option_map (λ n. pos (2 * n)) (size_of (c ∷ cs))

-- a length, and what stands behind the comma that ends it
abbrev pub behind_comma : Option ℤ → List ℕ → Option (ℤ × List ℕ)
behind_comma None text = None
behind_comma (Some n) [] = None
behind_comma (Some n) (comma ∷ text) = Some (n, text)

unfoldable pub length_before : List ℕ → Option (ℤ × List ℕ)
length_before text = behind_comma (length_in (take (prefix_len is_no_comma text) text)) (drop (prefix_len is_no_comma text) text)

-- the box of four sides, if it has a width and a height
abbrev pub box_of : ℤ → ℤ → ℤ → ℤ → Option Extent
box_of x0 y0 x1 y1 = if int_lt x0 x1 && int_lt y0 y1 then Some (record { x0 = x0; y0 = y0; x1 = x1; y1 = y1 }) else None

-- the box that four lengths write, each but the last before a comma
unfoldable pub box_in : List ℕ → Option Extent
box_in text =
    option_and_then (λ x0. option_and_then (λ y0. option_and_then (λ x1. option_and_then (λ y1. box_of x0.0 y0.0 x1.0 y1)
    (length_in x1.1)) (length_before y0.1)) (length_before x0.1)) (length_before text)

-- the part that is asked for: none where no value is given, and no answer where the value is no box
abbrev pub part_given : Option Text → Option (Option Extent)
part_given None = Some None
part_given (Some text) = option_map (λ part. Some part) (box_in text)
