-- what the text of a label says
use Rattle.std.specs.Prelude.{ℕ, ℤ, List, Bool, not, Option, Some, None, Result, Ok, Err}
use Rattle.read_base.specs.Steps.{◌>>=◌}
use Rattle.cif_text.specs.declared.misfit.Misfit.{Misfit}
use Rattle.cif_text.specs.Bytes.{is_separator, is_white, span}
use Rattle.cif_text.specs.Numbers.{apart, number}

-- a label: its name, and its place in the numbers of its level
pub record PlacedLabel : Type 0 where
  pub name : List ℕ
  pub x : ℤ
  pub y : ℤ

abbrev pub is_word : ℕ → Bool
is_word c = not (is_white c)

-- KLayout's and Magic's own: behind the name come x and y, with separators before each of them; what follows is passed over
abbrev pub placed_label : List ℕ → List ℕ → Result PlacedLabel Misfit
placed_label name rest = do
  x ← apart is_separator number rest
  y ← apart is_separator number x.1
  Ok (record { name = name; x = x.0; y = y.0 })

abbrev pub if_placed : Result PlacedLabel Misfit → Option PlacedLabel
if_placed (Ok label) = Some label
if_placed (Err misfit) = None

-- the name is what stands before the first white
unfoldable pub label_of : List ℕ → Option PlacedLabel
label_of text = if_placed (placed_label (span is_word text).0 (span is_word text).1)
