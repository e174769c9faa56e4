-- the names of layers, and how one is stored
use Rattle.std.specs.Prelude.{ℕ, ◌-◌, List, ◌++◌, length, replicate, Bool, ◌&&◌, ◌||◌, nat_le}
use Rattle.std.specs.Char.{is_ascii_digit, is_ascii_uppercase}
use Rattle.std.specs.List.{list_all}

-- a digit or an upper-case letter
abbrev pub is_layer_code : ℕ → Bool
is_layer_code c = is_ascii_digit c || is_ascii_uppercase c

-- one to four digits or upper-case letters
abbrev pub is_layer_text : List ℕ → Bool
is_layer_text text = nat_le 1 (length text) && nat_le (length text) 4 && list_all is_layer_code text

-- a name of at most four bytes, with zeros up to four
abbrev pub filled : List ℕ → List ℕ
filled text = text ++ replicate (4 - length text) 0
