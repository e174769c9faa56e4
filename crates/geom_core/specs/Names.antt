-- names that YAL and CIF can write
use Rattle.std.specs.Prelude.{◌≡◌, ℕ, List, length, Bool, true, ◌&&◌, not, ◌==◌, nat_le}
use Rattle.std.specs.List.{list_all}

-- a byte of a word: it shows, and is no semicolon
abbrev pub is_name_byte : ℕ → Bool
is_name_byte c = nat_le 33 c && nat_le c 126 && not (c == 59)

-- a name has bytes, and each is one of a word
abbrev pub is_name : List ℕ → Bool
is_name text = nat_le 1 (length text) && list_all is_name_byte text

abbrev pub IsName : List ℕ → Type 0
IsName text = is_name text ≡ true
