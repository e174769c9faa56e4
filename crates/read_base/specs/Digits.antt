-- the number that digits write
use Rattle.std.specs.Prelude.{ℕ, List, Option, Some, None, nat_le, ◌&&◌, if◌then◌else◌}
use Rattle.std.specs.Char.{is_ascii_digit}
use Rattle.std.specs.List.{list_all}
use Rattle.std.specs.Str.Parse.{digits_value_after}

-- the number that digits write behind those of a number, if it is at most so great; none where a byte is no digit
abbrev pub number_behind : ℕ → ℕ → List ℕ → Option ℕ
number_behind most n digits =
    if list_all is_ascii_digit digits && nat_le (digits_value_after 10 n digits) most then Some (digits_value_after 10 n digits) else None

-- the number that digits write, where none write 0
unfoldable pub number_within : ℕ → List ℕ → Option ℕ
number_within most digits = number_behind most 0 digits
