-- numbers that words ask for
use Rattle.std.specs.Prelude.{ℕ, ◌-◌, ◌^◌, List, length, ◌&&◌, nat_le, if◌then◌else◌, Option, None, Some}
use Rattle.read_base.specs.Digits.{number_within}
use Rattle.limits.specs.declared.TheConstants.{MOST_DECIMALS, MOST_INSTANCES, MOST_ROWS}
use Rattle.command_words.specs.declared.number_word.TheConstants.{MOST_TRIES}

-- the number below 2 ^ 64 that one to twenty digits write
unfoldable pub number_of : List ℕ → Option ℕ
number_of text = if nat_le 1 (length text) && nat_le (length text) 20 then number_within (2 ^ 64 - 1) text else None

-- a number of rows is 1 to 512
abbrev pub within_rows : Option ℕ → Option ℕ
within_rows None = None
within_rows (Some n) = if nat_le 1 n && nat_le n MOST_ROWS then Some n else None

-- a number of tries is 1 to 64
abbrev pub within_tries : Option ℕ → Option ℕ
within_tries None = None
within_tries (Some n) = if nat_le 1 n && nat_le n MOST_TRIES then Some n else None

-- a number of instances is 1 to 20,000
abbrev pub within_count : Option ℕ → Option ℕ
within_count None = None
within_count (Some n) = if nat_le 1 n && nat_le n MOST_INSTANCES then Some n else None

-- a number of decimals is 0 to 4
abbrev pub within_decimals : Option ℕ → Option ℕ
within_decimals None = None
within_decimals (Some n) = if nat_le n MOST_DECIMALS then Some n else None

-- the number of instances that a text asks for
unfoldable pub count_in : List ℕ → Option ℕ
count_in text = within_count (number_of text)

-- the number of rows that a text asks for
unfoldable pub rows_in : List ℕ → Option ℕ
rows_in text = within_rows (number_of text)

-- the number of tries that a text asks for
unfoldable pub tries_in : List ℕ → Option ℕ
tries_in text = within_tries (number_of text)

-- the number of decimals that a text asks for
unfoldable pub decimals_in : List ℕ → Option ℕ
decimals_in text = within_decimals (number_of text)
