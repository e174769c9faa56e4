-- bytes as they are shown
use Rattle.std.specs.Prelude.{ℕ, ◌==◌, ◌&&◌, cond, nat_le}

-- a blank for a tab, a byte of ASCII that shows as it is, and a question mark for any other
abbrev pub shown : ℕ → ℕ
shown byte = cond (byte == 9) 32 (cond (nat_le 32 byte && nat_le byte 126) byte 63)
