use Rattle.std.proofs.Common.{◌≡◌, ◌≤◌, ◌<◌, ◌-◌, ◌++◌, inl, inr, ℕ, List, length, take, drop, min, arith}
use Rattle.std.proofs.lemmas.Bool.{cases_lt}
use Rattle.shelf_io.specs.Told.{Gives}
use Rattle.std_laws.proofs.Slices.{rest_from, rest_past}

-- the bytes from place `at` on, copied as far as the file and `into` reach
pub gives_front : (file into piece tail : List ℕ) (at start n : ℕ) → 0 < length into
    → start ≡ min (length file) at → n ≡ min (length into) (length file - start)
    → piece ≡ take n (drop start file) → Gives file at n (piece ++ tail)
gives_front file into piece tail at start n room from count copied = record {
  rest = elim (cases_lt at (length file)) [
    | inl within ↦
        let same : start ≡ at = omega (arith, within, from) in
        let fits : n ≤ length file - at = omega (arith, count, same) in
        rw (copied, same) (rest_from file tail at n fits)
    | inr past ↦ rest_past file (piece ++ tail) at n past (omega (arith, past, from, count))
  ];
  ends = (λ none. omega arith, λ past. omega arith);
}
