use Rattle.std.proofs.Common.{◌≡◌, ◌≤◌, ◌+◌, length}
use Rattle.note_text.specs.Places.{place_from}
use Rattle.note_text.proofs.places.place_at.Given as goal

-- the place behind all is that behind what is left, from here; and numbers so far are within those of all bytes
abbrev pub invariant-loop-byte : goal.invariant-loop-byte
invariant-loop-byte l = record {
  goes_on : place_from (record { line = 1; column = 1 }) l.initial.rest ≡ place_from l.place l.rest;
  within : l.place.line + l.place.column + length l.rest ≤ 2 + length l.initial.rest;
  some : 1 ≤ l.place.line;
  any : 1 ≤ l.place.column;
}

abbrev pub decreases-loop-byte : goal.decreases-loop-byte
decreases-loop-byte l = length l.rest
