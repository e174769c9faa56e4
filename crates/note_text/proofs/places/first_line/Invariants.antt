use Rattle.std.proofs.Common.{◌≡◌, ◌++◌, drop, take}
use Rattle.note_text.specs.Places.{until_feed}
use Rattle.note_text.proofs.places.first_line.Given as goal

abbrev pub invariant-loop-i : goal.invariant-loop-i
invariant-loop-i l = until_feed l.text ≡ take l.i l.text ++ until_feed (drop l.i l.text)
