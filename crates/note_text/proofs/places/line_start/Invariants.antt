use Rattle.std.proofs.Common.{◌≡◌, ◌≤◌, drop}
use Rattle.note_text.specs.Places.{start_from, start_in}
use Rattle.note_text.proofs.places.line_start.Given as goal

abbrev pub invariant-loop-i : goal.invariant-loop-i
invariant-loop-i l = record {
  goes_on : start_in l.text ≡ start_from l.i l.start (drop l.i l.text);
  within : l.start ≤ l.i;
}
