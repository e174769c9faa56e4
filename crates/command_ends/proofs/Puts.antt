use Rattle.std.proofs.Common.{◌<◌, ◌∙◌, ℕ, List, Bool, Option, Result, Ok, Err, length, ap, arith}
use Rattle.std.proofs.lemmas.List.{take_all}
use Rattle.shelf_io.specs.Told.{appended}
use Rattle.shelf_io.specs.Wrote.{Puts}
use Rattle.command_ends.specs.Gains.{Gains}

-- what was gained by a text that was put, whole or not
pub gained : {T E : Type 0} (result : Result T E) {text : List ℕ} {before after : Option (List ℕ)} {old new : ℕ} {L : Type 0} {S : Bool → Type 0}
    → Puts result text before after old new L S → Gains text before after old new
gained (Ok done) {text = text} {before = before} put = record {
  front = λ held at. (length text, ap (appended before) (take_all (length text) text (omega arith)) ∙ put.ended.whole held at);
  whole = λ still. put.ended.whole;
}
gained (Err failed) {old = old} {new = new} put = record {
  front = put.failed.front;
  whole = λ still. let above : old < new = put.failed.cause still.open_ended in absurd (omega (arith, above, still.same));
}
