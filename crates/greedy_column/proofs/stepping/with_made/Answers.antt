use Rattle.std.proofs.Common.{◌≡◌, ◌∷◌, ◌∙◌, suc, List, ap, arith, subst, sym, rules, length}
use Rattle.std.proofs.lemmas.List.Edits.{length-insert}
use Rattle.std.specs.List.{insert}
use Rattle.greedy_column.specs.declared.column.Track.{Track}
use Rattle.greedy_column.specs.declared.column.Made.{Made}
use Rattle.greedy_column.specs.Lawful.{AreMadeFrom}
use Rattle.greedy_column.specs.Replay.{with_made}
use Rattle.greedy_column.proofs.stepping.with_made.Goals as goal

pub loop-one-preserved : goal.loop-one-preserved
loop-one-preserved c =
    let one : Made = c.in-Some.one.now in
    let later : List Made = c.in-Some.later.now in
    let tracks : List Track = c.loop-one.tracks.items in
    let track : Track = record { id = one.id; net = 0 } in
    let cut : c.loop-one.rest.now ≡ one ∷ later = search rules in
    let kept = rw cut at c.loop-one.invariant in
    let inserted : c.insert.new.self.items ≡ insert tracks one.below track = search rules in
    let more : length c.insert.new.self.items ≡ suc (length tracks) =
    ap (λ (l : List Track). length l) inserted ∙ length-insert tracks one.below track kept.placed.1.1 ∙ omega arith in
    record {
      placed = (suc kept.placed.0, subst (λ n. AreMadeFrom (suc kept.placed.0) n later) (sym more) kept.placed.1.2);
      so_far = ap (λ (l : List Track). with_made l later) inserted ∙ kept.so_far;
      long = omega (arith, more, kept.long);
    }
