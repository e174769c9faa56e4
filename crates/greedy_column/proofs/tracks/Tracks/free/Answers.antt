use Rattle.std.proofs.Common.{◌≡◌, ◌∷◌, ◌∙◌, [], List, ℕ, ap, map, rules, sym}
use Rattle.std.proofs.lemmas.List.{map-id, nil_from_length}
use Rattle.greedy_column.specs.declared.column.Track.{Track}
use Rattle.greedy_column.specs.Lines.{id_on}
use Rattle.greedy_column.specs.Replay.{freed}
use Rattle.greedy_column.specs.Tracks.{ids}
use Rattle.greedy_column.proofs.FreedLaws.{freed-line}
use Rattle.greedy_column.proofs.IdLaws.{ids-hold}
use Rattle.greedy_column.proofs.tracks.Tracks.free.Goals as goal

pub loop-line-preserved : goal.loop-line-preserved
loop-line-preserved c =
    let first : List Track = c.args.self.now in
    let tracks : List Track = c.loop-line.self in
    let line : ℕ = c.in-Some.line.now in
    let later : List ℕ = c.in-Some.later.now in
    let cut : c.loop-line.rest.now ≡ line ∷ later = search rules in
    record {
      ids = ap ids c.give-net.ensures.given ∙ ids-hold (id_on tracks line) 0 tracks ∙ c.loop-line.invariant.ids;
      so_far = freed-line first tracks c.give-net.new.self line later c.loop-line.invariant.ids c.give-net.ensures.given
          ∙ ap (λ (l : List ℕ). freed (map (id_on first) l) tracks) (sym cut) ∙ c.loop-line.invariant.so_far;
    }

pub returns : goal.returns
returns c =
    let tracks : List Track = c.loop-line.self in
    let none : c.loop-line.rest.now ≡ [] = nil_from_length c.loop-line.rest.now c.in_default.ensures.cases in
    sym (map-id tracks) ∙ ap (λ (l : List ℕ). freed (map (id_on c.args.self.now) l) tracks) (sym none) ∙ c.loop-line.invariant.so_far
