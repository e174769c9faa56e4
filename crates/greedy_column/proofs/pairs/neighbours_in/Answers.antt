use Rattle.std.proofs.Common.{◌≡◌, ◌≢◌, ◌<◌, ◌+◌, ◌-◌, ◌++◌, ◌∷◌, ◌∙◌, List, ℕ, [], length, drop, reverse, get_or, refl, sym, subst, ap, rules, arith}
use Rattle.std.proofs.lemmas.List.{drop_all, drop_more}
use Rattle.greedy_column.specs.declared.column.Track.{Track}
use Rattle.greedy_column.specs.declared.span.Span.{Span}
use Rattle.greedy_column.specs.Joining.{neighbours_from, next_line, pair_of}
use Rattle.greedy_column.proofs.DeskLaws.{IsBelow-set, Notes, Notes-down, Notes-none, neighbours-down}
use Rattle.greedy_column.proofs.pairs.neighbours_in.Goals as goal

pub loop-place-init : goal.loop-place-init
loop-place-init c =
    let tracks : List Track = c.args.all.now in
    let none : drop (length tracks) tracks ≡ [] = drop_all (length tracks) tracks (omega arith) in
    record {
      within = omega arith;
      found = ap (λ (l : List Span). reverse l) c.in_ok-list.ensures.items ∙ ap (neighbours_from (length tracks + 1)) (sym none);
      lowest = subst (λ (l : List Track). Notes c.args.base c.args.above.now (length tracks + 1) l) (sym none)
          (Notes-none c.args.base c.args.above.now (length tracks + 1) c.requires.below);
      below = λ net. omega (arith, c.requires.below net);
    }

pub loop-place-preserved : goal.loop-place-preserved
loop-place-preserved c =
    let tracks : List Track = c.args.all.now in
    let line : ℕ = c.loop-place.place in
    let k : ℕ = line - 1 in
    let one : Track = record { id = 0; net = 0 } in
    let t : Track = get_or tracks k one in
    let was : List ℕ = c.loop-place.above in
    let here : line ≡ k + 1 = omega arith in
    let within : k < length tracks = omega (arith, c.loop-place.invariant.within) in
    let cut : drop k tracks ≡ t ∷ drop line tracks = drop_more tracks k one within ∙ ap (λ n. t ∷ drop n tracks) (sym here) in
    let inside : t.net < length was = omega (arith, c.requires.long.1.0 k one within, c.requires.long.1.1) in
    let held : t.net ≢ 0 = search rules in
    let told : c.noted.result ≡ next_line t.net (line + 1) (drop line tracks) = c.noted.ensures ∙ c.loop-place.invariant.lowest t.net (omega (arith, held)) in
    let pushed : c.push_pair.new.pairs.items ≡ c.loop-place.list.items ++ pair_of t.net line c.noted.result = search rules in
    record {
      within = omega (arith, within);
      found = neighbours-down tracks k line t c.loop-place.list.items c.push_pair.new.pairs.items c.noted.result here cut told pushed c.loop-place.invariant.found;
      lowest = Notes-down c.args.base tracks k line t was was here cut (λ net. refl) inside c.loop-place.invariant.lowest;
      below = IsBelow-set (c.args.base + length tracks) was t.net (c.args.base + line) inside (omega (arith, within, here)) c.loop-place.invariant.below;
    }
