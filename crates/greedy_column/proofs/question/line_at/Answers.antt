use Rattle.std.proofs.Common.{◌≡◌, ◌<◌, ◌-◌, ◌∷◌, ◌∙◌, ℕ, zero, suc, List, ap, arith, slice_get}
use Rattle.std.proofs.lemmas.Option.{slice_get-get_or}
use Rattle.greedy_column.proofs.question.line_at.Goals as goal

-- what stands past the first place stands one place before it among the rest
past_first : (line place : ℕ) (options : List ℕ) → 0 < place → slice_get (line ∷ options) place ≡ slice_get options (place - 1)
past_first line zero options some = absurd (omega (arith, some))
past_first line (suc place) options some = let e : place ≡ suc place - 1 = omega arith in ap (slice_get options) e

pub returns-else-place-eq0 : goal.returns-else-place-eq0
returns-else-place-eq0 c =
    let options = c.args.options.now in
    let place = c.args.place in
    past_first c.args.line place options (omega (arith, c.if-place-eq0.false)) ∙ slice_get-get_or options (place - 1) _ (omega (arith, c.requires, c.if-place-eq0.false))
