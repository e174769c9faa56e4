use Rattle.std.proofs.Common.{◌≡◌, ◌<◌, ◌+◌, ◌-◌, ◌++◌, ◌∷◌, [], length, replicate, get_or, refl, rules, arith}
use Rattle.choose_core.specs.declared.candidate.Next.TheVariants.{Ends}
use Rattle.greedy_column.specs.declared.uses.Use.{Use}
use Rattle.greedy_column.proofs.StartLaws.{starts_all, starts_more}
use Rattle.greedy_column.proofs.starts.starts_of.Goals as goal

pub loop-place-preserved : goal.loop-place-preserved
loop-place-preserved c =
    let one : Use = record { net = 0; column = 0; next = Ends } in
    let place = c.loop-place.place in
    let net = (get_or c.args.uses.now place one).net in
    let inside : place < length c.args.uses.now = search rules in
    let grown : c.reach.new.table.items ≡ c.loop-place.starts.items ++ replicate (net + 1 - length c.loop-place.starts.items) place = search rules in
    rw grown (starts_more c.args.uses.now place net one c.loop-place.starts.items c.requires.sorted inside refl c.loop-place.invariant)

pub returns : goal.returns
returns c =
    let all : c.push.new.self.items ≡ c.loop-place.starts.items ++ c.loop-place.place ∷ [] = search rules in
    let end : c.loop-place.place ≡ length c.args.uses.now = omega arith in
    rw all (starts_all c.args.uses.now c.loop-place.place c.loop-place.starts.items end c.loop-place.invariant)
