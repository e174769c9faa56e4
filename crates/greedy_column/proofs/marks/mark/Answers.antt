use Rattle.std.proofs.Common.{◌≡◌, ◌<◌, ◌+◌, ◌-◌, ◌++◌, ◌∙◌, ℕ, List, length, replicate, ap, refl, rules, arith, length-append}
use Rattle.std.proofs.lemmas.List.{length-replicate}
use Rattle.greedy_column.specs.Desk.{is_marked}
use Rattle.greedy_column.proofs.MarkLaws.{marked_none, marked_one}
use Rattle.greedy_column.proofs.marks.mark.Goals as goal

pub returns-then-joined : goal.returns-then-joined
returns-then-joined c = λ k. marked_none c.args.marks.now.items c.args.net c.args.joined c.if-joined.true k

pub returns : goal.returns
returns c =
    let was : List ℕ = c.args.marks.now.items in
    let reached : List ℕ = c.reach.new.table.items in
    let more : ℕ = c.args.net + 1 - length was in
    let long : reached ≡ was ++ replicate more 0 = search rules in
    let inside : c.args.net < length reached =
    omega (arith, ap (λ (l : List ℕ). length l) long, length-append was (replicate more 0), length-replicate {A = ℕ} more 0) in
    λ k. ap (λ (l : List ℕ). is_marked l k) c.put.ensures
    ∙ marked_one reached was c.args.net c.args.joined c.if-joined.false inside (c.reach.ensures.alike refl) k
