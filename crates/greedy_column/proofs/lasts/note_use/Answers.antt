use Rattle.std.proofs.Common.{◌≡◌, ◌<◌, ◌+◌, ◌-◌, ◌++◌, ◌∙◌, ℕ, List, max, get_or, length, replicate, ap, refl, rules, arith, length-append}
use Rattle.std.proofs.lemmas.List.{length-replicate}
use Rattle.greedy_column.proofs.LastLaws.{noted_one, own_entry}
use Rattle.greedy_column.proofs.lasts.note_use.Goals as goal

pub returns : goal.returns
returns c =
    let was : List ℕ = c.args.lasts.now.items in
    let reached : List ℕ = c.reach.new.table.items in
    let more : ℕ = c.args.net + 1 - length was in
    let long : reached ≡ was ++ replicate more 0 = search rules in
    let inside : c.args.net < length reached =
    omega (arith, ap (λ (l : List ℕ). length l) long, length-append was (replicate more 0), length-replicate {A = ℕ} more 0) in
    let last : c.max-last.result ≡ max (get_or was c.args.net 0) c.args.column =
    c.max-last.ensures ∙ ap (λ n. max n c.args.column) (c.entry.ensures ∙ ap (λ (l : List ℕ). get_or l c.args.net 0) c.deref.ensures.value ∙ c.reach.ensures.alike refl c.args.net) in
    λ k. ap (λ (l : List ℕ). get_or l k 0) c.put.ensures
    ∙ noted_one reached was c.args.net c.max-last.result inside (c.reach.ensures.alike refl) k
    ∙ own_entry was c.args.net c.args.column c.max-last.result k last
