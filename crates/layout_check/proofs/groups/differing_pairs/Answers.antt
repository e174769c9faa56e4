use Rattle.std.proofs.Common.{◌≡◌, ◌<◌, ◌∙◌, ℕ, List, Some, length, ap, sym, subst, arith}
use Rattle.std.specs.Prelude.{All}
use Rattle.std.proofs.lemmas.List.{length-map}
use Rattle.std.proofs.lemmas.Result.{IfOk-weaker}
use Rattle.layout_check.specs.Groups.{differing, first_of, firsts_of, pairs_below}
use Rattle.layout_check.proofs.Tables.{firsts-within, pairs-listed}
use Rattle.layout_check.proofs.groups.differing_pairs.Goals as goal

pub differing-requires-clause-within : goal.differing-requires-clause-within
differing-requires-clause-within c =
    let P : List ℕ → Type 0 = λ l. All (λ (f : ℕ). f < length l) l in
    subst P (sym (c.as_slice.ensures.value ∙ c.in_ok-firsts.ensures)) (firsts-within c.args.members.now.groups.now)

pub returns : goal.returns
returns c =
    let firsts : c.as_slice.result.now ≡ firsts_of c.args.members.now.groups.now = c.as_slice.ensures.value ∙ c.in_ok-firsts.ensures in
    let long : length (firsts_of c.args.members.now.groups.now) ≡ length c.args.members.now.groups.now = length-map c.args.members.now.groups.now (first_of c.args.members.now.groups.now) in
    let same : length c.as_slice.result.now ≡ length c.args.members.now.groups.now = ap (λ (l : List ℕ). length l) firsts ∙ long in
    IfOk-weaker c.pairs_in.result _ _
    (λ v is. is
    ∙ pairs-listed (firsts_of c.args.members.now.groups.now) c.args.members.now.kinds.now c.in_ok-lists.lists (length c.args.members.now.groups.now)
    (λ k within. c.in_ok-lists.ensures k (omega arith) ∙ ap (λ (l : List ℕ). Some (differing l c.args.members.now.kinds.now k)) firsts)
    ∙ ap (λ (n : ℕ). pairs_below n (firsts_of c.args.members.now.groups.now) c.args.members.now.kinds.now) (sym long)) c.pairs_in.ensures
