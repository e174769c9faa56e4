use Rattle.layout_check.proofs.groups.firsts_of.Goals as goal
use Rattle.std.proofs.Common.{◌≡◌, ◌<◌, ◌+◌, ◌++◌, ◌∷◌, [], ◌∙◌, ℕ, List, Option, Some, length, take, drop, set, eqb, get_or, ap, sym, subst}
use Rattle.std.specs.Prelude.{All, unwrap_or}
use Rattle.std.specs.List.{position_from, slice_get}
use Rattle.std.proofs.lemmas.List.{length-set, map_more}
use Rattle.std.proofs.lemmas.Option.{slice_get-get_or}
use Rattle.layout_check.specs.Groups.{first_of}
use Rattle.layout_check.proofs.Tables.{first-read, table-step}
use Rattle.std_laws.proofs.Slices.{overwritten-whole}

pub loop-k-preserved : goal.loop-k-preserved
loop-k-preserved c =
    let g : ℕ = get_or c.args.members.now.groups.now c.loop-k.k 0 in
    let is : slice_get c.args.members.now.groups.now c.loop-k.k ≡ Some g = slice_get-get_or c.args.members.now.groups.now c.loop-k.k 0 c.loop-k-test.true in
    let within : g < length c.loop-k.table.items = c.loop-k.invariant.within c.loop-k.k 0 c.loop-k-test.true in
    let found : Option ℕ = position_from (λ (h : ℕ). eqb g h) 0 (take c.loop-k.k c.args.members.now.groups.now) in
    let reads : c.enter.result ≡ unwrap_or found c.loop-k.k =
    c.enter.ensures.first found (ap (λ (l : List (Option ℕ)). slice_get l g) c.deref_mut.ensures.value ∙ c.loop-k.invariant.table g within) in
    let put : c.enter.new.table ≡ set c.loop-k.table.items g (Some c.enter.result) =
    c.enter.ensures.table ∙ ap (λ (l : List (Option ℕ)). set l g (Some c.enter.result)) c.deref_mut.ensures.value in
    let long : length c.enter.new.table ≡ length c.loop-k.table.items = ap (λ (l : List (Option ℕ)). length l) put ∙ length-set c.loop-k.table.items g (Some c.enter.result) in
    let whole : take c.loop-k.table.len (c.enter.new.table ++ drop (length c.enter.new.table) c.loop-k.table.items) ≡ c.enter.new.table =
    overwritten-whole c.loop-k.table.items c.enter.new.table c.loop-k.table.len c.loop-k.table.ok.0 long in
    let P : List (Option ℕ) → Type 0 = λ l. (h : ℕ) → h < length l → slice_get l h ≡ Some (position_from (λ (m : ℕ). eqb h m) 0 (take (c.loop-k.k + 1) c.args.members.now.groups.now)) in
    record {
      firsts = c.in_ok-push.ensures.items
          ∙ ap (λ (f : ℕ). c.loop-k.firsts.items ++ f ∷ []) (reads ∙ first-read c.args.members.now.groups.now c.loop-k.k g is)
          ∙ ap (λ (l : List ℕ). l ++ first_of c.args.members.now.groups.now g ∷ []) c.loop-k.invariant.firsts
          ∙ sym (map_more (first_of c.args.members.now.groups.now) c.args.members.now.groups.now c.loop-k.k 0 c.loop-k-test.true);
      table = subst P (sym whole) (table-step c.args.members.now.groups.now c.loop-k.k g c.enter.result c.loop-k.table.items c.enter.new.table is within c.loop-k.invariant.table reads put);
      within = subst (λ (n : ℕ). All (λ (h : ℕ). h < n) c.args.members.now.groups.now) (sym (ap (λ (l : List (Option ℕ)). length l) whole ∙ long)) c.loop-k.invariant.within;
    }
