use Rattle.std.proofs.Common.{rules, w64, SFits, to_z-of_z, append_assoc, ◌≡◌, ◌++◌, ◌∷◌, [], drop, List, ℕ}
use Rattle.std.proofs.lemmas.List.{drop_all}
use Rattle.std.specs.Fmt.{signed_decimal}
use Rattle.cif_text.proofs.print.print_label_end.Goals as goal

joined : (a b c behind n m : List ℕ)
    → a ≡ (59 ∷ 10 ∷ []) ++ behind → behind ≡ [] → b ≡ 32 ∷ m ++ a → c ≡ 32 ∷ n ++ b
    → c ≡ 32 ∷ (n ++ 32 ∷ (m ++ []) ++ 59 ∷ 10 ∷ [])
joined a b c behind n m first none second last = rw (last, second, first, none) (simp append_assoc)

pub returns-clause-text : goal.returns-clause-text
returns-clause-text c =
    let across : SFits w64 c.args.x = search rules in
    let up : SFits w64 c.args.y = search rules in
    let none : drop 192 c.args.into.now ≡ [] = drop_all 192 c.args.into.now (search rules) in
    joined _ _ _ (drop 192 c.args.into.now) (signed_decimal c.args.x) (signed_decimal c.args.y)
    c.put-start.ensures.text
    none
    (rw (to_z-of_z up) at c.put_number-start.ensures.text)
    (rw (to_z-of_z across) at c.put_number.ensures.text)
