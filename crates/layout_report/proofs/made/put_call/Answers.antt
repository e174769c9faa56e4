use Rattle.std.proofs.Common.{◌≡◌, ◌++◌, ◌∷◌, [], List, ℕ, append_assoc}
use Rattle.std.proofs.lemmas.Result.{on_ok_weaker}
use Rattle.std.specs.Prelude.{codes}
use Rattle.layout_report.specs.MadeText.{call_text, statement}
use Rattle.layout_report.proofs.made.put_call.Goals as goal

-- what is put piece by piece, as one statement
joined : (t a b c d e f g cell kind first second own last : List ℕ)
    → a ≡ t ++ cell → b ≡ a ++ (codes " " ++ kind) → c ≡ b ++ (codes " " ++ first) → d ≡ c ++ (codes " " ++ second) → e ≡ d ++ (codes " " ++ own)
    → f ≡ e ++ (codes " " ++ last) → g ≡ f ++ codes " VDD VSS;\n"
    → g ≡ t ++ statement (cell ∷ kind ∷ first ∷ second ∷ own ∷ last ∷ codes "VDD" ∷ codes "VSS" ∷ [])
joined t a b c d e f g cell kind first second own last one two three four five six seven =
    rw (seven, six, five, four, three, two, one) (simp append_assoc)

pub returns : goal.returns
unfolding call_text
returns c =
    on_ok_weaker c.put.result (joined _ _ _ _ _ _ _ _ _ _ _ _ _ _ c.in_ok-put_name.ensures c.in_ok-put_next_name.ensures
    c.in_ok-put_next_name-2.ensures c.in_ok-put_next_name-3.ensures c.in_ok-put_next_name-4.ensures c.in_ok-put_next_name-5.ensures) c.put.ensures
