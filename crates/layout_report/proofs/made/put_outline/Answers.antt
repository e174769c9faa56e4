use Rattle.std.proofs.Common.{◌≡◌, ◌++◌, ◌∷◌, [], List, ℕ, append_assoc}
use Rattle.std.proofs.lemmas.Result.{on_ok_weaker}
use Rattle.std.specs.Prelude.{codes}
use Rattle.layout_report.specs.MadeText.{outline_text, statement}
use Rattle.layout_report.proofs.made.put_outline.Goals as goal

-- what is put piece by piece, as one statement
joined : (t a b c d e f g h width height : List ℕ)
    → a ≡ t ++ codes "DIMENSIONS 0 0" → b ≡ a ++ codes " " ++ width → c ≡ b ++ codes " 0" → d ≡ c ++ codes " " ++ width → e ≡ d ++ codes " " ++ height
    → f ≡ e ++ codes " 0" → g ≡ f ++ codes " " ++ height → h ≡ g ++ codes ";\n"
    → h ≡ t ++ statement (codes "DIMENSIONS" ∷ codes "0" ∷ codes "0" ∷ width ∷ codes "0" ∷ width ∷ height ∷ codes "0" ∷ height ∷ [])
joined t a b c d e f g h width height one two three four five six seven eight =
    rw (eight, seven, six, five, four, three, two, one) (simp append_assoc)

pub returns : goal.returns
unfolding outline_text
returns c =
    on_ok_weaker c.put-4.result (joined _ _ _ _ _ _ _ _ _ _ _ c.in_ok-put.ensures (rw c.width.ensures.is at c.in_ok-put_next_length.ensures) c.in_ok-put-2.ensures (rw c.width-2.ensures.is at c.in_ok-put_next_length-2.ensures)
    (rw c.height.ensures.is at c.in_ok-put_next_length-3.ensures) c.in_ok-put-3.ensures (rw c.height-2.ensures.is at c.in_ok-put_next_length-4.ensures)) c.put-4.ensures
