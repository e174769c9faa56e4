use Rattle.std.proofs.Common.{◌≡◌, ◌++◌, ◌∷◌, [], List, ℕ, append_assoc}
use Rattle.std.proofs.lemmas.Result.{on_ok_weaker}
use Rattle.std.specs.Prelude.{codes}
use Rattle.layout_report.specs.MadeText.{position_text, statement}
use Rattle.layout_report.proofs.made.put_position.Goals as goal

-- what is put piece by piece, as one statement
joined : (t a b c d e f name across up width layer : List ℕ)
    → a ≡ t ++ name → b ≡ a ++ codes " " ++ across → c ≡ b ++ codes " " ++ up → d ≡ c ++ codes " " ++ width → e ≡ d ++ (codes " " ++ layer)
    → f ≡ e ++ codes ";\n"
    → f ≡ t ++ statement (name ∷ across ∷ up ∷ width ∷ layer ∷ [])
joined t a b c d e f name across up width layer one two three four five six =
    rw (six, five, four, three, two, one) (simp append_assoc)

pub returns : goal.returns
unfolding position_text
returns c =
    on_ok_weaker c.put-2.result (joined _ _ _ _ _ _ _ _ _ _ _ _ c.in_ok-put.ensures (rw c.middle.ensures.is at c.in_ok-put_next_length.ensures)
    c.in_ok-put_next_length-2.ensures (rw c.pin_width.ensures.is at c.in_ok-put_next.ensures) c.in_ok-put_layer.ensures) c.put-2.ensures
