use Rattle.std.proofs.Common.{◌≡◌, ◌∙◌, ◌==◌, ℕ, List, [], ◌∷◌, length, false, None, Some, refl}
use Rattle.read_base.proofs.DigitsLaws.{within-append}
use Rattle.read_base.specs.Digits.{number_behind, number_within}
use Rattle.command_words.specs.Boxes.{hundredths_of}
use Rattle.command_words.specs.declared.box_word.TheConstants.{MOST_HUNDREDTHS}

-- digits that are too great, or none, before two more
pub hundredths-none : (whole : List ℕ) (tenth hundredth : ℕ) → number_within MOST_HUNDREDTHS whole ≡ None → hundredths_of whole tenth hundredth ≡ None
unfolding hundredths_of
hundredths-none [] tenth hundredth none = refl
hundredths-none (c ∷ cs) tenth hundredth none = within-append MOST_HUNDREDTHS (c ∷ cs) (tenth ∷ hundredth ∷ []) ∙ rw none refl

-- two digits behind those of a number
pub hundredths-are : (n : ℕ) (whole : List ℕ) (tenth hundredth : ℕ) → (length whole == 0) ≡ false → number_within MOST_HUNDREDTHS whole ≡ Some n
    → hundredths_of whole tenth hundredth ≡ number_behind MOST_HUNDREDTHS n (tenth ∷ hundredth ∷ [])
unfolding hundredths_of
hundredths-are n [] tenth hundredth some is = cc
hundredths-are n (c ∷ cs) tenth hundredth some is = within-append MOST_HUNDREDTHS (c ∷ cs) (tenth ∷ hundredth ∷ []) ∙ rw is refl
