use Rattle.std.proofs.Common.{◌≡◌, ◌∷◌, [], ℕ, List, refl}
use Rattle.channel_model.specs.Pins.{Pins, are_matched}
use Rattle.channel_model.specs.Density.{density_of}
use Rattle.channel_model.specs.Nets.{nets_of}
use Rattle.std.specs.Prelude.{true, false}

-- the channel with bottom pins 1, 2 and top pins 2, 1
abbrev pub crossed : Pins
crossed = record { top = 2 ∷ (1 ∷ []); bottom = 1 ∷ (2 ∷ []) }

-- its nets
abbrev pub both : List ℕ
both = 1 ∷ (2 ∷ [])

pub crossed-matched : are_matched crossed ≡ true
crossed-matched = refl

pub crossed-nets : nets_of crossed ≡ both
unfolding nets_of
crossed-nets = refl

pub crossed-density : density_of crossed ≡ 2
unfolding nets_of
crossed-density = refl

-- a net that stands once
pub alone-matched : are_matched (record { top = 2 ∷ (1 ∷ []); bottom = 1 ∷ (0 ∷ []) }) ≡ false
alone-matched = refl
