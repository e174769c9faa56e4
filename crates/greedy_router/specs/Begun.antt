-- how many free tracks a sweep begins with
use Rattle.std.specs.Prelude.{◌*◌, ◌/◌, ℕ, length, min}
use Rattle.channel_model.specs.Density.{cut_density_of}
use Rattle.channel_model.specs.Limits.{most_tracks}
use Rattle.channel_model.specs.Nets.{nets_of}
use Rattle.channel_model.specs.Pins.{Pins}

-- How many free tracks a sweep begins with: this share of the channel's cut density, in hundredths, and at most as many as a router may
-- take. No wiring of the channel has fewer tracks than the cut density.
abbrev pub begun_of : ℕ → Pins → ℕ
begun_of share pins = min (most_tracks (length (nets_of pins))) (cut_density_of pins * share / 100)
