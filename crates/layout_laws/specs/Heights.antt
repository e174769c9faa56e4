-- how high a channel is
use Rattle.std.specs.Prelude.{ℕ, ◌+◌, ◌*◌}
use Rattle.channel_model.specs.declared.wiring.Wiring.{Wiring}
use Rattle.tech_rules.specs.Rules.{RuleValues}

-- a channel of t tracks is as high as t + 1 tracks
abbrev pub channel_height : RuleValues → Wiring → ℕ
channel_height r wiring = (wiring.tracks + 1) * r.grid.track
