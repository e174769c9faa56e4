-- the two edges of a channel as contracts see them, and that they make a channel
use Rattle.channel_model.specs.Pins.{Pins, IsChannel}
use Rattle.channel_model.specs.declared.channel.Channel.TheInside.{Inside}

abbrev pub pins_in : Inside → Pins
pins_in a = record { top = a.top; bottom = a.bottom }

abbrev pub IsValid : Inside → Type 0
IsValid a = IsChannel (pins_in a)
