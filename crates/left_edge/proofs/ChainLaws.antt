use Rattle.std.proofs.Common.{Contains}
use Rattle.channel_model.specs.declared.wiring.Wiring.{Wiring}
use Rattle.channel_model.specs.Elements.{Element, elements, Meets}
use Rattle.channel_model.specs.Wired.{Linked, itself, onward}

pub Meets-sym : {e f : Element} → Meets e f → Meets f e
Meets-sym meets = record { layer = meets.layer; column = meets.column; line = meets.line; first = meets.second; second = meets.first }

pub Linked-trans : {w : Wiring} {e f g : Element} → Linked w e f → Linked w f g → Linked w e g
Linked-trans itself rest = rest
Linked-trans (onward there meets chain) rest = onward there meets (Linked-trans chain rest)

pub Linked-step : {w : Wiring} {e f : Element} → Contains (elements w) f → Meets e f → Linked w e f
Linked-step there meets = onward there meets itself

pub Linked-sym : {w : Wiring} {e f : Element} → Contains (elements w) e → Linked w e f → Linked w f e
Linked-sym there itself = itself
Linked-sym there (onward next meets chain) = Linked-trans (Linked-sym next chain) (Linked-step there (Meets-sym meets))
