use Rattle.cif_text.specs.declared.command.CifCommand.TheVariants as commands
use Rattle.std.proofs.Common.{◌≡◌, refl, ℕ, ℤ, List, [], ◌∷◌, Bool, true, false, Ok}
use Rattle.cif_text.specs.declared.command.CifCommand.{CifCommand}
use Rattle.cif_text.specs.Bytes.{is_separator, ends}
use Rattle.cif_text.specs.CifReads.{is_end, is_open_behind}
use Rattle.cif_text.specs.Forms.{axis_of, box_along, box_end}
use Rattle.cif_text.specs.Numbers.{number, apart}
use Rattle.cif_text.specs.Sound.{AreSound, IsInPlace}
use Rattle.std.proofs.lemmas.Bool.{not-true}

-- a box with a direction
pub box_end-directed : (long wide : ℕ) (cx cy : ℤ) (bytes : List ℕ) (dx dy : ℤ × List ℕ) → ends is_separator bytes ≡ false
    → apart is_separator number bytes ≡ Ok dx → apart is_separator number dx.1 ≡ Ok dy → ends is_separator dy.1 ≡ true
    → box_end long wide cx cy bytes ≡ Ok (box_along long wide cx cy (axis_of dx.0 dy.0))
unfolding box_end
box_end-directed long wide cx cy bytes dx dy more first second last = rw (more, first, second, last) refl

-- a command before others, and an end
pub sound-on : (inside : Bool) (c : CifCommand) (cs : List CifCommand) → IsInPlace inside c → is_end c ≡ false → AreSound (is_open_behind inside c) cs
    → AreSound inside (c ∷ cs)
sound-on inside (commands.Box long wide cx cy upright) cs h more others = (h.sound, others)
sound-on inside (commands.Layer name) cs h more others = (h.sound, others)
sound-on inside (commands.Start n a b) cs h more others = (not-true inside h.stands, h.sound, others)
sound-on inside commands.Finish cs h more others = (h.stands, others)
sound-on inside (commands.Call n flip quarters dx dy) cs h more others = (h.sound, others)
sound-on inside (commands.Wire width path) cs h more others = (h.sound, others)
sound-on inside (commands.Polygon path) cs h more others = (h.sound, others)
sound-on inside commands.Comment cs h more others = (h.sound, others)
sound-on inside (commands.User kind text) cs h more others = (h.sound, others)
sound-on inside commands.End cs h more others = cc

pub sound-end : (inside : Bool) (c : CifCommand) → IsInPlace inside c → is_end c ≡ true → AreSound inside (c ∷ [])
sound-end inside (commands.Box long wide cx cy upright) h last = cc
sound-end inside (commands.Layer name) h last = cc
sound-end inside (commands.Start n a b) h last = cc
sound-end inside commands.Finish h last = cc
sound-end inside (commands.Call n flip quarters dx dy) h last = cc
sound-end inside (commands.Wire width path) h last = cc
sound-end inside (commands.Polygon path) h last = cc
sound-end inside commands.Comment h last = cc
sound-end inside (commands.User kind text) h last = cc
sound-end inside commands.End h last = (h.last refl, refl)
