use Rattle.cif_text.specs.declared.command.CifCommand.TheVariants as commands
use Rattle.cif_reader.specs.declared.refusal.ExpandStop.TheVariants as refusals
use Rattle.std.proofs.Common.{◌≡◌, refl, ap, sym, ◌∙◌, subst, ℕ, suc, ◌+◌, List, [], ◌∷◌, length, Bool, true, false, Ok, arith}
use Rattle.std.specs.Prelude.{is_some, not}
use Rattle.cif_text.specs.declared.command.CifCommand.{CifCommand}
use Rattle.cif_text.specs.CifReads.{is_open_behind}
use Rattle.cif_text.specs.Sound.{AreSound, IsInPlace}
use Rattle.cif_reader.specs.declared.refusal.ExpandStop.{ExpandStop}
use Rattle.cif_reader.specs.declared.standing.Standing.{Standing}
use Rattle.cif_reader.specs.Behind.{seen, IsStanding, IsBehind}
use Rattle.cif_reader.specs.Expanding.{fault_of, told_of}
use Rattle.read_base.specs.Answers.{Fails}
use Rattle.cif_reader.specs.Expansion.{Progress, advance, progress, at_first, expansion}
use Rattle.cif_reader.specs.Refusals.{Takes, kind_of}
use Rattle.std_laws.proofs.Options.{ok-and}

-- sound commands, or none behind the end
abbrev pub AreLeft : Bool → List CifCommand → Type 0
AreLeft inside [] = Unit {0}
AreLeft inside (c ∷ cs) = AreSound inside (c ∷ cs)

pub record IsNext (inside : Bool) (c : CifCommand) (cs : List CifCommand) : Type 0 where
  pub place : IsInPlace inside c
  pub left : AreLeft (is_open_behind inside c) cs

left-of : (inside : Bool) (cs : List CifCommand) → AreSound inside cs → AreLeft inside cs
left-of inside [] h = absurd h
left-of inside (c ∷ cs) h = h

pub next-of : (inside : Bool) (c : CifCommand) (cs : List CifCommand) → AreLeft inside (c ∷ cs) → IsNext inside c cs
next-of inside commands.End cs h = record { place = record { sound = tt; stands = refl; last = λ is. h.0 }; left = rw h.1 tt }
next-of inside commands.Finish cs h =
    record { place = record { sound = tt; stands = h.0; last = λ is. cc }; left = left-of false cs h.1 }
next-of inside (commands.Start n a b) cs h =
    record { place = record { sound = h.1; stands = ap not h.0; last = λ is. cc }; left = left-of true cs h.2 }
next-of inside (commands.Box long wide cx cy upright) cs h =
    record { place = record { sound = h.0; stands = refl; last = λ is. cc }; left = left-of inside cs h.1 }
next-of inside (commands.Layer name) cs h = record { place = record { sound = h.0; stands = refl; last = λ is. cc }; left = left-of inside cs h.1 }
next-of inside (commands.Call n flip quarters dx dy) cs h =
    record { place = record { sound = h.0; stands = refl; last = λ is. cc }; left = left-of inside cs h.1 }
next-of inside (commands.Wire width path) cs h = record { place = record { sound = h.0; stands = refl; last = λ is. cc }; left = left-of inside cs h.1 }
next-of inside (commands.Polygon path) cs h = record { place = record { sound = h.0; stands = refl; last = λ is. cc }; left = left-of inside cs h.1 }
next-of inside commands.Comment cs h = record { place = record { sound = h.0; stands = refl; last = λ is. cc }; left = left-of inside cs h.1 }
next-of inside (commands.User kind text) cs h = record { place = record { sound = h.0; stands = refl; last = λ is. cc }; left = left-of inside cs h.1 }

-- so many commands are done, and the others are left
pub record IsUpTo (all : List CifCommand) (s : Standing) (at : ℕ) (rest : List CifCommand) : Type 0 where
  pub is : IsStanding s
  pub left : AreLeft (is_some s.definition) rest
  pub done : progress 0 at_first all ≡ progress at (seen s) rest
  pub count : at + length rest ≡ length all

pub next-left : (all : List CifCommand) (s : Standing) (at : ℕ) (rest cs : List CifCommand) (c : CifCommand) → IsUpTo all s at rest → rest ≡ c ∷ cs
    → IsNext (is_some s.definition) c cs
next-left all s at rest cs c h is = next-of (is_some s.definition) c cs (subst (AreLeft (is_some s.definition)) is h.left)

pub up-to-next : (all : List CifCommand) (s t : Standing) (at : ℕ) (rest cs : List CifCommand) (c : CifCommand) → IsUpTo all s at rest → rest ≡ c ∷ cs
    → Takes {X = Unit {0}} (Ok tt) (advance (seen s) c) (IsBehind t (is_open_behind (is_some s.definition) c)) → IsUpTo all t (at + 1) cs
unfolding progress
up-to-next all s t at rest cs c h is taken =
    let given = ok-and (advance (seen s) c) (IsBehind t (is_open_behind (is_some s.definition) c)) taken in
    let next = next-left all s at rest cs c h is in
    let one : at + 1 ≡ suc at = omega arith in
    let counted : length rest ≡ length (c ∷ cs) = ap length is in
    let before : at + length rest ≡ length all = h.count in
    record {
      is = given.2.is;
      left = rw given.2.is_open next.left;
      done = h.done ∙ ap (progress at (seen s)) is ∙ rw given.1 (rw one (ap (λ (p : Progress). progress (suc at) p cs) (sym given.2.is_seen)));
      count = omega arith;
    }

-- a command that is refused
pub refused-at : (all : List CifCommand) (s : Standing) (at : ℕ) (rest cs : List CifCommand) (c : CifCommand) (refusal : ExpandStop) → IsUpTo all s at rest
    → rest ≡ c ∷ cs → Fails kind_of refusal (advance (seen s) c) → Fails told_of (fault_of refusal at) (expansion all)
unfolding progress expansion
refused-at all s at rest cs c refusals.Memory h is taken = tt
refused-at all s at rest cs c (refusals.Because kind) h is taken = rw (h.done, is, taken) refl

-- the end
pub expanded : (all : List CifCommand) (s : Standing) (at : ℕ) (rest : List CifCommand) → IsUpTo all s at rest → length rest ≡ 0
    → expansion all ≡ Ok (record { cells = s.main.cells.items; shapes = s.main.shapes.items })
unfolding progress expansion seen
expanded all s at [] h none = rw h.done refl
expanded all s at (c ∷ cs) h none = absurd (omega arith)
