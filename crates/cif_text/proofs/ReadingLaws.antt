use Rattle.std.proofs.Common.{◌≡◌, refl, ap, sym, ◌∙◌, append_assoc, ℕ, ◌<◌, ◌≤◌, List, [], ◌∷◌, ◌++◌, length, Bool, true, false, Result, Ok, Err, arith}
use Rattle.cif_text.specs.declared.command.CifCommand.{CifCommand}
use Rattle.cif_text.specs.Flaws.{Stop}
use Rattle.read_base.specs.declared.stop.Stop.TheVariants as stops
use Rattle.read_base.specs.Answers.{Fails, flaw_of}
use Rattle.cif_text.specs.Answers.{commands_of}
use Rattle.cif_text.specs.Bytes.{is_between, skip}
use Rattle.cif_text.specs.Flaws.{Flaw}
use Rattle.cif_text.specs.Commands.{command_at}
use Rattle.cif_text.specs.CifReads.{is_end, is_open_behind}
use Rattle.read_base.specs.Steps.{◌>>=◌}
use Rattle.cif_text.proofs.FuelLaws.{span-rest, command-leaves, commands-in-order}

-- commands that were read, and then those of the rest
abbrev pub with_front : List CifCommand → Result (List CifCommand) Flaw → Result (List CifCommand) Flaw
with_front front (Ok others) = Ok (front ++ others)
with_front front (Err fault) = Err fault

-- a command leaves fewer bytes
shorter : (inside : Bool) (bytes : List ℕ) (c : CifCommand) (rest : List ℕ) → command_at inside bytes ≡ Ok (c, rest) → length rest < length bytes
shorter inside [] c rest is = cc
shorter inside (x ∷ xs) c rest is = let few : length rest ≤ length xs = (rw is at (command-leaves inside x xs)).holds in omega arith

pub command-shorter : (inside : Bool) (bytes : List ℕ) (c : CifCommand) (rest : List ℕ) → command_at inside (skip is_between bytes) ≡ Ok (c, rest)
    → length rest < length bytes
command-shorter inside bytes c rest is =
    let first = shorter inside (skip is_between bytes) c rest is in
    let few = span-rest is_between bytes in
    omega arith

pub command-stops : (stop : Stop) (front : List CifCommand) (inside : Bool) (bytes : List ℕ) (total : Result (List CifCommand) Flaw)
    → Fails flaw_of stop (command_at inside (skip is_between bytes)) → with_front front (commands_of inside bytes) ≡ total → Fails flaw_of stop total
command-stops (stops.At flaw) front inside bytes total is so_far = sym so_far ∙ rw (commands-in-order inside bytes, is) refl
command-stops stops.Memory front inside bytes total is so_far = tt

pub command-ends : (front : List CifCommand) (inside : Bool) (bytes : List ℕ) (c : CifCommand) (rest : List ℕ)
    → command_at inside (skip is_between bytes) ≡ Ok (c, rest) → is_end c ≡ true → with_front front (commands_of inside bytes) ≡ Ok (front ++ c ∷ [])
command-ends front inside bytes c rest is last = rw (commands-in-order inside bytes, is, last) refl

pub command-on : (front : List CifCommand) (inside : Bool) (bytes : List ℕ) (c : CifCommand) (rest : List ℕ)
    → command_at inside (skip is_between bytes) ≡ Ok (c, rest) → is_end c ≡ false
    → with_front front (commands_of inside bytes) ≡ with_front (front ++ c ∷ []) (commands_of (is_open_behind inside c) rest)
command-on front inside bytes c rest is more = rw (commands-in-order inside bytes, is, more) (joined (commands_of (is_open_behind inside c) rest))
  where
    joined : (r : Result (List CifCommand) Flaw) → with_front front (r >>= λ others. Ok (c ∷ others)) ≡ with_front (front ++ c ∷ []) r
    joined (Ok others) = ap Ok (sym (append_assoc front (c ∷ []) others))
    joined (Err fault) = refl
