-- a flaw by its place from the front of a text
use Rattle.std.specs.Prelude.{ℕ, ◌-◌, Result, Ok, Err}
use Rattle.read_base.specs.declared.stop.Flaw.{Flaw}

-- what a text of this length reads as, or the kind and the place of its flaw
abbrev pub placed : {X K : Type 0} → ℕ → Result X (Flaw K) → Result X (K × ℕ)
placed size (Ok x) = Ok x
placed size (Err flaw) = Err (flaw.kind, size - flaw.left)
