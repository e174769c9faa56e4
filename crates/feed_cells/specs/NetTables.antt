-- a list of nets, in which a net is found by its number, from 1 on
use Rattle.std.specs.Prelude.{ℕ, zero, suc, List, Option, None, slice_get}

-- what a list of nets, which are numbered from 1 on, has for the net of this number
abbrev pub at_net : {A : Type 0} → List A → ℕ → Option A
at_net nets zero = None
at_net nets (suc n) = slice_get nets n
