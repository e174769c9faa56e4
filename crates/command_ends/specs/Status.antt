-- the status of a command, and its lines
use Rattle.std.specs.Prelude.{ℕ, [], ◌∷◌, Bool, ◌==◌, Result, Ok, Err}
use Rattle.std.specs.List.{list_any}
use Rattle.command_ends.specs.declared.refusal.Refusal.{Refusal}
use Rattle.command_ends.specs.declared.refusal.Refusal.TheVariants.{Usage, Toml, Missing, Range, Tight, Yal, Design, PortClash, Blif, Import, Cif, Meaning, Limit, Memory}
use Rattle.command_ends.specs.declared.stop.Stop.{Stop}
use Rattle.command_ends.specs.declared.stop.Stop.TheVariants.{Refused, ReadFault, WriteFault}

-- the status of a refusal
abbrev pub refusal_status : Refusal → ℕ
refusal_status Usage = 2
refusal_status (Yal kind place) = 3
refusal_status Toml = 4
refusal_status (Missing key) = 4
refusal_status (Range key) = 4
refusal_status (Tight rule) = 4
refusal_status (Design fault name) = 5
refusal_status (PortClash name) = 5
refusal_status (Blif kind place) = 3
refusal_status (Import flaw) = 5
refusal_status (Cif kind place) = 7
refusal_status (Meaning kind command) = 7
refusal_status (Limit what n) = 6
refusal_status Memory = 10

-- the status of what stopped a command
abbrev pub stop_status : Stop → ℕ
stop_status (Refused refusal) = refusal_status refusal
stop_status ReadFault = 8
stop_status WriteFault = 9

-- the status of a command that ended so
abbrev pub ending_status : {A : Type 0} → Result A Stop → ℕ
ending_status (Ok done) = 0
ending_status (Err stop) = stop_status stop

-- one of the numbers that a command ends with
abbrev pub is_status : ℕ → Bool
is_status n = list_any (λ status. n == status) (0 ∷ 1 ∷ 2 ∷ 3 ∷ 4 ∷ 5 ∷ 6 ∷ 7 ∷ 8 ∷ 9 ∷ 10 ∷ [])
