use Rattle.std.proofs.Common.{◌≡◌, ◌≢◌, ◌≤◌, Result, Ok, Err, IsErrAnd, refl, ap, true, arith}
use Rattle.command_ends.specs.Status.{ending_status, is_status, refusal_status, stop_status}
use Rattle.command_ends.specs.declared.refusal.Refusal.{Refusal}
use Rattle.command_ends.specs.declared.refusal.Refusal.TheVariants as refusals
use Rattle.command_ends.specs.declared.stop.Stop.{Stop}
use Rattle.command_ends.specs.declared.stop.Stop.TheVariants.{Refused, ReadFault, WriteFault}

-- what is handed on has the same status
pub handed-status : {X : Type 0} (result : Result X Stop) (stop : Stop) → IsErrAnd result (λ other. other ≡ stop) → ending_status result ≡ stop_status stop
handed-status (Ok done) stop is = absurd is
handed-status (Err other) stop is = ap stop_status is

-- a refusal has a status of the list, above 1, and neither that of a failure of reading nor that of writing
refusal-told : (refusal : Refusal)
    → (is_status (refusal_status refusal) ≡ true) × (2 ≤ refusal_status refusal) × (refusal_status refusal ≢ 8) × (refusal_status refusal ≢ 9)
refusal-told refusals.Usage = (refl, omega arith, λ eight. absurd (omega (arith, eight)), λ nine. absurd (omega (arith, nine)))
refusal-told refusals.Toml = (refl, omega arith, λ eight. absurd (omega (arith, eight)), λ nine. absurd (omega (arith, nine)))
refusal-told (refusals.Missing key) = (refl, omega arith, λ eight. absurd (omega (arith, eight)), λ nine. absurd (omega (arith, nine)))
refusal-told (refusals.Range key) = (refl, omega arith, λ eight. absurd (omega (arith, eight)), λ nine. absurd (omega (arith, nine)))
refusal-told (refusals.Tight rule) = (refl, omega arith, λ eight. absurd (omega (arith, eight)), λ nine. absurd (omega (arith, nine)))
refusal-told (refusals.Yal kind at) = (refl, omega arith, λ eight. absurd (omega (arith, eight)), λ nine. absurd (omega (arith, nine)))
refusal-told (refusals.Design fault name) = (refl, omega arith, λ eight. absurd (omega (arith, eight)), λ nine. absurd (omega (arith, nine)))
refusal-told (refusals.PortClash name) = (refl, omega arith, λ eight. absurd (omega (arith, eight)), λ nine. absurd (omega (arith, nine)))
refusal-told (refusals.Blif kind at) = (refl, omega arith, λ eight. absurd (omega (arith, eight)), λ nine. absurd (omega (arith, nine)))
refusal-told (refusals.Import flaw) = (refl, omega arith, λ eight. absurd (omega (arith, eight)), λ nine. absurd (omega (arith, nine)))
refusal-told (refusals.Cif kind at) = (refl, omega arith, λ eight. absurd (omega (arith, eight)), λ nine. absurd (omega (arith, nine)))
refusal-told (refusals.Meaning kind at) = (refl, omega arith, λ eight. absurd (omega (arith, eight)), λ nine. absurd (omega (arith, nine)))
refusal-told (refusals.Limit what n) = (refl, omega arith, λ eight. absurd (omega (arith, eight)), λ nine. absurd (omega (arith, nine)))
refusal-told refusals.Memory = (refl, omega arith, λ eight. absurd (omega (arith, eight)), λ nine. absurd (omega (arith, nine)))

pub refusal-unread : (refusal : Refusal) → refusal_status refusal ≢ 8
refusal-unread refusal = (refusal-told refusal).2

pub refusal-unwritten : (refusal : Refusal) → refusal_status refusal ≢ 9
refusal-unwritten refusal = (refusal-told refusal).3

-- what stops a command has a status of the list, above 1
pub stop-listed : (stop : Stop) → is_status (stop_status stop) ≡ true
stop-listed (Refused refusal) = (refusal-told refusal).0
stop-listed ReadFault = refl
stop-listed WriteFault = refl

pub stop-above : (stop : Stop) → 2 ≤ stop_status stop
stop-above (Refused refusal) = (refusal-told refusal).1
stop-above ReadFault = omega arith
stop-above WriteFault = omega arith
