use Rattle.std.proofs.Common.{◌≡◌, refl, ap, ℕ, ◌≤◌, List, [], ◌∷◌, length, IfOk, Result, Ok, Err, arith}
use Rattle.geom_core.specs.Turning.{Turning}
use Rattle.cif_text.specs.declared.fault.CifKind.{CifKind}
use Rattle.cif_text.specs.Bytes.{is_blank, is_separator, skip}
use Rattle.read_base.specs.Steps.{◌>>=◌}
use Rattle.cif_text.specs.declared.misfit.Misfit.{Misfit}
use Rattle.cif_text.specs.Numbers.{natural}
use Rattle.cif_text.specs.Calls.{Step, step_of, steps_of, after, after_all, at_rest, call_of, call_form}
use Rattle.cif_text.specs.Transforms.{IsWithin, followed, moves_of}
use Rattle.cif_text.proofs.Moves.{moves_from, call_by_moves}
use Rattle.cif_text.proofs.FuelLaws.{span-rest, step-leaves, steps-enough}

-- a step leaves fewer bytes
pub step-left : (c : ℕ) (cs rest : List ℕ) (step : Step) → step_of c cs ≡ Ok (step, rest) → length rest ≤ length cs
step-left c cs rest step is = (rw is at (step-leaves c cs)).holds

-- a step and then others
pub moves-on : (so_far : Result Turning CifKind) (c : ℕ) (cs rest : List ℕ) (step : Step) → step_of c cs ≡ Ok (step, rest)
    → moves_from so_far (c ∷ cs) ≡ moves_from (followed so_far step) (skip is_blank rest)
unfolding steps_of
moves-on so_far c cs rest step is =
    let few = step-left c cs rest step is in
    let less = span-rest is_blank rest in
    let same = steps-enough (length cs) (length (skip is_blank rest)) (skip is_blank rest) (omega arith) (omega arith) in
    rw (is, same) (joined (steps_of (length (skip is_blank rest)) (skip is_blank rest)) (behind so_far))
  where
    behind : (so_far : Result Turning CifKind) (others : List Step) → (so_far >>= after_all (step ∷ others)) ≡ ((so_far >>= after step) >>= after_all others)
    behind (Ok t) others = refl
    behind (Err kind) others = refl

    joined : (r : Result (List Step) Misfit) → ((others : List Step) → (so_far >>= after_all (step ∷ others)) ≡ (followed so_far step >>= after_all others))
        → ((r >>= λ others. Ok (step ∷ others)) >>= λ steps. Ok (so_far >>= after_all steps)) ≡ (r >>= λ steps. Ok (followed so_far step >>= after_all steps))
    joined (Ok others) same = ap Ok (same others)
    joined (Err e) same = refl

pub moves-fail : (so_far : Result Turning CifKind) (c : ℕ) (cs : List ℕ) (e : Misfit) → step_of c cs ≡ Err e → moves_from so_far (c ∷ cs) ≡ Err e
unfolding steps_of
moves-fail so_far c cs e is = rw is refl

pub moves-end : (so_far : Result Turning CifKind) → moves_from so_far [] ≡ Ok so_far
unfolding steps_of
moves-end (Ok t) = refl
moves-end (Err kind) = refl

pub within-more : (a b : ℕ) (r : Result Turning CifKind) → a ≤ b → IfOk r (IsWithin a) → IfOk r (IsWithin b)
within-more a b (Ok t) le h = record { across = omega (arith, h.across); up = omega (arith, h.up) }
within-more a b (Err kind) le h = tt

-- the form of a call, by what its steps do together
pub call-moves : (body : List ℕ) → call_form body ≡ call_by_moves body
unfolding call_form
call-moves body = numbered (natural (skip is_separator body))
  where
    joined : (n : ℕ) (r : Result (List Step) Misfit)
        → (r >>= λ steps. Ok (after_all steps at_rest >>= call_of n)) ≡ ((r >>= λ steps. Ok (after_all steps at_rest)) >>= λ whole. Ok (whole >>= call_of n))
    joined n (Ok steps) = refl
    joined n (Err e) = refl

    numbered : (r : Result (ℕ × List ℕ) Misfit)
        → (r >>= λ n. steps_of (length n.1) (skip is_blank n.1) >>= λ steps. Ok (after_all steps at_rest >>= call_of n.0))
        ≡ (r >>= λ n. moves_of (skip is_blank n.1) >>= λ whole. Ok (whole >>= call_of n.0))
    numbered (Ok n) =
        let less = span-rest is_blank n.1 in
        let same = steps-enough (length n.1) (length (skip is_blank n.1)) (skip is_blank n.1) less (omega arith) in
        rw same (joined n.0 (steps_of (length (skip is_blank n.1)) (skip is_blank n.1)))
    numbered (Err e) = refl
