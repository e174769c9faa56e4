use Rattle.std.proofs.Common.{◌≡◌, ◌≤◌, ◌∙◌, ℕ, suc, ◌+◌, Bool, true, false, if◌then◌else◌, List, Option, Ok, None, ap, ap₂, add-one, refl, subst, sym}
use Rattle.command_ends.specs.Refusing.{unless}
use Rattle.feed_cells.specs.Fed.{Fed, fed_rows}
use Rattle.pin_assign.specs.Bounds.{bound_of}
use Rattle.placement_tries.proofs.FirstLeast.{first-least-of}
use Rattle.placement_tries.specs.Taking.{IsFirstLeast, first_least, is_less}
use Rattle.port_rows.specs.declared.designs.Designs.{Designs}
use Rattle.row_model.specs.declared.rows.Seat.{Seat}
use Rattle.tech_rules.specs.Rules.{RuleValues}
use Rattle.command_jobs.specs.Job.{Job}
use Rattle.command_jobs.specs.Limits.{moves_refusal, size_refusal, within_limits}
use Rattle.command_jobs.specs.Placed.{IsPlacedAs}
use Rattle.command_jobs.specs.Rows.{rows_of}
use Rattle.command_jobs.specs.Text.{rows_with_feeds}
use Rattle.command_jobs.specs.Tries.{estimate_for, taken_try, try_of}
use Rattle.command_jobs.specs.declared.trying.Tried.{Tried}
use Rattle.command_words.specs.declared.command.Wanted.{Wanted}

-- the rows of a job with feeds
pub fed-rows : (job : Job) (seats : List (List Seat)) (fed : Fed) → seats ≡ rows_of job → fed ≡ fed_rows job.drawn.design seats → fed ≡ rows_with_feeds job
unfolding rows_with_feeds
fed-rows job seats fed are is = is ∙ ap (fed_rows job.drawn.design) are

-- a job whose changes are not refused is within the limits unless its layout is refused
pub layout-left : (job : Job) (fed : Fed) → fed ≡ rows_with_feeds job → moves_refusal job.rules job.placed job.tries ≡ None
    → within_limits job ≡ unless (size_refusal (bound_of job.rules job.drawn.design fed)) (Ok job)
unfolding within_limits
layout-left job fed is moves = rw (moves, is) refl

-- the estimates of tries
abbrev pub estimates : RuleValues → Designs → Wanted → ℕ → Option ℕ
estimates r ds w number = estimate_for (try_of r ds w number)

-- the placement of a try, with its estimate
pub record IsTried (r : RuleValues) (ds : Designs) (w : Wanted) (number : ℕ) (t : Tried) : Type 0 where
  pub placed : IsPlacedAs (try_of r ds w number) t.placed
  pub estimate : t.estimate ≡ estimates r ds w number

either : (less : Bool) (n : ℕ) → (if less then n else n) ≡ n
either true n = refl
either false n = refl

one-least : (estimate : ℕ → Option ℕ) → first_least estimate 1 ≡ 0
one-least estimate = either (is_less (estimate 0) (estimate 0)) 0

-- of one try it is the one
pub first-tried : (r : RuleValues) (ds : Designs) (w : Wanted) (t : Tried) → IsTried r ds w 0 t → IsTried r ds w (first_least (estimates r ds w) 1) t
first-tried r ds w t tried = subst (λ (number : ℕ). IsTried r ds w number t) (sym (one-least (estimates r ds w))) tried

pub alone : (r : RuleValues) (ds : Designs) (w : Wanted) → w.tries ≡ 1 → taken_try r ds w ≡ 0
unfolding taken_try
alone r ds w one = ap (first_least (estimates r ds w)) one ∙ one-least (estimates r ds w)

-- and with one more the better of that and the one so far
pub more-tried : (r : RuleValues) (ds : Designs) (w : Wanted) (n : ℕ) (best other t : Tried) → IsTried r ds w (first_least (estimates r ds w) n) best → IsTried r ds w n other
    → t ≡ (if is_less other.estimate best.estimate then other else best) → IsTried r ds w (first_least (estimates r ds w) (n + 1)) t
more-tried r ds w n best other t so_far here is =
    rw add-one (subst (IsTried r ds w (first_least (estimates r ds w) (suc n))) (sym (is ∙ same)) (by (is_less (estimates r ds w n) (estimates r ds w (first_least (estimates r ds w) n)))))
  where
    same : (if is_less other.estimate best.estimate then other else best)
        ≡ (if is_less (estimates r ds w n) (estimates r ds w (first_least (estimates r ds w) n)) then other else best)
    same = ap₂ (λ (x y : Option ℕ). if is_less x y then other else best) here.estimate so_far.estimate

    by : (less : Bool) → IsTried r ds w (if less then n else first_least (estimates r ds w) n) (if less then other else best)
    by true = here
    by false = so_far

-- the job's placement is that of the try that is taken
pub taken-placed : (r : RuleValues) (ds : Designs) (w : Wanted) (n : ℕ) (t : Tried) → n ≡ w.tries → IsTried r ds w (first_least (estimates r ds w) n) t
    → IsPlacedAs (try_of r ds w (taken_try r ds w)) t.placed
unfolding taken_try
taken-placed r ds w n t all tried = (subst (λ (m : ℕ). IsTried r ds w (first_least (estimates r ds w) m) t) all tried).placed

-- the try that is taken is the first of least estimate
pub taken-first : (r : RuleValues) (ds : Designs) (w : Wanted) → 1 ≤ w.tries → IsFirstLeast (estimates r ds w) w.tries (taken_try r ds w)
unfolding taken_try
taken-first r ds w some = first-least-of (estimates r ds w) w.tries some
