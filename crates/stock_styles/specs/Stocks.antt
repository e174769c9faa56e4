-- the name of each style, what it may choose, and the sweeps that it tries
use Rattle.std.specs.Prelude.{◌≡◌, ◌+◌, ℕ, List, [], ◌∷◌, codes, length}
use Rattle.choose_core.specs.Styles.{IsDeft, IsFirstLeast, IsLean, gap_of}
use Rattle.choose_core.specs.declared.candidate.Candidate.{Candidate}
use Rattle.choose_core.specs.declared.plan.Manner.TheVariants.{LookingAhead, Published}
use Rattle.choose_core.specs.declared.plan.Plan.{Plan}
use Rattle.stock_styles.specs.declared.stock.Stock.{Stock}
use Rattle.stock_styles.specs.declared.stock.Stock.TheVariants.{Best, Deft, Near, Lean, High}

-- the bytes of its name
abbrev pub name_of : Stock → List ℕ
name_of Best = codes "best"
name_of Deft = codes "deft"
name_of Near = codes "near"
name_of Lean = codes "lean"
name_of High = codes "high"

-- the places in a list of candidates that it may choose
abbrev pub MayChoose : Stock → List Candidate → ℕ → Type 0
MayChoose Best list place = IsDeft list place
MayChoose Deft list place = IsDeft list place
MayChoose Near list place = IsFirstLeast gap_of list place
MayChoose Lean list place = IsLean list place
MayChoose High list place = place + 1 ≡ length list

-- one sweep as it was published, without free tracks at first
abbrev pub published : Plan
published = record { manner = Published; first = 0; others = [] }

-- the sweeps that it tries
abbrev pub plan_of : Stock → Plan
plan_of Best = record { manner = LookingAhead; first = 100; others = 110 ∷ (120 ∷ (0 ∷ [])) }
plan_of Deft = record { manner = LookingAhead; first = 100; others = [] }
plan_of Near = published
plan_of Lean = published
plan_of High = published
