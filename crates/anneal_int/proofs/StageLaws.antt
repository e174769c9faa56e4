use Rattle.std.proofs.Common.{◌≡◌, ℕ, ◌+◌, ◌*◌, ◌<◌, ◌≤◌, List, ◌++◌, length, Bool, true, false, refl, sym, ◌∙◌, ap, subst, add-one, arith}
use Rattle.std.proofs.Math.Nat.{mul-le-mul_right}
use Rattle.std.specs.Prelude.{fold, nat_le}
use Rattle.std.specs.List.{range_with_len}
use Rattle.std.specs.Bool.{OnFalse, OnTrue}
use Rattle.std.proofs.lemmas.List.Sums.{fold-append}
use Rattle.std.proofs.lemmas.Nat.{div-mul-add}
use Rattle.design_model.specs.Netlist.{Netlist}
use Rattle.row_board.specs.Cost.{cost_of}
use Rattle.row_board.specs.WeighedRows.{WeighedRows}
use Rattle.row_board.specs.Weights.{Weighing}
use Rattle.row_model.specs.declared.rows.Seat.{Seat}
use Rattle.anneal_int.specs.Annealed.{all_changes, after_change, after_change_at, after_changes, changed, judged, stage_changes}
use Rattle.anneal_int.specs.Changes.{chance_number, change_number}
use Rattle.anneal_int.specs.Schedule.{Annealing}
use Rattle.anneal_int.specs.Stages.{after_stage}
use Rattle.anneal_int.specs.Cooling.{cooler, temperature_of}
use Rattle.anneal_int.specs.Judging.{is_taken}
use Rattle.anneal_int.specs.declared.draws.Change.{Change}
use Rattle.std_laws.proofs.Ranges.{range-append, fold-more, fold-same}

-- a change is judged by making it where the cost rises by at most what is taken
pub judged_within : (old new : WeighedRows) (t chance most : ℕ) (change : Change) (made : Bool)
    → ((a b : ℕ) → is_taken t chance a b ≡ nat_le b (a + most))
    → made ≡ nat_le (cost_of old.design (changed change old.rows) old.weights) (cost_of old.design old.rows old.weights + most)
    → OnTrue made (new ≡ record old { rows = changed change old.rows }) → OnFalse made (new ≡ old)
    → new ≡ record old { rows = judged old.design old.weights t chance change old.rows }
unfolding judged
judged_within old new t chance most change true rise is done left =
    let taken : is_taken t chance (cost_of old.design old.rows old.weights) (cost_of old.design (changed change old.rows) old.weights) ≡ true = rise _ _ ∙ sym is in
    rw taken done
judged_within old new t chance most change false rise is done left =
    let taken : is_taken t chance (cost_of old.design old.rows old.weights) (cost_of old.design (changed change old.rows) old.weights) ≡ false = rise _ _ ∙ sym is in
    rw taken left

-- one more change of a stage
pub stage_more : (d : Netlist) (w : Weighing) (seed t : ℕ) (rows : List (List Seat)) (first n : ℕ)
    → after_stage d w seed t rows first (n + 1)
    ≡ judged d w t (chance_number seed (first + n)) (change_number seed (length d.instances) (first + n)) (after_stage d w seed t rows first n)
unfolding after_stage after_change_at
stage_more d w seed t rows first n = fold-more (after_change_at d w seed t) rows first n

pub stage_none : (d : Netlist) (w : Weighing) (seed t : ℕ) (rows : List (List Seat)) (first : ℕ) → after_stage d w seed t rows first 0 ≡ rows
unfolding after_stage
stage_none d w seed t rows first = refl

pub changes_none : (d : Netlist) (s : Annealing) (seed : ℕ) (rows : List (List Seat)) → after_changes d s seed rows 0 ≡ rows
unfolding after_changes
changes_none d s seed rows = refl

-- the changes of one more stage
pub changes_more : (d : Netlist) (s : Annealing) (seed : ℕ) (rows : List (List Seat)) (stage t : ℕ) → t ≡ temperature_of s.temperature stage
    → after_changes d s seed rows ((stage + 1) * stage_changes d s)
    ≡ after_stage d s.weights seed t (after_changes d s seed rows (stage * stage_changes d s)) (stage * stage_changes d s) (stage_changes d s)
unfolding after_changes after_stage after_change
changes_more d s seed rows stage t is =
    let n = stage_changes d s in
    let e : (stage + 1) * n ≡ stage * n + n = omega arith in
    let z : 0 + stage * n ≡ stage * n = omega arith in
    let before = fold (after_change d s seed) rows (range_with_len 0 (stage * n)) in
    let same = λ (y : List (List Seat)) (k : ℕ) (less : k < n). ap (λ (u : ℕ). after_change_at d s.weights seed u y (stage * n + k)) (ap (temperature_of s.temperature) (div-mul-add stage n k less) ∙ sym is) in
    ap (λ (k : ℕ). fold (after_change d s seed) rows (range_with_len 0 k)) e
    ∙ ap (λ (xs : List ℕ). fold (after_change d s seed) rows xs) (range-append 0 (stage * n) n)
    ∙ ap (λ (k : ℕ). fold (after_change d s seed) rows (range_with_len 0 (stage * n) ++ range_with_len k n)) z
    ∙ fold-append (after_change d s seed) rows (range_with_len 0 (stage * n)) (range_with_len (stage * n) n)
    ∙ fold-same (after_change d s seed) (after_change_at d s.weights seed t) before (stage * n) n same

pub temperature_more : (first stage : ℕ) → temperature_of first (stage + 1) ≡ cooler (temperature_of first stage)
unfolding temperature_of
temperature_more first stage = rw add-one refl

pub temperature_first : (first : ℕ) → temperature_of first 0 ≡ first
unfolding temperature_of
temperature_first first = refl

-- rows of a stage behind one more change that is drawn and judged
pub stage_step : (start before after : WeighedRows) (seed t first n drawn number instances chance : ℕ) (change : Change)
    → before ≡ record start { rows = after_stage start.design start.weights seed t start.rows first n }
    → drawn ≡ seed → number ≡ first + n → instances ≡ length start.design.instances
    → change ≡ change_number drawn instances number → chance ≡ chance_number drawn number
    → after ≡ record before { rows = judged before.design before.weights t chance change before.rows }
    → after ≡ record start { rows = after_stage start.design start.weights seed t start.rows first (n + 1) }
stage_step start before after seed t first n drawn number instances chance change was of_seed at of_all is_change is_chance judges =
    let rows = after_stage start.design start.weights seed t start.rows first n in
    let P : WeighedRows → Type 0 = λ (b : WeighedRows). after ≡ record b { rows = judged b.design b.weights t chance change b.rows } in
    let made : after ≡ record start { rows = judged start.design start.weights t chance change rows } = subst P was judges in
    let same_change : change ≡ change_number seed (length start.design.instances) (first + n) = cc in
    let same_chance : chance ≡ chance_number seed (first + n) = cc in
    let next : judged start.design start.weights t chance change rows ≡ after_stage start.design start.weights seed t start.rows first (n + 1) =
    ap (λ (c : Change). judged start.design start.weights t chance c rows) same_change
    ∙ ap (λ (k : ℕ). judged start.design start.weights t k (change_number seed (length start.design.instances) (first + n)) rows) same_chance
    ∙ sym (stage_more start.design start.weights seed t start.rows first n) in
    made ∙ ap (λ (r : List (List Seat)). record start { rows = r }) next

-- rows behind one more stage
pub run_step : (start before after : WeighedRows) (d : Netlist) (s : Annealing) (seed stage t drawn number n : ℕ)
    → start.design ≡ d → start.weights ≡ s.weights
    → before ≡ record start { rows = after_changes d s seed start.rows (stage * stage_changes d s) }
    → drawn ≡ seed → number ≡ stage * stage_changes d s → n ≡ stage_changes d s → t ≡ temperature_of s.temperature stage
    → after ≡ record before { rows = after_stage before.design before.weights drawn t before.rows number n }
    → after ≡ record start { rows = after_changes d s seed start.rows ((stage + 1) * stage_changes d s) }
run_step start before after d s seed stage t drawn number n of_design of_weights was of_seed at all is_temperature stages =
    let rows = after_changes d s seed start.rows (stage * stage_changes d s) in
    let P : WeighedRows → Type 0 = λ (b : WeighedRows). after ≡ record b { rows = after_stage b.design b.weights drawn t b.rows number n } in
    let made : after ≡ record start { rows = after_stage start.design start.weights drawn t rows number n } = subst P was stages in
    let same : after_stage start.design start.weights drawn t rows number n ≡ after_stage d s.weights seed t rows (stage * stage_changes d s) (stage_changes d s) = cc in
    made ∙ ap (λ (r : List (List Seat)). record start { rows = r }) (same ∙ sym (changes_more d s seed start.rows stage t is_temperature))

-- the changes of one more stage are among all
pub stage_few : (d : Netlist) (s : Annealing) (stage limit : ℕ) → stage < s.stages → all_changes d s ≤ limit → stage * stage_changes d s + stage_changes d s ≤ limit
unfolding all_changes
stage_few d s stage limit less few =
    let n = stage_changes d s in
    let more : stage + 1 ≤ s.stages = omega arith in
    let under : (stage + 1) * n ≤ s.stages * n = mul-le-mul_right n more in
    let both : (stage + 1) * n ≡ stage * n + n = omega arith in
    omega arith

-- all stages have all changes
pub stages_all : (d : Netlist) (s : Annealing) (stage : ℕ) → stage ≡ s.stages → stage * stage_changes d s ≡ all_changes d s
unfolding all_changes
stages_all d s stage all = ap (λ (n : ℕ). n * stage_changes d s) all
