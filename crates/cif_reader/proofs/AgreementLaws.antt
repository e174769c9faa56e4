use Rattle.std.proofs.Common.{◌≡◌, refl, ap, sym, subst, ℕ, suc, ℤ, ◌+◌, List, [], ◌∷◌, length, Option, Some, None, Result, Ok, Err}
use Rattle.std.specs.Prelude.{if◌then◌else◌, unwrap_or, Bool, true, false, nat_lt}
use Rattle.geom_core.specs.declared.layout.Layout.{Layout}
use Rattle.cif_text.specs.declared.command.CifCommand.{CifCommand}
use Rattle.cif_text.specs.declared.command.CifCommand.TheVariants as commands
use Rattle.read_base.specs.Steps.{◌>>=◌}
use Rattle.cif_text.specs.Symbols.{Symbol, Level, State}
use Rattle.cif_text.specs.Meaning.{Unmeant, undefined, twice, inexact, no_layer, no_symbol_name, at_command, step, run, layout_of, meaning}
use Rattle.cif_reader.specs.declared.fault.ExpandKind.{ExpandKind}
use Rattle.cif_reader.specs.declared.fault.ExpandKind.TheVariants as kinds
use Rattle.cif_reader.specs.Limits.{first_far, numbers_of, more_than_most, far_or_many, limit_passed, most_corners, long_by, either_limit, most_shapes, deepest, depth_given, shapes_given}
use Rattle.cif_reader.specs.Expansion.{Progress, present_level, within, depth_by, progress_to, advance, refused_at, progress, at_first, expansion}
use Rattle.cif_reader.proofs.Agreement.{Agrees}

-- the refusals that are limits
abbrev IsLimit : Option ExpandKind → Type 0
IsLimit (Some (kinds.TooFar v)) = Unit {0}
IsLimit (Some kinds.LongPath) = Unit {0}
IsLimit (Some kinds.TooMany) = Unit {0}
IsLimit (Some kinds.TooDeep) = Unit {0}
IsLimit (Some other) = ⊥
IsLimit None = Unit {0}

many-limit : (b : Bool) → IsLimit (if b then Some kinds.TooMany else None)
many-limit true = tt
many-limit false = tt

deep-limit : (b : Bool) → IsLimit (if b then Some kinds.TooDeep else None)
deep-limit true = tt
deep-limit false = tt

far-limit : (far : Option ℤ) (many : Option ExpandKind) → IsLimit many → IsLimit (far_or_many far many)
far-limit (Some v) many h = tt
far-limit None many h = h

long-limit : (c : CifCommand) → IsLimit (long_by c)
long-limit (commands.Polygon path) = by (nat_lt most_corners (length path))
  where
    by : (b : Bool) → IsLimit (if b then Some kinds.LongPath else None)
    by true = tt
    by false = tt
long-limit c = tt

either-is : (long many : Option ExpandKind) → IsLimit long → IsLimit many → IsLimit (either_limit long many)
either-is (Some kind) many first second = first
either-is None many first second = second

passed-limit : (symbols : List Symbol) (l : Level) (c : CifCommand) → IsLimit (limit_passed symbols l c)
passed-limit symbols l c =
    far-limit (first_far (numbers_of symbols l c)) (either_limit (long_by c) (more_than_most (length l.shapes) (shapes_given symbols l c)))
    (either-is (long_by c) (more_than_most (length l.shapes) (shapes_given symbols l c)) (long-limit c)
    (many-limit (nat_lt most_shapes (length l.shapes + shapes_given symbols l c))))

-- a limit comes first
limit-agrees : {A B : Type 0} (view : A → B) (i : ℕ) (limit : Option ExpandKind) (kind : ExpandKind) (meant : Result B (Unmeant × ℕ)) → IsLimit limit
    → Agrees view (Err (kind, i)) meant → Agrees view (Err (unwrap_or limit kind, i)) meant
limit-agrees view i (Some (kinds.TooFar v)) kind meant h more = tt
limit-agrees view i (Some kinds.LongPath) kind meant h more = tt
limit-agrees view i (Some kinds.TooMany) kind meant h more = tt
limit-agrees view i (Some kinds.TooDeep) kind meant h more = tt
limit-agrees view i (Some other) kind meant h more = absurd h
limit-agrees view i None kind meant h more = more

abbrev state_of : Progress → State
state_of p = p.state

pub progress-state : (p : Progress) (c : CifCommand) (t : State) (depth : ℕ) → (progress_to p c t depth).state ≡ t
progress-state p (commands.Start n a b) t depth = refl
progress-state p commands.Finish t depth = refl
progress-state p c t depth = refl

-- a command that is not too deep
deep-agrees : (i : ℕ) (p : Progress) (c : CifCommand) (t : State) → Agrees state_of (refused_at i (depth_by p.state.symbols p.depths c >>= λ d. Ok (progress_to p c t d))) (Ok t)
deep-agrees i p c t = by (nat_lt deepest (depth_given p.state.symbols p.depths c))
  where
    by : (b : Bool) → Agrees state_of (refused_at i ((if b then Err kinds.TooDeep else Ok (depth_given p.state.symbols p.depths c)) >>= λ d. Ok (progress_to p c t d))) (Ok t)
    by true = tt
    by false = ap Ok (sym (progress-state p c t (depth_given p.state.symbols p.depths c)))

-- one command
within-agrees : (i : ℕ) (p : Progress) (c : CifCommand) (limit : Option ExpandKind) (meant : Result State Unmeant) → IsLimit limit
    → Agrees state_of (refused_at i (within limit meant >>= λ t. depth_by p.state.symbols p.depths c >>= λ d. Ok (progress_to p c t d))) (at_command i meant)
within-agrees i p c limit (Err (undefined n)) h = refl
within-agrees i p c limit (Err (twice n)) h = refl
within-agrees i p c limit (Err inexact) h = refl
within-agrees i p c limit (Err no_layer) h = limit-agrees state_of i limit kinds.NoLayer (Err (no_layer, i)) h refl
within-agrees i p c limit (Err no_symbol_name) h = limit-agrees state_of i limit kinds.NoSymbolName (Err (no_symbol_name, i)) h refl
within-agrees i p c None (Ok t) h = deep-agrees i p c t
within-agrees i p c (Some kind) (Ok t) h = limit-itself kind h
  where
    limit-itself : (kind : ExpandKind) → IsLimit (Some kind) → Agrees state_of (refused_at i (Err kind)) (Ok t)
    limit-itself (kinds.TooFar v) h = tt
    limit-itself kinds.LongPath h = tt
    limit-itself kinds.TooMany h = tt
    limit-itself kinds.TooDeep h = tt
    limit-itself other h = absurd h

-- one step after another
next-agrees : {A B x y : Type 0} (view : A → x) (seen : B → y) (r : Result A (ExpandKind × ℕ)) (meant : Result x (Unmeant × ℕ))
    → (f : A → Result B (ExpandKind × ℕ)) (g : x → Result y (Unmeant × ℕ)) → Agrees view r meant → ((a : A) → Agrees seen (f a) (g (view a)))
    → Agrees seen (r >>= f) (meant >>= g)
next-agrees view seen (Ok a) meant f g h more = rw h (more a)
next-agrees view seen (Err (kinds.Undefined n, i)) meant f g h more = rw h refl
next-agrees view seen (Err (kinds.Twice n, i)) meant f g h more = rw h refl
next-agrees view seen (Err (kinds.Inexact, i)) meant f g h more = rw h refl
next-agrees view seen (Err (kinds.NoLayer, i)) meant f g h more = rw h refl
next-agrees view seen (Err (kinds.NoSymbolName, i)) meant f g h more = rw h refl
next-agrees view seen (Err (kinds.TooFar v, i)) meant f g h more = tt
next-agrees view seen (Err (kinds.LongPath, i)) meant f g h more = tt
next-agrees view seen (Err (kinds.TooMany, i)) meant f g h more = tt
next-agrees view seen (Err (kinds.TooDeep, i)) meant f g h more = tt

progress-agrees : (i : ℕ) (p : Progress) (cs : List CifCommand) → Agrees state_of (progress i p cs) (run i p.state cs)
unfolding progress run advance
progress-agrees i p [] = refl
progress-agrees i p (c ∷ cs) =
    next-agrees state_of state_of (refused_at i (advance p c)) (at_command i (step p.state c)) (λ q. progress (suc i) q cs) (λ t. run (suc i) t cs)
    (within-agrees i p c (limit_passed p.state.symbols (present_level p.state p.state.inside) c) (step p.state c)
    (passed-limit p.state.symbols (present_level p.state p.state.inside) c)) (λ q. progress-agrees (suc i) q cs)

-- what commands give is what they mean, where no limit is passed
pub expansion-agrees : (cs : List CifCommand) → Agrees (λ (l : Layout). l) (expansion cs) (meaning cs)
unfolding expansion meaning
expansion-agrees cs =
    next-agrees state_of (λ (l : Layout). l) (progress 0 at_first cs) (run 0 at_first.state cs) (λ p. Ok (layout_of p.state.main)) (λ s. Ok (layout_of s.main))
    (progress-agrees 0 at_first cs) (λ p. refl)

-- a layout that they give is what they mean
pub expansion-means : (cs : List CifCommand) (l : Layout) → expansion cs ≡ Ok l → meaning cs ≡ Ok l
expansion-means cs l is = subst (λ e. Agrees (λ (m : Layout). m) e (meaning cs)) is (expansion-agrees cs)
