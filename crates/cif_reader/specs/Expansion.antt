-- the layout that commands give, or the first refusal
use Rattle.std.specs.Prelude.{if◌then◌else◌, ℕ, suc, max, nat_lt, List, [], ◌∷◌, ◌++◌, Option, Some, None, unwrap_or, Result, Ok, Err}
use Rattle.geom_core.specs.declared.layout.Layout.{Layout}
use Rattle.cif_text.specs.declared.command.CifCommand.{CifCommand}
use Rattle.cif_text.specs.declared.command.CifCommand.TheVariants as commands
use Rattle.read_base.specs.Steps.{◌>>=◌}
use Rattle.cif_text.specs.Symbols.{Symbol, Level, Definition, State}
use Rattle.cif_text.specs.Meaning.{Unmeant, undefined, twice, inexact, no_layer, no_symbol_name, step, nothing, layout_of}
use Rattle.cif_reader.specs.declared.fault.ExpandKind.{ExpandKind}
use Rattle.cif_reader.specs.declared.fault.ExpandKind.TheVariants as kinds
use Rattle.cif_reader.specs.Limits.{deepest, limit_passed, depth_given}

-- what stands behind some commands: their state, the depths of the symbols, in their order, and the depth so far of the definition that
-- is open
pub record Progress : Type 0 where
  pub state : State
  pub depths : List ℕ
  pub depth : ℕ

-- the level in which a command stands
abbrev pub present_level : State → Option Definition → Level
present_level s None = s.main.level
present_level s (Some d) = d.level

abbrev pub unless_refused : {A : Type 0} → Option ExpandKind → Result A ExpandKind → Result A ExpandKind
unless_refused (Some kind) more = Err kind
unless_refused None more = more

-- why a command without a meaning is refused: of its refusals, with the limit that it passes, the first in their order
abbrev pub refusal : Option ExpandKind → Unmeant → ExpandKind
refusal limit (undefined n) = kinds.Undefined n
refusal limit (twice n) = kinds.Twice n
refusal limit inexact = kinds.Inexact
refusal limit no_layer = unwrap_or limit kinds.NoLayer
refusal limit no_symbol_name = unwrap_or limit kinds.NoSymbolName

-- what a command gives that passes a limit or none, by what it means
abbrev pub within : {A : Type 0} → Option ExpandKind → Result A Unmeant → Result A ExpandKind
within limit (Err fault) = Err (refusal limit fault)
within limit (Ok x) = unless_refused limit (Ok x)

-- the depth that a command gives its level
abbrev pub depth_by : List Symbol → List ℕ → CifCommand → Result ℕ ExpandKind
depth_by symbols depths c = if nat_lt deepest (depth_given symbols depths c) then Err kinds.TooDeep else Ok (depth_given symbols depths c)

-- the depths behind a command that gives its level this depth
abbrev pub progress_to : Progress → CifCommand → State → ℕ → Progress
progress_to p (commands.Start n a b) t depth = record { state = t; depths = p.depths; depth = 1 }
progress_to p commands.Finish t depth = record { state = t; depths = p.depths ++ (p.depth ∷ []); depth = p.depth }
progress_to p c t depth = record { state = t; depths = p.depths; depth = max p.depth depth }

unfoldable pub advance : Progress → CifCommand → Result Progress ExpandKind
advance p c = do
  t ← within (limit_passed p.state.symbols (present_level p.state p.state.inside) c) (step p.state c)
  depth ← depth_by p.state.symbols p.depths c
  Ok (progress_to p c t depth)

-- a refusal of the command of this number
abbrev pub refused_at : {A : Type 0} → ℕ → Result A ExpandKind → Result A (ExpandKind × ℕ)
refused_at i (Ok x) = Ok x
refused_at i (Err kind) = Err (kind, i)

-- what stands behind some commands, of which the first has this number
unfoldable pub progress : ℕ → Progress → List CifCommand → Result Progress (ExpandKind × ℕ)
progress i p [] = Ok p
progress i p (c ∷ cs) = refused_at i (advance p c) >>= λ q. progress (suc i) q cs

abbrev pub at_first : Progress
at_first = record { state = nothing; depths = []; depth = 1 }

-- the layout that commands give, or the first refusal and the number of its command
unfoldable pub expansion : List CifCommand → Result Layout (ExpandKind × ℕ)
expansion cs = progress 0 at_first cs >>= λ p. Ok (layout_of p.state.main)
