use Rattle.cif_text.specs.declared.command.CifCommand.TheVariants as commands
use Rattle.std.proofs.Common.{◌≡◌, refl, ap, sym, ℕ, ℤ, List, [], Bool, Option, Some, None, Ok, Err}
use Rattle.std.specs.Prelude.{is_some, option_map}
use Rattle.geom_core.specs.declared.layout.Shape.{Shape}
use Rattle.cif_text.specs.declared.command.CifCommand.{CifCommand}
use Rattle.cif_reader.specs.declared.fault.ExpandKind.{ExpandKind}
use Rattle.cif_reader.specs.Expansion.{Progress}
use Rattle.cif_reader.specs.Levels.{given}
use Rattle.cif_reader.specs.Standing.{definition_seen, level_seen}
use Rattle.cif_reader.specs.declared.inside.Open.{Open}
use Rattle.cif_reader.specs.declared.outside.Main.{Main}
use Rattle.cif_reader.specs.declared.scales.Scale.{Scale}
use Rattle.cif_reader.specs.declared.standing.Standing.{Standing}
use Rattle.cif_reader.specs.Behind.{depth_seen, seen}
use Rattle.cif_reader.specs.Expanders.{at_scale, called_shapes, shapes_or_none, with_waiting}

-- the depth so far does not ask how the main level draws
same-depth : (m n : Main) (o : Option Open) → m.depth ≡ n.depth → depth_seen m o ≡ depth_seen n o
same-depth m n None same = same
same-depth m n (Some d) same = refl

-- the main level at another scale
pub scaled : (s : Standing) (scale : Scale) → seen (record s { main = record s.main { pen = record s.main.pen { scale = scale } } }) ≡ at_scale scale.a scale.b (seen s)
unfolding seen
scaled s scale = rw (same-depth (record s.main { pen = record s.main.pen { scale = scale } }) s.main s.definition refl) refl

-- another name that waits
pub waits : (s : Standing) (name : Option (List ℕ)) → seen (record s { main = record s.main { waiting = name } }) ≡ with_waiting name (seen s)
unfolding seen
waits s name = rw (same-depth (record s.main { waiting = name }) s.main s.definition refl) refl

same-open : {A B : Type 0} (f : A → B) (o : Option A) → is_some (option_map f o) ≡ is_some o
same-open f None = refl
same-open f (Some x) = refl

-- a definition is open where one is kept
pub is-open : (s : Standing) → is_some (seen s).state.inside ≡ is_some s.definition
unfolding seen
is-open s = same-open (definition_seen s.table.symbols) s.definition

-- what a call gives the main level, or nothing where it is refused
pub called-some : (s : Standing) (p : Progress) (c : CifCommand) (n : ℕ) (flip : Bool) (quarters : ℕ) (dx dy : ℤ) (shapes : List Shape) → seen s ≡ p
    → c ≡ commands.Call n flip quarters dx dy → given s.table.symbols (level_seen s.main.pen s.main.shapes.items) c ≡ Ok shapes → shapes ≡ called_shapes p.state c
unfolding seen
called-some s p c n flip quarters dx dy shapes same call gives = rw (sym same, call) (ap shapes_or_none (sym (rw call at gives)))

pub called-none : (s : Standing) (p : Progress) (c : CifCommand) (n : ℕ) (flip : Bool) (quarters : ℕ) (dx dy : ℤ) (kind : ExpandKind) → seen s ≡ p
    → c ≡ commands.Call n flip quarters dx dy → given s.table.symbols (level_seen s.main.pen s.main.shapes.items) c ≡ Err kind → [] ≡ called_shapes p.state c
unfolding seen
called-none s p c n flip quarters dx dy kind same call gives = rw (sym same, call) (ap shapes_or_none (sym (rw call at gives)))
