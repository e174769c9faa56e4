use Rattle.std.proofs.Common.{◌≡◌, ◌<◌, ◌≤◌, ◌+◌, ◌∙◌, ℕ, List, Some, length, ap, sym, subst, refl, inl, inr, arith}
use Rattle.std.specs.Prelude.{slice_index}
use Rattle.std.specs.List.{IsDistinct, slice_get}
use Rattle.std.specs.Str.{bytes_eq}
use Rattle.std.proofs.lemmas.Option.{slice_get_within}
use Rattle.geom_core.specs.declared.layout.Layout.{Layout}
use Rattle.tech_rules.specs.Rules.{RuleValues}
use Rattle.design_model.specs.CellsMatch.{CellsMatch, cell_names}
use Rattle.design_model.specs.Joined.{Draws}
use Rattle.design_model.specs.Netlist.{IsNetlist, Netlist}
use Rattle.design_model.specs.declared.design.Inst.{Inst}
use Rattle.design_model.specs.declared.design.Position.{Position}
use Rattle.geom_extract.specs.CellTies.{first_place, positions_at, starts_of, ties_among}
use Rattle.geom_extract.proofs.Ties.{AreTies, DrawOne}
use Rattle.geom_extract.specs.Touching.{Connected}
use Rattle.geom_extract.specs.Touching.Beside.{tied}
use Rattle.geom_extract.specs.Touching.Connected.{here, step}
use Rattle.geom_extract.proofs.Chains.{connected-back, connected-more}
use Rattle.geom_extract.proofs.FirstPlaces.{IsFirst, any-of, first-there}
use Rattle.geom_extract.proofs.PinPlaces.{IsOfKind, of-kind, positions-are}
use Rattle.geom_extract.proofs.Standing.{Stands, cells-different, name-among, one-cell, stands, start-read, start-room}
use Rattle.geom_extract.proofs.TieLists.{IsTie, among-ties, in-ties, tie-among}

-- the ties in all cells
abbrev pub whole : Netlist → Layout → List (ℕ × ℕ)
whole d l = ties_among d (starts_of l d) (length d.instances)

module _ (r : RuleValues) (d : Netlist) (l : Layout) (good : IsNetlist d) (cells : CellsMatch r d l) where
  different : IsDistinct bytes_eq (cell_names l)
  different = cells-different d l good cells.names

  -- the cell of an instance stands where the table says
  pub inst-stands : (n : ℕ) (i : Inst) → slice_get d.instances n ≡ Some i → Stands l i.name (slice_index (starts_of l d) n)
  inst-stands n i is = subst (Stands l i.name) (sym (start-read d l n i is)) (stands l i.name (name-among d l n i cells.names is))

  -- a position of an instance's kind is drawn by the shape with its place behind the cell's start
  pub place-drawn : (n place : ℕ) (of : IsOfKind d n) (p : Position) → slice_get of.kind.positions place ≡ Some p
      → Draws d l (inst-stands n of.inst of.is_instance).cell n p.terminal (slice_index (starts_of l d) n + place)
  place-drawn n place of p is =
      let at : Stands l of.inst.name (slice_index (starts_of l d) n) = inst-stands n of.inst of.is_instance in
      record {
        copy = at.copy;
        inst = of.inst;
        kind = of.kind;
        place = place;
        position = p;
        is_cell = at.is_cell;
        is_instance = of.is_instance;
        named = at.named;
        is_kind = of.is_kind;
        is_position = is;
        of_terminal = refl;
        number = ap (λ (k : ℕ). k + place) at.starts;
      }

  -- what is drawn stands there
  pub drawn-place : (cell n terminal x : ℕ) (drawn : Draws d l cell n terminal x) → x ≡ slice_index (starts_of l d) n + drawn.place
  drawn-place cell n terminal x drawn =
      let at : Stands l drawn.inst.name (slice_index (starts_of l d) n) = inst-stands n drawn.inst drawn.is_instance in
      let start : slice_index (starts_of l d) n ≡ drawn.copy.first + 1 =
      one-cell l drawn.inst.name (slice_index (starts_of l d) n) cell drawn.copy different at drawn.is_cell drawn.named in
      drawn.number ∙ ap (λ (k : ℕ). k + drawn.place) (sym start)

  -- it is connected with the first of its terminal
  pub drawn-first : (cell n terminal x : ℕ) → Draws d l cell n terminal x
      → Connected r l.shapes (whole d l) (slice_index (starts_of l d) n + first_place (positions_at d n) terminal) x
  drawn-first cell n terminal x drawn =
      let start : ℕ = slice_index (starts_of l d) n in
      let at : x ≡ start + drawn.place = drawn-place cell n terminal x drawn in
      let same : positions_at d n ≡ drawn.kind.positions = positions-are d n drawn.inst drawn.kind drawn.is_instance drawn.is_kind in
      let there : slice_get (positions_at d n) drawn.place ≡ Some drawn.position =
      ap (λ (ps : List Position). slice_get ps drawn.place) same ∙ drawn.is_position in
      let below : n < length d.instances = slice_get_within d.instances n drawn.inst drawn.is_instance in
      let within : drawn.place < length (positions_at d n) = slice_get_within (positions_at d n) drawn.place drawn.position there in
      subst (λ (t : ℕ). Connected r l.shapes (whole d l) (start + first_place (positions_at d n) t) x) drawn.of_terminal
      (subst (λ (y : ℕ). Connected r l.shapes (whole d l) (start + first_place (positions_at d n) drawn.position.terminal) y) (sym at)
      (elim (in-ties start (positions_at d n) (length (positions_at d n)) drawn.place drawn.position within there) [
        | inl first ↦
            subst (λ (k : ℕ). Connected r l.shapes (whole d l) (start + first_place (positions_at d n) drawn.position.terminal) (start + k)) first here
        | inr among ↦ step (start + drawn.place) here (tied (among-ties d (starts_of l d) (length d.instances) n
            (start + first_place (positions_at d n) drawn.position.terminal, start + drawn.place) below among))
      ]))

  tie-drawn : (i j n : ℕ) → n < length d.instances → IsTie (slice_index (starts_of l d) n) (positions_at d n) (i, j) → DrawOne d l i j
  tie-drawn i j n below tie =
      let of : IsOfKind d n = of-kind d n good below in
      let same : positions_at d n ≡ of.kind.positions = positions-are d n of.inst of.kind of.is_instance of.is_kind in
      let first : IsFirst (positions_at d n) tie.position.terminal =
      first-there (positions_at d n) tie.position.terminal (any-of (positions_at d n) tie.place tie.position.terminal tie.position tie.is refl) in
      let at_first : slice_get of.kind.positions (first_place (positions_at d n) tie.position.terminal) ≡ Some first.position =
      ap (λ (ps : List Position). slice_get ps (first_place (positions_at d n) tie.position.terminal)) (sym same) ∙ first.is in
      let at_place : slice_get of.kind.positions tie.place ≡ Some tie.position = ap (λ (ps : List Position). slice_get ps tie.place) (sym same) ∙ tie.is in
      let cell : ℕ = (inst-stands n of.inst of.is_instance).cell in
      let one : Draws d l cell n first.position.terminal (slice_index (starts_of l d) n + first_place (positions_at d n) tie.position.terminal) =
      place-drawn n (first_place (positions_at d n) tie.position.terminal) of first.position at_first in
      let two : Draws d l cell n tie.position.terminal (slice_index (starts_of l d) n + tie.place) = place-drawn n tie.place of tie.position at_place in
      let left : Draws d l cell n tie.position.terminal (slice_index (starts_of l d) n + first_place (positions_at d n) tie.position.terminal) =
      subst (λ (t : ℕ). Draws d l cell n t (slice_index (starts_of l d) n + first_place (positions_at d n) tie.position.terminal)) first.of_terminal one in
      record {
        cell = cell;
        instance = n;
        terminal = tie.position.terminal;
        first = subst (λ (x : ℕ). Draws d l cell n tie.position.terminal x) (sym tie.first) left;
        second = subst (λ (x : ℕ). Draws d l cell n tie.position.terminal x) (sym tie.second) two;
      }

  -- the ties in all cells are those of the layout
  pub are-ties : AreTies r d l (whole d l)
  are-ties = record {
    each = λ i j among.
        let found = tie-among d (starts_of l d) (length d.instances) (i, j) among in
        tie-drawn i j found.0 found.1 found.2;
    all = λ i j one.
        let first = drawn-first one.cell one.instance one.terminal i one.first in
        let second = drawn-first one.cell one.instance one.terminal j one.second in
        connected-more r l.shapes (whole d l) i _ j (connected-back r l.shapes (whole d l) _ i first) second;
  }

  -- a layout has the shapes of the positions of an instance
  pub inst-room : (n : ℕ) → n < length d.instances → slice_index (starts_of l d) n + length (positions_at d n) ≤ length l.shapes
  inst-room n below =
      let of : IsOfKind d n = of-kind d n good below in
      let same : positions_at d n ≡ of.kind.positions = positions-are d n of.inst of.kind of.is_instance of.is_kind in
      let room : slice_index (starts_of l d) n + length of.kind.positions ≤ length l.shapes =
      start-room r d l n of.inst of.kind (slice_index (starts_of l d) n) cells of.is_instance of.is_kind (inst-stands n of.inst of.is_instance) in
      subst (λ (ps : List Position). slice_index (starts_of l d) n + length ps ≤ length l.shapes) (sym same) room

  -- what is drawn is a shape
  pub drawn-within : (cell n terminal x : ℕ) → Draws d l cell n terminal x → x < length l.shapes
  drawn-within cell n terminal x drawn =
      let at : x ≡ slice_index (starts_of l d) n + drawn.place = drawn-place cell n terminal x drawn in
      let same : positions_at d n ≡ drawn.kind.positions = positions-are d n drawn.inst drawn.kind drawn.is_instance drawn.is_kind in
      let long : length (positions_at d n) ≡ length drawn.kind.positions = ap (λ (ps : List Position). length ps) same in
      let within : drawn.place < length drawn.kind.positions = slice_get_within drawn.kind.positions drawn.place drawn.position drawn.is_position in
      let room : slice_index (starts_of l d) n + length (positions_at d n) ≤ length l.shapes =
      inst-room n (slice_get_within d.instances n drawn.inst drawn.is_instance) in
      omega arith
