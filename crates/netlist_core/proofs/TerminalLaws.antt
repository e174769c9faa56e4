use Rattle.std.proofs.Common.{◌≡◌, ℕ, ◌==◌, ◌<◌, List, [], ◌∷◌, length, Bool, true, false, not, cond, ◌&&◌, ◌||◌, Option, Some, None, is_some, map, refl, ap, sym, ◌∙◌, subst, eq-eqb}
use Rattle.std.proofs.lemmas.Option.{slice_get-map, same_Some}
use Rattle.std.specs.List.{AllByRecursion, list_any, filter_map, cons_option, slice_get}
use Rattle.std.specs.Option.{option_map}
use Rattle.std.specs.Str.{bytes_eq}
use Rattle.list_facts.specs.Names.{mentions, place_among}
use Rattle.list_facts.proofs.Different.{distinct-mentions, place-get}
use Rattle.list_facts.proofs.Mentioned.{any-mentions, get-place, place-below}
use Rattle.yal_reader.specs.Kept.{is_power, is_standard, IsKeptLine}
use Rattle.yal_reader.specs.declared.file.Kind.{Kind}
use Rattle.yal_reader.specs.declared.file.Line.{Line}
use Rattle.yal_reader.specs.declared.file.Spot.{Spot}
use Rattle.netlist_core.specs.Cells.{line_names, power_lines, power_names, spot_of, spots_of, terminal_in, terminal_names, terminals_of}
use Rattle.design_model.specs.declared.design.Terminal.{Terminal}
use Rattle.std_laws.proofs.Searches.{any-get}
use Rattle.std_laws.proofs.Distinct.{distinct-none}
use Rattle.std_laws.proofs.Every.{every-own, every-weaker}
use Rattle.std_laws.proofs.Bytes.{bytes_same, bytes_one}
use Rattle.std.proofs.lemmas.Bool.{or_right}

-- a name is among the mentions of names just where it is among the names
any-of : (names : List (List ℕ)) (w : List ℕ) → list_any (bytes_eq w) (mentions names) ≡ list_any (bytes_eq w) names
any-of names w = any-mentions [] names w

-- a number below the number of names, at which no name of power stands
pub record IsFree (names power : List (List ℕ)) (n : ℕ) : Type 0 where
  pub within : n < length names
  pub free : (w : List ℕ) → slice_get names n ≡ Some w → list_any (bytes_eq w) power ≡ false

free-place : (names power : List (List ℕ)) (v : List ℕ) → list_any (bytes_eq v) names ≡ true → list_any (bytes_eq v) power ≡ false
    → IsFree names power (place_among names v)
free-place names power v known none = record {
  within = place-below names v known;
  free = λ w is. subst (λ (u : List ℕ). list_any (bytes_eq u) power ≡ false) (same_Some _ _ (sym (get-place names v known) ∙ is)) none;
}

free-spot : (names power : List (List ℕ)) (l : Line) (s : ℕ × Spot) → list_any (bytes_eq l.name) names ≡ true
    → spot_of names power l ≡ Some s → IsFree names power s.0
free-spot names power l s known = by (list_any (bytes_eq l.name) power) refl l.spot
  where
    by : (b : Bool) → list_any (bytes_eq l.name) power ≡ b → (o : Option Spot)
        → cond b None (option_map (λ (t : Spot). (place_among names l.name, t)) o) ≡ Some s → IsFree names power s.0
    by true is o h = cc
    by false is None h = cc
    by false is (Some t) h =
        subst (λ (r : ℕ × Spot). IsFree names power r.0) (same_Some _ _ h) (free-place names power l.name known is)

-- each spot's terminal is free
pub free-spots : (names power : List (List ℕ)) (lines : List Line) → AllByRecursion (λ (l : Line). list_any (bytes_eq l.name) names ≡ true) lines
    → AllByRecursion (λ (s : ℕ × Spot). IsFree names power s.0) (filter_map (spot_of names power) lines)
free-spots names power [] known = tt
free-spots names power (l ∷ ls) known = by (spot_of names power l) refl (free-spots names power ls known.1)
  where
    by : (o : Option (ℕ × Spot)) → spot_of names power l ≡ o → AllByRecursion (λ (s : ℕ × Spot). IsFree names power s.0) (filter_map (spot_of names power) ls)
        → AllByRecursion (λ (s : ℕ × Spot). IsFree names power s.0) (cons_option o (filter_map (spot_of names power) ls))
    by None is rest = rest
    by (Some s) is rest = (free-spot names power l s known.0 is, rest)

-- each line's name is a terminal's
pub known-lines : (lines : List Line) → AllByRecursion (λ (l : Line). list_any (bytes_eq l.name) (terminal_names lines) ≡ true) lines
known-lines lines =
    every-weaker (λ (l : Line). list_any (bytes_eq l.name) (line_names lines) ≡ true) (λ (l : Line). list_any (bytes_eq l.name) (terminal_names lines) ≡ true)
    (λ l h. any-of (line_names lines) l.name ∙ h) lines (every-own (λ (l : Line). l.name) lines)

own-power : (lines : List Line) → AllByRecursion (λ (l : Line). is_power l.flow ≡ true → list_any (bytes_eq l.name) (line_names (power_lines lines)) ≡ true) lines
own-power [] = tt
own-power (l ∷ ls) = by (is_power l.flow) refl (own-power ls)
  where
    later : (m : Line) → (is_power m.flow ≡ true → list_any (bytes_eq m.name) (line_names (power_lines ls)) ≡ true)
        → is_power m.flow ≡ true → list_any (bytes_eq m.name) (l.name ∷ line_names (power_lines ls)) ≡ true
    later m h power = or_right (bytes_eq m.name l.name) (list_any (bytes_eq m.name) (line_names (power_lines ls))) (h power)

    by : (b : Bool) → is_power l.flow ≡ b
        → AllByRecursion (λ (m : Line). is_power m.flow ≡ true → list_any (bytes_eq m.name) (line_names (power_lines ls)) ≡ true) ls
        → (is_power l.flow ≡ true → list_any (bytes_eq l.name) (line_names (cond b (l ∷ power_lines ls) (power_lines ls))) ≡ true)
        × AllByRecursion (λ (m : Line). is_power m.flow ≡ true → list_any (bytes_eq m.name) (line_names (cond b (l ∷ power_lines ls) (power_lines ls))) ≡ true) ls
    by true is rest = (
      (λ power. ap (λ (c : Bool). c || list_any (bytes_eq l.name) (line_names (power_lines ls))) (bytes_same l.name)),
      every-weaker (λ (m : Line). is_power m.flow ≡ true → list_any (bytes_eq m.name) (line_names (power_lines ls)) ≡ true)
          (λ (m : Line). is_power m.flow ≡ true → list_any (bytes_eq m.name) (l.name ∷ line_names (power_lines ls)) ≡ true) later ls rest,
    )
    by false is rest = ((λ power. cc), rest)

-- each power line's name is a power terminal's
pub known-power : (lines : List Line) → AllByRecursion (λ (l : Line). is_power l.flow ≡ true → list_any (bytes_eq l.name) (power_names lines) ≡ true) lines
known-power lines =
    every-weaker (λ (l : Line). is_power l.flow ≡ true → list_any (bytes_eq l.name) (line_names (power_lines lines)) ≡ true)
    (λ (l : Line). is_power l.flow ≡ true → list_any (bytes_eq l.name) (power_names lines) ≡ true)
    (λ l h power. any-of (line_names (power_lines lines)) l.name ∙ h power) lines (own-power lines)

-- a line that is no power has a spot in a STANDARD module
spot-there : (kind : Kind) (l : Line) → is_standard kind ≡ true → IsKeptLine kind l → is_power l.flow ≡ false → is_some l.spot ≡ true
spot-there kind l standard kept free =
    kept.has (ap (λ (b : Bool). b && not (is_power l.flow)) standard ∙ ap (λ (b : Bool). not b) free)

spot-of : (names power : List (List ℕ)) (l : Line) (w : List ℕ) → bytes_eq w l.name ≡ true → list_any (bytes_eq w) power ≡ false
    → is_some l.spot ≡ true → (rest : List (ℕ × Spot))
    → list_any (λ (s : ℕ × Spot). s.0 == place_among names w) (cons_option (spot_of names power l) rest) ≡ true
spot-of names power l w same none there rest =
    by (list_any (bytes_eq l.name) power) (subst (λ (u : List ℕ). list_any (bytes_eq u) power ≡ false) (bytes_one w l.name same) none) l.spot there
  where
    here : (place_among names l.name == place_among names w) ≡ true
    here = eq-eqb (place_among names l.name) (place_among names w) (ap (place_among names) (sym (bytes_one w l.name same)))

    by : (b : Bool) → b ≡ false → (o : Option Spot) → is_some o ≡ true
        → list_any (λ (s : ℕ × Spot). s.0 == place_among names w) (cons_option (cond b None (option_map (λ (t : Spot). (place_among names l.name, t)) o)) rest) ≡ true
    by true is o some = cc
    by false is None some = cc
    by false is (Some t) some = ap (λ (c : Bool). c || list_any (λ (s : ℕ × Spot). s.0 == place_among names w) rest) here

-- a line's name that is no power terminal's has a spot
pub spot-found : (names power : List (List ℕ)) (kind : Kind) (w : List ℕ) → is_standard kind ≡ true → list_any (bytes_eq w) power ≡ false
    → (lines : List Line) → AllByRecursion (IsKeptLine kind) lines
    → AllByRecursion (λ (l : Line). is_power l.flow ≡ true → list_any (bytes_eq l.name) power ≡ true) lines
    → list_any (bytes_eq w) (line_names lines) ≡ true
    → list_any (λ (s : ℕ × Spot). s.0 == place_among names w) (filter_map (spot_of names power) lines) ≡ true
spot-found names power kind w standard none [] kept known = λ h. cc
spot-found names power kind w standard none (l ∷ ls) kept known = by (bytes_eq w l.name) refl (spot-found names power kind w standard none ls kept.1 known.1)
  where
    skip : (o : Option (ℕ × Spot)) → list_any (λ (s : ℕ × Spot). s.0 == place_among names w) (filter_map (spot_of names power) ls) ≡ true
        → list_any (λ (s : ℕ × Spot). s.0 == place_among names w) (cons_option o (filter_map (spot_of names power) ls)) ≡ true
    skip None h = h
    skip (Some s) h = or_right (s.0 == place_among names w) _ h

    not-power : (b : Bool) → bytes_eq w l.name ≡ true → is_power l.flow ≡ b → (is_power l.flow ≡ true → list_any (bytes_eq l.name) power ≡ true) → is_power l.flow ≡ false
    not-power true same is each =
        absurd (both (each is) (subst (λ (u : List ℕ). list_any (bytes_eq u) power ≡ false) (bytes_one w l.name same) none))
      where
        both : {b : Bool} → b ≡ true → b ≡ false → ⊥
        both x y = cc
    not-power false same is each = is

    by : (b : Bool) → bytes_eq w l.name ≡ b
        → (list_any (bytes_eq w) (line_names ls) ≡ true → list_any (λ (s : ℕ × Spot). s.0 == place_among names w) (filter_map (spot_of names power) ls) ≡ true)
        → (b || list_any (bytes_eq w) (line_names ls)) ≡ true
        → list_any (λ (s : ℕ × Spot). s.0 == place_among names w) (cons_option (spot_of names power l) (filter_map (spot_of names power) ls)) ≡ true
    by true same more h =
        spot-of names power l w same none (spot-there kind l standard kept.0 (not-power (is_power l.flow) same refl known.0)) (filter_map (spot_of names power) ls)
    by false same more h = skip (spot_of names power l) (more h)

-- the name and the power of a terminal
pub record IsNamed (names power : List (List ℕ)) (n : ℕ) (t : Terminal) : Type 0 where
  pub name : List ℕ
  pub stands : slice_get names n ≡ Some name
  pub powered : list_any (bytes_eq name) power ≡ t.power

pub terminal-named : (names power : List (List ℕ)) (n : ℕ) (t : Terminal) → slice_get (map (terminal_in power) names) n ≡ Some t → IsNamed names power n t
terminal-named names power n t h = by (slice_get names n) refl (sym (slice_get-map (terminal_in power) names n) ∙ h)
  where
    by : (o : Option (List ℕ)) → slice_get names n ≡ o → option_map (terminal_in power) o ≡ Some t → IsNamed names power n t
    by None is h = cc
    by (Some w) is h = record { name = w; stands = is; powered = ap (λ (u : Terminal). u.power) (same_Some _ _ h) }

-- each terminal that is no power terminal has a spot in a STANDARD module
pub terminal-spot : (kind : Kind) (lines : List Line) → is_standard kind ≡ true → AllByRecursion (IsKeptLine kind) lines
    → (n : ℕ) (t : Terminal) → slice_get (terminals_of lines) n ≡ Some t → t.power ≡ false
    → list_any (λ (s : ℕ × Spot). s.0 == n) (spots_of lines) ≡ true
terminal-spot kind lines standard kept n t at free =
    let named : IsNamed (terminal_names lines) (power_names lines) n t = terminal-named (terminal_names lines) (power_names lines) n t at in
    let place : place_among (terminal_names lines) named.name ≡ n =
    place-get (terminal_names lines) n named.name (distinct-mentions [] (line_names lines) distinct-none) named.stands in
    let known : list_any (bytes_eq named.name) (line_names lines) ≡ true =
    sym (any-of (line_names lines) named.name) ∙ any-get (terminal_names lines) n named.name named.stands in
    subst (λ (k : ℕ). list_any (λ (s : ℕ × Spot). s.0 == k) (spots_of lines) ≡ true) place
    (spot-found (terminal_names lines) (power_names lines) kind named.name standard (named.powered ∙ free) lines kept (known-power lines) known)
