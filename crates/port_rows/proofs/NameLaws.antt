use Rattle.std.proofs.Common.{◌≡◌, ◌≤◌, ◌^◌, ◌-◌, ℕ, ◌+◌, List, [], ◌∷◌, ◌++◌, length, filter, Bool, true, false, not, cond, ◌||◌, ◌&&◌, refl, ap, sym, ◌∙◌, subst, arith, length-append}
use Rattle.std.proofs.lemmas.List.{length-map}
use Rattle.std.specs.List.{AllByRecursion, IsDistinct, list_any}
use Rattle.std.specs.Str.{bytes_eq}
use Rattle.geom_core.specs.Names.{IsName}
use Rattle.yal_reader.specs.Kept.{HasAtMost, IsKept, IsKeptLine, IsKeptModule, IsShort}
use Rattle.yal_reader.specs.declared.file.Line.{Line}
use Rattle.yal_reader.specs.declared.file.Module.{Module}
use Rattle.yal_reader.specs.declared.file.YalFile.{YalFile}
use Rattle.netlist_core.specs.Calls.{is_parent_module}
use Rattle.netlist_core.specs.Cells.{line_names, power_names}
use Rattle.port_rows.specs.PortNames.{ArePorts}
use Rattle.port_rows.specs.Ports.{first_but, first_lines, is_port, leads_out, lines_of_first, north_ports, parent_lines, ports_among, same_side, south_ports}
use Rattle.std_laws.proofs.Bytes.{bytes_flip}
use Rattle.std_laws.proofs.Every.{every-append, every-filter, every-filtered, every-left, every-map, every-right, every-weaker}

-- the first lines of other names have other names
firsts-other : (seen : List (List ℕ)) (lines : List Line) → AllByRecursion (λ (l : Line). list_any (bytes_eq l.name) seen ≡ false) (first_but seen lines)
firsts-other seen [] = tt
firsts-other seen (l ∷ ls) = by (list_any (bytes_eq l.name) seen) refl (firsts-other seen ls) (firsts-other (seen ++ l.name ∷ []) ls)
  where
    less : (name : List ℕ) (names : List (List ℕ)) → list_any (bytes_eq name) (names ++ l.name ∷ []) ≡ false → list_any (bytes_eq name) names ≡ false
    less name [] h = refl
    less name (x ∷ xs) h = half (bytes_eq name x) h (λ h. less name xs h)
      where
        half : (b : Bool) → (b || list_any (bytes_eq name) (xs ++ l.name ∷ [])) ≡ false
            → (list_any (bytes_eq name) (xs ++ l.name ∷ []) ≡ false → list_any (bytes_eq name) xs ≡ false) → (b || list_any (bytes_eq name) xs) ≡ false
        half true h more = h
        half false h more = more h

    by : (b : Bool) → list_any (bytes_eq l.name) seen ≡ b → AllByRecursion (λ (l : Line). list_any (bytes_eq l.name) seen ≡ false) (first_but seen ls)
        → AllByRecursion (λ (k : Line). list_any (bytes_eq k.name) (seen ++ l.name ∷ []) ≡ false) (first_but (seen ++ l.name ∷ []) ls)
        → AllByRecursion (λ (l : Line). list_any (bytes_eq l.name) seen ≡ false) (cond b (first_but seen ls) (l ∷ first_but (seen ++ l.name ∷ []) ls))
    by true is old new = old
    by false is old new = (
      is,
      every-weaker (λ (k : Line). list_any (bytes_eq k.name) (seen ++ l.name ∷ []) ≡ false) (λ (k : Line). list_any (bytes_eq k.name) seen ≡ false)
          (λ k h. less k.name seen h) (first_but (seen ++ l.name ∷ []) ls) new,
    )

-- a name that is none of some and one more is not that one
last-other : (name v : List ℕ) (names : List (List ℕ)) → list_any (bytes_eq name) (names ++ v ∷ []) ≡ false → bytes_eq v name ≡ false
last-other name v [] h = bytes_flip name v (alone (bytes_eq name v) h)
  where
    alone : (b : Bool) → (b || false) ≡ false → b ≡ false
    alone true h = h
    alone false h = refl
last-other name v (x ∷ xs) h = rest (bytes_eq name x) h (λ h. last-other name v xs h)
  where
    rest : (b : Bool) → (b || list_any (bytes_eq name) (xs ++ v ∷ [])) ≡ false → (list_any (bytes_eq name) (xs ++ v ∷ []) ≡ false → bytes_eq v name ≡ false)
        → bytes_eq v name ≡ false
    rest true h more = cc
    rest false h more = more h

-- first lines have different names
firsts-different : (seen : List (List ℕ)) (lines : List Line) → IsDistinct bytes_eq (line_names (first_but seen lines))
unfolding IsDistinct
firsts-different seen [] = tt
firsts-different seen (l ∷ ls) = by (list_any (bytes_eq l.name) seen) (firsts-different seen ls) (firsts-different (seen ++ l.name ∷ []) ls)
  where
    by : (b : Bool) → IsDistinct bytes_eq (line_names (first_but seen ls)) → IsDistinct bytes_eq (line_names (first_but (seen ++ l.name ∷ []) ls))
        → IsDistinct bytes_eq (line_names (cond b (first_but seen ls) (l ∷ first_but (seen ++ l.name ∷ []) ls)))
    by true old new = old
    by false old new = (
      every-map (λ (name : List ℕ). bytes_eq l.name name ≡ false) (λ (k : Line). k.name) (first_but (seen ++ l.name ∷ []) ls)
          (every-weaker (λ (k : Line). list_any (bytes_eq k.name) (seen ++ l.name ∷ []) ≡ false) (λ (k : Line). bytes_eq l.name k.name ≡ false)
          (λ k h. last-other k.name l.name seen h) (first_but (seen ++ l.name ∷ []) ls) (firsts-other (seen ++ l.name ∷ []) ls)),
      new,
    )

-- what holds of each line holds of each first line
every-first : (P : Line → Type 0) (seen : List (List ℕ)) (lines : List Line) → AllByRecursion P lines → AllByRecursion P (first_but seen lines)
every-first P seen [] h = tt
every-first P seen (l ∷ ls) h = by (list_any (bytes_eq l.name) seen) (every-first P seen ls h.1) (every-first P (seen ++ l.name ∷ []) ls h.1)
  where
    by : (b : Bool) → AllByRecursion P (first_but seen ls) → AllByRecursion P (first_but (seen ++ l.name ∷ []) ls)
        → AllByRecursion P (cond b (first_but seen ls) (l ∷ first_but (seen ++ l.name ∷ []) ls))
    by true old new = old
    by false old new = (h.0, new)

firsts-few : (seen : List (List ℕ)) (lines : List Line) → length (first_but seen lines) ≤ length lines
firsts-few seen [] = omega arith
firsts-few seen (l ∷ ls) = by (list_any (bytes_eq l.name) seen) (firsts-few seen ls) (firsts-few (seen ++ l.name ∷ []) ls)
  where
    by : (b : Bool) → length (first_but seen ls) ≤ length ls → length (first_but (seen ++ l.name ∷ []) ls) ≤ length ls
        → length (cond b (first_but seen ls) (l ∷ first_but (seen ++ l.name ∷ []) ls)) ≤ length (l ∷ ls)
    by true old new = omega arith
    by false old new = omega arith

-- different names with another one among them are different
distinct-middle : (xs ys : List (List ℕ)) (v : List ℕ) → AllByRecursion (λ (x : List ℕ). bytes_eq v x ≡ false) (xs ++ ys) → IsDistinct bytes_eq (xs ++ ys)
    → IsDistinct bytes_eq (xs ++ v ∷ ys)
unfolding IsDistinct
distinct-middle [] ys v other different = (other, different)
distinct-middle (x ∷ xs) ys v other different = (
  every-append (λ (y : List ℕ). bytes_eq x y ≡ false) xs (v ∷ ys) (every-left (λ (y : List ℕ). bytes_eq x y ≡ false) xs ys different.0)
      (bytes_flip v x other.0, every-right (λ (y : List ℕ). bytes_eq x y ≡ false) xs ys different.0),
  distinct-middle xs ys v other.1 different.1,
)

-- no line passes both tests
abbrev pub Exclude : (Line → Bool) → (Line → Bool) → Type 0
Exclude p q = (l : Line) → (p l ≡ true) → (q l ≡ true) → ⊥

-- the names that two such tests keep are different
parts-different : (p q : Line → Bool) → Exclude p q → (lines : List Line) → IsDistinct bytes_eq (line_names lines)
    → IsDistinct bytes_eq (line_names (filter p lines) ++ line_names (filter q lines))
unfolding IsDistinct
parts-different p q apart [] h = tt
parts-different p q apart (l ∷ ls) h = by (p l) refl (q l) refl (parts-different p q apart ls h.1)
  where
    others : AllByRecursion (λ (x : List ℕ). bytes_eq l.name x ≡ false) (line_names (filter p ls) ++ line_names (filter q ls))
    others = every-append (λ (x : List ℕ). bytes_eq l.name x ≡ false) (line_names (filter p ls)) (line_names (filter q ls))
        (every-filter (λ (x : List ℕ). bytes_eq l.name x ≡ false) (λ (k : Line). k.name) p ls h.0)
        (every-filter (λ (x : List ℕ). bytes_eq l.name x ≡ false) (λ (k : Line). k.name) q ls h.0)

    by : (b : Bool) → p l ≡ b → (c : Bool) → q l ≡ c → IsDistinct bytes_eq (line_names (filter p ls) ++ line_names (filter q ls))
        → IsDistinct bytes_eq (line_names (cond b (l ∷ filter p ls) (filter p ls)) ++ line_names (cond c (l ∷ filter q ls) (filter q ls)))
    by true is_p true is_q more = absurd (apart l is_p is_q)
    by true is_p false is_q more = (others, more)
    by false is_p true is_q more = distinct-middle (line_names (filter p ls)) (line_names (filter q ls)) l.name others more
    by false is_p false is_q more = more

-- and no more than the lines
parts-few : (p q : Line → Bool) → Exclude p q → (lines : List Line) → length (filter p lines) + length (filter q lines) ≤ length lines
parts-few p q apart [] = omega arith
parts-few p q apart (l ∷ ls) = by (p l) refl (q l) refl (parts-few p q apart ls)
  where
    by : (b : Bool) → p l ≡ b → (c : Bool) → q l ≡ c → length (filter p ls) + length (filter q ls) ≤ length ls
        → length (cond b (l ∷ filter p ls) (filter p ls)) + length (cond c (l ∷ filter q ls) (filter q ls)) ≤ length (l ∷ ls)
    by true is_p true is_q more = absurd (apart l is_p is_q)
    by true is_p false is_q more = omega arith
    by false is_p true is_q more = omega arith
    by false is_p false is_q more = omega arith

-- a first line is that of a port of one side
one-side : (power : List (List ℕ)) → Exclude (is_port power false) (is_port power true)
one-side power l = by (not (list_any (bytes_eq l.name) power)) (leads_out l.flow)
  where
    by : (a b : Bool) → (a && same_side b false) ≡ true → (a && same_side b true) ≡ true → ⊥
    by true true h k = cc
    by true false h k = cc
    by false b h k = cc

-- the ports of lines whose names can be written, fewer than 2 ^ 32
pub ports-good : (lines : List Line) → AllByRecursion (λ (l : Line). IsName l.name) lines → length lines ≤ 2 ^ 32 - 1 → ArePorts (south_ports lines) (north_ports lines)
unfolding first_lines
ports-good lines named few =
    let power = power_names lines in
    let firsts = first_but [] lines in
    let south = filter (is_port power false) firsts in
    let north = filter (is_port power true) firsts in
    let names = every-map IsName (λ (l : Line). l.name) firsts (every-first (λ (l : Line). IsName l.name) [] lines named) in
    record {
      different = parts-different (is_port power false) (is_port power true) (one-side power) firsts (firsts-different [] lines);
      named = every-append IsName (line_names south) (line_names north)
          (every-filter IsName (λ (l : Line). l.name) (is_port power false) firsts names) (every-filter IsName (λ (l : Line). l.name) (is_port power true) firsts names);
      few = omega (
        arith,
        length-append (line_names south) (line_names north),
        length-map south (λ (l : Line). l.name),
        length-map north (λ (l : Line). l.name),
        parts-few (is_port power false) (is_port power true) (one-side power) firsts,
        firsts-few [] lines,
      );
    }

first-named : (modules : List Module) → AllByRecursion IsKeptModule modules → AllByRecursion (λ (l : Line). IsName l.name) (lines_of_first modules)
first-named [] h = tt
first-named (m ∷ ms) h = every-weaker (IsKeptLine m.kind) (λ (l : Line). IsName l.name) (λ l kept. kept.name) m.lines h.0.lines

first-few : (most : ℕ) (modules : List Module) → AllByRecursion (IsShort most) modules → length (lines_of_first modules) ≤ most
first-few most [] h = omega arith
first-few most (m ∷ ms) h = h.0.lines

-- the ports of a file that was read
pub file-ports : (file : YalFile) → IsKept file → HasAtMost (2 ^ 32 - 1) file → ArePorts (south_ports (parent_lines file)) (north_ports (parent_lines file))
file-ports file kept few =
    ports-good (parent_lines file)
    (first-named (filter is_parent_module file.modules) (every-filtered IsKeptModule is_parent_module file.modules kept.modules))
    (first-few (2 ^ 32 - 1) (filter is_parent_module file.modules) (every-filtered (IsShort (2 ^ 32 - 1)) is_parent_module file.modules few.each))

-- and those that were found by its parts
pub found-ports : (file : YalFile) → IsKept file → HasAtMost (2 ^ 32 - 1) file → (lines firsts lower upper : List Line) (power south north : List (List ℕ))
    → lines ≡ parent_lines file → power ≡ power_names lines → firsts ≡ first_lines lines → lower ≡ firsts → upper ≡ firsts
    → south ≡ ports_among power false lower → north ≡ ports_among power true upper → ArePorts south north
found-ports file kept few lines firsts lower upper power south north is_lines is_power is_firsts is_lower is_upper is_south is_north =
    let powered : power ≡ power_names (parent_lines file) = is_power ∙ ap power_names is_lines in
    let first : firsts ≡ first_lines (parent_lines file) = is_firsts ∙ ap first_lines is_lines in
    let below : south ≡ south_ports (parent_lines file) =
    is_south ∙ ap (λ (p : List (List ℕ)). ports_among p false lower) powered ∙ ap (ports_among (power_names (parent_lines file)) false) (is_lower ∙ first) in
    let above : north ≡ north_ports (parent_lines file) =
    is_north ∙ ap (λ (p : List (List ℕ)). ports_among p true upper) powered ∙ ap (ports_among (power_names (parent_lines file)) true) (is_upper ∙ first) in
    subst (λ (s : List (List ℕ)). ArePorts s north) (sym below) (subst (λ (n : List (List ℕ)). ArePorts (south_ports (parent_lines file)) n) (sym above) (file-ports file kept few))
