use Rattle.std.proofs.Common.{◌≡◌, inl, inr, ◌<◌, ◌++◌, eqb, leb, ℕ, List, [], ◌∷◌, Bool, true, false, cond, filter, map, get_or, refl, sym, ap, ◌∙◌, Contains}
use Rattle.std.specs.List.{list_any}
use Rattle.std.specs.Prelude.{◌&&◌, ◌||◌}
use Rattle.std.proofs.lemmas.Bool.{cases_Bool, cond-false}
use Rattle.std.proofs.lemmas.List.{map-append}
use Rattle.channel_model.specs.Pins.{Pins}
use Rattle.channel_model.specs.declared.wiring.Segment.TheVariants.{Along}
use Rattle.greedy_column.specs.declared.column.Track.{Track}
use Rattle.greedy_column.specs.declared.column.Column.{Column}
use Rattle.greedy_column.specs.declared.span.Span.{Span}
use Rattle.greedy_column.specs.Joining.{span_in}
use Rattle.greedy_column.specs.Tracks.{ids, held_by, line_of}
use Rattle.greedy_column.specs.Verticals.{Vertical, on, between, verticals, pin_verticals, line_at}
use Rattle.greedy_router.specs.SweepWiring.{across, leaves, is_of, along, alongs, since_after, meets_track, has_via, via_there, column_segments, column_vias}
use Rattle.greedy_router.specs.Tables.{across_on, pair_span, along_by, alongs_by, meets_by, has_via_by, via_by, vias_by, column_segments_by}
use Rattle.greedy_router.specs.Turns.{TellsNets, TellsSince}
use Rattle.std_laws.proofs.Images.{map-map, picked-agree, picked-first}
use Rattle.std_laws.proofs.Members.{member-head, member-tail}
use Rattle.std_laws.proofs.Searches.{any-agree}

-- nothing is picked where no id passes
pub none-picked : {X : Type 0} (made : ℕ → X) (passes : ℕ → Bool) (order : List ℕ) → ((id : ℕ) → passes id ≡ false)
    → map made (filter passes order) ≡ []
none-picked made passes [] none = refl
none-picked made passes (id ∷ order) none =
    ap (map made) (cond-false (passes id) (id ∷ filter passes order) (filter passes order) (none id)) ∙ none-picked made passes order none

-- what is made of those that pass is the same
picked-where : {X : Type 0} (f g : ℕ → X) (p q : ℕ → Bool) (order : List ℕ) → ((id : ℕ) → Contains order id → (p id ≡ q id) × (q id ≡ true → f id ≡ g id))
    → map f (filter p order) ≡ map g (filter q order)
picked-where f g p q [] same = refl
picked-where f g p q (id ∷ order) same =
    let here = same id (member-head id order) in
    let rest = picked-where f g p q order (λ other member. same other (member-tail id order other member)) in
    elim (cases_Bool (q id)) [
      | inl passes ↦ picked-first f g id (filter p order) (filter q order) (p id) (q id) (here.1 passes) here.0 rest
      | inr not ↦
          ap (map f) (cond-false (p id) (id ∷ filter p order) (filter p order) (here.0 ∙ not)) ∙ rest
          ∙ sym (ap (map g) (cond-false (q id) (id ∷ filter q order) (filter q order) not))
    ]

-- the wires along the tracks that are left, from tables
pub alongs-told : (order : List ℕ) (column : ℕ) (now : List Track) (nets table : List ℕ) (since : ℕ → ℕ) (done : Column) → TellsNets order now nets
    → TellsSince order now since table → ((id : ℕ) → leaves done id ≡ true → 0 < held_by now id)
    → alongs_by order column nets table done ≡ alongs order column now since done
alongs-told order column now nets table since done told known held =
    picked-where (along_by order column nets table) (along order column now since) (leaves done) (leaves done) order
    (λ id member. (refl, (λ left i. Along (told id member i) (line_of order id) (known id member (held id left) i) column)))

-- the vias, from tables and from the pieces of the pins
meets-told : (order : List ℕ) (now : List Track) (nets : List ℕ) (id : ℕ) (v : Vertical) → get_or nets id 0 ≡ held_by now id
    → meets_by order nets id (span_in order v) ≡ meets_track order now id v
meets-told order now nets id v told = ap (λ n. eqb v.net n && (leb (line_at order v.low) (line_of order id) && leb (line_of order id) (line_at order v.high))) told

has_via-told : (order : List ℕ) (now : List Track) (nets : List ℕ) (pins : List Vertical) (done : Column) (id : ℕ) → get_or nets id 0 ≡ held_by now id
    → has_via_by order nets (map (span_in order) pins) done id ≡ has_via order now pins done id
has_via-told order now nets pins done id told =
    ap (λ b. b || (list_any (is_of id) done.joins || list_any (is_of id) done.moves))
    (any-agree (span_in order) (meets_by order nets id) (meets_track order now id) pins (λ v. meets-told order now nets id v told))

via-told : (order : List ℕ) (column : ℕ) (now later : List Track) (nets laters : List ℕ) (id : ℕ) → get_or nets id 0 ≡ held_by now id
    → get_or laters id 0 ≡ held_by later id → via_by order column nets laters id ≡ via_there order column now later id
via-told order column now later nets laters id told later_told =
    λ i. record { net = cond (eqb (told i) 0) (later_told i) (told i); column = column; track = line_of order id }

pub vias-told : (order : List ℕ) (column : ℕ) (now later : List Track) (nets laters : List ℕ) (spans : List Span) (pins : List Vertical) (done : Column)
    → TellsNets order now nets → TellsNets order later laters → spans ≡ map (span_in order) pins
    → vias_by order column nets laters spans done ≡ column_vias order column now later pins done
vias-told order column now later nets laters spans pins done told later_told same =
    ap (λ (l : List Span). vias_by order column nets laters l done) same
    ∙ picked-agree (via_by order column nets laters) (via_there order column now later) (has_via_by order nets (map (span_in order) pins) done)
    (has_via order now pins done) order
    (λ id member. (
      via-told order column now later nets laters id (told id member) (later_told id member),
      has_via-told order now nets pins done id (told id member),
    ))

-- the piece between two tracks, which lie in the final order as they do in the column
pair-told : (order : List ℕ) (now : List Track) (nets : List ℕ) (pair : ℕ × ℕ) → get_or nets pair.0 0 ≡ held_by now pair.0
    → leb (line_of (ids now) pair.0) (line_of (ids now) pair.1) ≡ leb (line_of order pair.0) (line_of order pair.1)
    → pair_span nets order pair ≡ span_in order (between now pair)
pair-told order now nets pair told alike =
    (λ i. cond (sym alike i) (record { net = told i; low = line_of order pair.0; high = line_of order pair.1 })
    (record { net = told i; low = line_of order pair.1; high = line_of order pair.0 }))
    ∙ step (leb (line_of (ids now) pair.0) (line_of (ids now) pair.1)) where
      step : (b : Bool) → cond b (record { net = held_by now pair.0; low = line_of order pair.0; high = line_of order pair.1 })
          (record { net = held_by now pair.0; low = line_of order pair.1; high = line_of order pair.0 })
          ≡ span_in order (cond b (record { net = held_by now pair.0; low = on pair.0; high = on pair.1 }) (record { net = held_by now pair.0; low = on pair.1; high = on pair.0 }))
      step true = refl
      step false = refl

-- pairs of tracks of which all this is known
abbrev pub AreAlikePairs : List ℕ → List Track → List ℕ → List (ℕ × ℕ) → Type 0
AreAlikePairs order now nets pairs = (pair : ℕ × ℕ) → Contains pairs pair
    → (get_or nets pair.0 0 ≡ held_by now pair.0) × (leb (line_of (ids now) pair.0) (line_of (ids now) pair.1) ≡ leb (line_of order pair.0) (line_of order pair.1))

pairs-told : (order : List ℕ) (now : List Track) (nets : List ℕ) (pairs : List (ℕ × ℕ)) → AreAlikePairs order now nets pairs
    → map (pair_span nets order) pairs ≡ map (span_in order) (map (between now) pairs)
pairs-told order now nets [] alike = refl
pairs-told order now nets (pair ∷ pairs) alike =
    let here = alike pair (member-head pair pairs) in
    let first = pair-told order now nets pair here.0 here.1 in
    let rest = pairs-told order now nets pairs (λ one member. alike one (member-tail pair pairs one member)) in
    λ i. first i ∷ rest i

-- the segments of a column, from the pieces of its pins and from tables
spans-all : (order : List ℕ) (pins joins moves : List Vertical)
    → (map (span_in order) pins ++ map (span_in order) joins) ++ map (span_in order) moves ≡ map (span_in order) ((pins ++ joins) ++ moves)
spans-all order pins joins moves = sym (simp (map-append))

pub column_segments-told : (order : List ℕ) (pins : Pins) (column : ℕ) (before now : List Track) (nets table : List ℕ) (since : ℕ → ℕ) (done : Column)
    → TellsNets order now nets → TellsSince order now (since_after column before since) table → ((id : ℕ) → leaves done id ≡ true → 0 < held_by now id)
    → AreAlikePairs order now nets done.joins → AreAlikePairs order now nets done.moves
    → column_segments_by order column nets table (map (span_in order) (pin_verticals pins column done)) done
    ≡ column_segments order pins column before now since done
column_segments-told order pins column before now nets table since done told known held joins moves =
    let pin : List Vertical = pin_verticals pins column done in
    let pairs : (map (span_in order) pin ++ map (pair_span nets order) done.joins) ++ map (pair_span nets order) done.moves
    ≡ (map (span_in order) pin ++ map (span_in order) (map (between now) done.joins)) ++ map (span_in order) (map (between now) done.moves) =
    λ i. (map (span_in order) pin ++ pairs-told order now nets done.joins joins i) ++ pairs-told order now nets done.moves moves i in
    let all : map (across_on column) ((map (span_in order) pin ++ map (pair_span nets order) done.joins) ++ map (pair_span nets order) done.moves)
    ≡ map (across order column) (verticals pins column done now) =
    ap (λ (l : List Span). map (across_on column) l) (pairs ∙ spans-all order pin (map (between now) done.joins) (map (between now) done.moves))
    ∙ map-map (span_in order) (across_on column) (verticals pins column done now) in
    λ i. all i ++ alongs-told order column now nets table (since_after column before since) done told known held i
