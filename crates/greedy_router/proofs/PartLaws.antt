use Rattle.std.proofs.Common.{◌≡◌, inl, inr, ◌<◌, ◌+◌, ℕ, zero, suc, List, [], ◌∷◌, true, filter, length, map, take, get_or, refl, subst, arith, Contains}
use Rattle.std.proofs.lemmas.List.Elements.{Contains-append_left, Contains-append_right, Contains-append_cases}
use Rattle.channel_model.specs.Pins.{Pins}
use Rattle.channel_model.specs.declared.wiring.Segment.{Segment}
use Rattle.channel_model.specs.declared.wiring.Via.{Via}
use Rattle.channel_model.specs.declared.wiring.Wiring.{Wiring}
use Rattle.channel_model.specs.Elements.{Element, segment, via, elements}
use Rattle.greedy_column.specs.declared.column.Track.{Track}
use Rattle.greedy_column.specs.declared.column.Column.{Column}
use Rattle.greedy_column.specs.Tracks.{ids}
use Rattle.greedy_column.specs.Replay.{entered, after, replay_from, free_tracks, replay}
use Rattle.greedy_column.specs.Verticals.{Vertical, pin_verticals, verticals}
use Rattle.greedy_column.specs.Fair.{AllFair}
use Rattle.greedy_router.specs.Moments.{tracks_after}
use Rattle.greedy_router.specs.SweepWiring.{across, leaves, since_after, along, alongs, has_via, via_there, column_vias, column_segments, segments_from, vias_from, wiring_of}
use Rattle.greedy_router.proofs.CourseLaws.{since_from, no_column, Course, course_of}
use Rattle.std_laws.proofs.Members.{member-none, map-member, map-cases, filter-member, filter-from}

-- the segments and the vias of a column
abbrev segments_at : List ℕ → Pins → ℕ → List Track → (ℕ → ℕ) → Column → List Segment
segments_at order pins column before since done = column_segments order pins column before (entered pins column done before) since done

abbrev vias_at : List ℕ → Pins → ℕ → List Track → Column → List Via
vias_at order pins column before done =
    column_vias order column (entered pins column done before) (after pins column done before) (pin_verticals pins column done) done

-- a segment or a via is one of a column
in_segments_from : (order : List ℕ) (pins : Pins) (column : ℕ) (before : List Track) (since : ℕ → ℕ) (columns : List Column) (s : Segment)
    → Contains (segments_from order pins column before since columns) s
    → (n : ℕ) × (n < length columns) × Contains (segments_at order pins (column + n) (replay_from pins column before (take n columns)) (since_from pins column before since (take n columns)) (get_or columns n no_column)) s
in_segments_from order pins column before since [] s member = absurd (member-none s member)
in_segments_from order pins column before since (done ∷ columns) s member =
    elim (Contains-append_cases (segments_at order pins column before since done)
    (segments_from order pins (suc column) (after pins column done before) (since_after column before since) columns) s member) [
      | inl here ↦ let e : column ≡ column + 0 = omega arith in (0, omega arith, subst (λ c. Contains (segments_at order pins c before since done) s) e here)
      | inr later ↦
          let rest = in_segments_from order pins (suc column) (after pins column done before) (since_after column before since) columns s later in
          let e : suc column + rest.0 ≡ column + suc rest.0 = omega arith in (
            suc rest.0,
            omega (arith, rest.1),
            subst (λ c. Contains (segments_at order pins c (replay_from pins column before (take (suc rest.0) (done ∷ columns)))
                (since_from pins column before since (take (suc rest.0) (done ∷ columns))) (get_or columns rest.0 no_column)) s) e rest.2,
          )
    ]

of_segments_from : (order : List ℕ) (pins : Pins) (column : ℕ) (before : List Track) (since : ℕ → ℕ) (columns : List Column) (s : Segment) (n : ℕ) → n < length columns
    → Contains (segments_at order pins (column + n) (replay_from pins column before (take n columns)) (since_from pins column before since (take n columns)) (get_or columns n no_column)) s
    → Contains (segments_from order pins column before since columns) s
of_segments_from order pins column before since [] s n within member = absurd (omega (arith, within))
of_segments_from order pins column before since (done ∷ columns) s zero within member =
    let e : column + 0 ≡ column = omega arith in
    Contains-append_left (segments_at order pins column before since done)
    (segments_from order pins (suc column) (after pins column done before) (since_after column before since) columns) s
    (subst (λ c. Contains (segments_at order pins c before since done) s) e member)
of_segments_from order pins column before since (done ∷ columns) s (suc n) within member =
    let e : column + suc n ≡ suc column + n = omega arith in
    Contains-append_right (segments_at order pins column before since done)
    (segments_from order pins (suc column) (after pins column done before) (since_after column before since) columns) s
    (of_segments_from order pins (suc column) (after pins column done before) (since_after column before since) columns s n (omega (arith, within))
    (subst (λ c. Contains (segments_at order pins c (replay_from pins column before (take (suc n) (done ∷ columns)))
    (since_from pins column before since (take (suc n) (done ∷ columns))) (get_or columns n no_column)) s) e member))

in_vias_from : (order : List ℕ) (pins : Pins) (column : ℕ) (before : List Track) (columns : List Column) (v : Via)
    → Contains (vias_from order pins column before columns) v
    → (n : ℕ) × (n < length columns) × Contains (vias_at order pins (column + n) (replay_from pins column before (take n columns)) (get_or columns n no_column)) v
in_vias_from order pins column before [] v member = absurd (member-none v member)
in_vias_from order pins column before (done ∷ columns) v member =
    elim (Contains-append_cases (vias_at order pins column before done) (vias_from order pins (suc column) (after pins column done before) columns) v member) [
      | inl here ↦ let e : column ≡ column + 0 = omega arith in (0, omega arith, subst (λ c. Contains (vias_at order pins c before done) v) e here)
      | inr later ↦
          let rest = in_vias_from order pins (suc column) (after pins column done before) columns v later in
          let e : suc column + rest.0 ≡ column + suc rest.0 = omega arith in (
            suc rest.0,
            omega (arith, rest.1),
            subst (λ c. Contains (vias_at order pins c (replay_from pins column before (take (suc rest.0) (done ∷ columns))) (get_or columns rest.0 no_column)) v) e rest.2,
          )
    ]

of_vias_from : (order : List ℕ) (pins : Pins) (column : ℕ) (before : List Track) (columns : List Column) (v : Via) (n : ℕ) → n < length columns
    → Contains (vias_at order pins (column + n) (replay_from pins column before (take n columns)) (get_or columns n no_column)) v
    → Contains (vias_from order pins column before columns) v
of_vias_from order pins column before [] v n within member = absurd (omega (arith, within))
of_vias_from order pins column before (done ∷ columns) v zero within member =
    let e : column + 0 ≡ column = omega arith in
    Contains-append_left (vias_at order pins column before done) (vias_from order pins (suc column) (after pins column done before) columns) v
    (subst (λ c. Contains (vias_at order pins c before done) v) e member)
of_vias_from order pins column before (done ∷ columns) v (suc n) within member =
    let e : column + suc n ≡ suc column + n = omega arith in
    Contains-append_right (vias_at order pins column before done) (vias_from order pins (suc column) (after pins column done before) columns) v
    (of_vias_from order pins (suc column) (after pins column done before) columns v n (omega (arith, within))
    (subst (λ c. Contains (vias_at order pins c (replay_from pins column before (take (suc n) (done ∷ columns))) (get_or columns n no_column)) v) e member))

module _ (pins : Pins) (order : List ℕ) (course : Course pins order) where
  -- the tracks once a column's pins have entered, and after the column; and the column's verticals
  abbrev pub now_at : ℕ → List Track
  now_at n = entered pins n (course.done n) (course.before n)

  abbrev pub later_at : ℕ → List Track
  later_at n = after pins n (course.done n) (course.before n)

  abbrev pub verticals_at : ℕ → List Vertical
  verticals_at n = verticals pins n (course.done n) (now_at n)

  abbrev pub has_via_at : ℕ → ℕ → Type 0
  has_via_at n id = has_via order (now_at n) (pin_verticals pins n (course.done n)) (course.done n) id ≡ true

  -- the elements of a column
  abbrev pub along_at : ℕ → ℕ → Segment
  along_at n id = along order n (now_at n) (since_after n (course.before n) (course.since n)) id

  abbrev pub via_at : ℕ → ℕ → Via
  via_at n id = via_there order n (now_at n) (later_at n) id

  pub data Part (n : ℕ) : Element → Type 0 where
    across_part : (v : Vertical) → Contains (verticals_at n) v → Part n (segment (across order n v))
    along_part : (id : ℕ) → Contains order id → leaves (course.done n) id ≡ true → Part n (segment (along_at n id))
    via_part : (id : ℕ) → Contains order id → has_via_at n id → Part n (via (via_at n id))

  -- a wiring is drawn by a course: its elements are those of the columns
  pub record IsDrawnBy (wiring : Wiring) : Type 0 where
    pub columns : wiring.columns ≡ course.count
    pub tracks : wiring.tracks ≡ length order
    pub part_of : (e : Element) → Contains (elements wiring) e → (n : ℕ) × (n < course.count) × Part n e
    pub of_part : (n : ℕ) (e : Element) → n < course.count → Part n e → Contains (elements wiring) e
    pub verticals_drawn : (n : ℕ) (v : Vertical) → n < course.count → Contains (verticals_at n) v → Contains wiring.segments (across order n v)

module _ (begun : ℕ) (pins : Pins) (columns : List Column) (fair : AllFair pins 0 (begun + 1) (free_tracks begun) columns) where
  abbrev order : List ℕ
  order = ids (replay begun pins columns)

  abbrev course : Course pins (ids (replay begun pins columns))
  course = course_of begun pins columns fair

  abbrev drawn : Wiring
  drawn = wiring_of pins (record { begun = begun; columns = columns; order = order })

  abbrev done_at : ℕ → Column
  done_at n = get_or columns n no_column

  abbrev before_at : ℕ → List Track
  before_at n = tracks_after begun pins columns n

  abbrev since_at : ℕ → ℕ → ℕ
  since_at n = since_from pins 0 (free_tracks begun) (λ id. 0) (take n columns)

  in_segments : (s : Segment) → Contains drawn.segments s → (n : ℕ) × (n < length columns) × Contains (segments_at order pins n (before_at n) (since_at n) (done_at n)) s
  in_segments s member =
      let found = in_segments_from order pins 0 (free_tracks begun) (λ id. 0) columns s member in
      let e : 0 + found.0 ≡ found.0 = omega arith in
      (found.0, found.1, subst (λ c. Contains (segments_at order pins c (before_at found.0) (since_at found.0) (done_at found.0)) s) e found.2)

  of_segments : (s : Segment) (n : ℕ) → n < length columns → Contains (segments_at order pins n (before_at n) (since_at n) (done_at n)) s → Contains drawn.segments s
  of_segments s n within member =
      let e : n ≡ 0 + n = omega arith in
      of_segments_from order pins 0 (free_tracks begun) (λ id. 0) columns s n within
      (subst (λ c. Contains (segments_at order pins c (before_at n) (since_at n) (done_at n)) s) e member)

  in_vias : (v : Via) → Contains drawn.vias v → (n : ℕ) × (n < length columns) × Contains (vias_at order pins n (before_at n) (done_at n)) v
  in_vias v member =
      let found = in_vias_from order pins 0 (free_tracks begun) columns v member in
      let e : 0 + found.0 ≡ found.0 = omega arith in
      (found.0, found.1, subst (λ c. Contains (vias_at order pins c (before_at found.0) (done_at found.0)) v) e found.2)

  of_vias : (v : Via) (n : ℕ) → n < length columns → Contains (vias_at order pins n (before_at n) (done_at n)) v → Contains drawn.vias v
  of_vias v n within member =
      let e : n ≡ 0 + n = omega arith in
      of_vias_from order pins 0 (free_tracks begun) columns v n within (subst (λ c. Contains (vias_at order pins c (before_at n) (done_at n)) v) e member)

  segment_part : (n : ℕ) (s : Segment) → Contains (segments_at order pins n (before_at n) (since_at n) (done_at n)) s → Part pins order course n (segment s)
  segment_part n s member =
      elim (Contains-append_cases (map (across order n) (verticals_at pins order course n))
      (alongs order n (now_at pins order course n) (since_after n (before_at n) (since_at n)) (done_at n)) s member) [
        | inl up ↦
            let from = map-cases (across order n) (verticals_at pins order course n) s up in
            subst (λ t. Part pins order course n (segment t)) from.2 (across_part from.0 from.1)
        | inr on ↦
            let from = map-cases (along_at pins order course n) (filter (leaves (done_at n)) order) s on in
            let own = filter-from (leaves (done_at n)) order from.0 from.1 in
            subst (λ t. Part pins order course n (segment t)) from.2 (along_part from.0 own.0 own.1)
      ]

  via_is_part : (n : ℕ) (v : Via) → Contains (vias_at order pins n (before_at n) (done_at n)) v → Part pins order course n (via v)
  via_is_part n v member =
      let test = has_via order (now_at pins order course n) (pin_verticals pins n (done_at n)) (done_at n) in
      let from = map-cases (via_at pins order course n) (filter test order) v member in
      let own = filter-from test order from.0 from.1 in
      subst (λ w. Part pins order course n (via w)) from.2 (via_part from.0 own.0 own.1)

  across_drawn : (n : ℕ) (v : Vertical) → n < length columns → Contains (verticals_at pins order course n) v → Contains drawn.segments (across order n v)
  across_drawn n v within member =
      of_segments (across order n v) n within
      (Contains-append_left (map (across order n) (verticals_at pins order course n))
      (alongs order n (now_at pins order course n) (since_after n (before_at n) (since_at n)) (done_at n)) (across order n v)
      (map-member (across order n) (verticals_at pins order course n) v member))

  part_drawn : (n : ℕ) (e : Element) → n < length columns → Part pins order course n e → Contains (elements drawn) e
  part_drawn n e within (across_part v member) =
      Contains-append_left (map segment drawn.segments) (map via drawn.vias) (segment (across order n v))
      (map-member segment drawn.segments (across order n v) (across_drawn n v within member))
  part_drawn n e within (along_part id member left) =
      Contains-append_left (map segment drawn.segments) (map via drawn.vias) (segment (along_at pins order course n id))
      (map-member segment drawn.segments (along_at pins order course n id)
      (of_segments (along_at pins order course n id) n within
      (Contains-append_right (map (across order n) (verticals_at pins order course n))
      (alongs order n (now_at pins order course n) (since_after n (before_at n) (since_at n)) (done_at n)) (along_at pins order course n id)
      (map-member (along_at pins order course n) (filter (leaves (done_at n)) order) id (filter-member (leaves (done_at n)) order id member left)))))
  part_drawn n e within (via_part id member has) =
      let test = has_via order (now_at pins order course n) (pin_verticals pins n (done_at n)) (done_at n) in
      Contains-append_right (map segment drawn.segments) (map via drawn.vias) (via (via_at pins order course n id))
      (map-member via drawn.vias (via_at pins order course n id)
      (of_vias (via_at pins order course n id) n within
      (map-member (via_at pins order course n) (filter test order) id (filter-member test order id member has))))

  -- the wiring of a sweep is drawn by its course
  pub IsDrawnBy-sweep : IsDrawnBy pins order course (wiring_of pins (record { begun = begun; columns = columns; order = order }))
  IsDrawnBy-sweep = record {
    columns = refl;
    tracks = refl;
    part_of = λ e member. elim (Contains-append_cases (map segment drawn.segments) (map via drawn.vias) e member) [
      | inl one ↦
          let from = map-cases segment drawn.segments e one in
          let at = in_segments from.0 from.1 in
          (at.0, at.1, subst (λ f. Part pins order course at.0 f) from.2 (segment_part at.0 from.0 at.2))
      | inr one ↦
          let from = map-cases via drawn.vias e one in
          let at = in_vias from.0 from.1 in
          (at.0, at.1, subst (λ f. Part pins order course at.0 f) from.2 (via_is_part at.0 from.0 at.2))
    ];
    of_part = part_drawn;
    verticals_drawn = across_drawn;
  }
