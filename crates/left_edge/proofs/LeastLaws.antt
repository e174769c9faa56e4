use Rattle.std.proofs.Common.{◌≡◌, ◌<◌, ◌≤◌, ◌+◌, ◌-◌, ℕ, List, [], inl, inr, refl, sym, subst, arith, length, map, Contains, count_by}
use Rattle.std.proofs.lemmas.Bool.{cases_eq}
use Rattle.std.proofs.lemmas.List.Elements.{Contains-append_left}
use Rattle.std.proofs.lemmas.List.Kept.{IsStrictlyIncreasing-filter}
use Rattle.channel_model.specs.declared.wiring.Segment.{Segment}
use Rattle.channel_model.specs.declared.wiring.Segment.TheVariants.{Along}
use Rattle.channel_model.specs.declared.wiring.Wiring.{Wiring}
use Rattle.channel_model.specs.Pins.{Pins, IsChannel}
use Rattle.channel_model.specs.Nets.{nets_of}
use Rattle.channel_model.specs.Density.{is_over, spans_of, density_of}
use Rattle.channel_model.specs.Elements.{horizontal, segment, via, elements}
use Rattle.channel_model.specs.Wired.{Wired}
use Rattle.channel_model.proofs.NetsOf.{nets-are}
use Rattle.left_edge.specs.Columns.{IsUnconstrained}
use Rattle.left_edge.specs.Spans.{nets_over}
use Rattle.left_edge.specs.Single.{is_along_of, AreCovered, IsLeast}
use Rattle.left_edge.proofs.ListLaws.{greatest-reached, enough}
use Rattle.left_edge.proofs.CountLaws.{count_over, over_from}
use Rattle.std_laws.proofs.Members.{member-head, filter-from, map-member}
use Rattle.std_laws.proofs.Increasing.{increasing-distinct}

module _ (pins : Pins) (channel : IsChannel pins) (free : IsUnconstrained pins) (wiring : Wiring) (wired : Wired pins wiring) (covered : AreCovered pins wiring) where
  -- a net over a column lies on a track there
  record LiesOn (column net level : ℕ) : Type 0 where
    from : ℕ
    to : ℕ
    there : Contains (elements wiring) (segment (Along net (level + 1) from to))
    after : from ≤ column
    before : column ≤ to

  lies_on : (column net : ℕ) → Contains (nets_over pins column) net → (level : ℕ) × (level < wiring.tracks) × LiesOn column net level
  lies_on column net over =
      let covers = over_from pins channel free column net over in
      let own = covered net covers.0 in
      let none : List Segment = [] in
      let kept : Contains wiring.segments (Along net own.track own.from own.to) =
      (filter-from (is_along_of net) wiring.segments (Along net own.track own.from own.to)
      (subst (λ l. Contains l (Along net own.track own.from own.to)) (sym own.alone) (member-head (Along net own.track own.from own.to) none))).0 in
      let element : Contains (elements wiring) (segment (Along net own.track own.from own.to)) =
      Contains-append_left (map segment wiring.segments) (map via wiring.vias) (segment (Along net own.track own.from own.to))
      (map-member segment wiring.segments (Along net own.track own.from own.to) kept) in
      let grid = (wired.on_grid (segment (Along net own.track own.from own.to)) element).0 in
      let same : own.track ≡ (own.track - 1) + 1 = omega (arith, grid.0) in (
        own.track - 1,
        omega (arith, grid.0, grid.1),
        record {
          from = own.from;
          to = own.to;
          there = subst (λ track. Contains (elements wiring) (segment (Along net track own.from own.to))) same element;
          after = omega (arith, own.first, covers.1);
          before = omega (arith, own.last, covers.2);
        },
      )

  -- and no two do on one
  one_net : (column n m level : ℕ) → LiesOn column n level → LiesOn column m level → n ≡ m
  one_net column n m level one other =
      wired.apart (segment (Along n (level + 1) one.from one.to)) (segment (Along m (level + 1) other.from other.to))
      one.there other.there
      (record {
        layer = horizontal;
        column = column;
        line = level + 1;
        first = (refl, one.after, one.before);
        second = (refl, other.after, other.before);
      })

  over_few : (column : ℕ) → length (nets_over pins column) ≤ wiring.tracks
  over_few column =
      enough (LiesOn column) wiring.tracks (λ n m level one other. one_net column n m level one other) (nets_over pins column) (lies_on column)
      (increasing-distinct (nets_over pins column) (IsStrictlyIncreasing-filter _ (nets_of pins) (nets-are pins).ascending))

  pub least_tracks : density_of pins ≤ wiring.tracks
  least_tracks =
      elim (cases_eq (density_of pins) 0) [
        | inl none ↦ omega arith
        | inr some ↦
            let at = greatest-reached (λ c. count_by (is_over c) (spans_of pins (nets_of pins))) (length pins.top) (omega arith) in
            omega (arith, at.2, count_over pins channel free at.0, over_few at.0)
      ]

-- no wiring whose nets have one Along each, which covers their pin columns, has fewer tracks than the density
pub density-is_least : (pins : Pins) → IsChannel pins → IsUnconstrained pins → IsLeast pins (density_of pins)
density-is_least pins channel free wiring wired covered = least_tracks pins channel free wiring wired covered
