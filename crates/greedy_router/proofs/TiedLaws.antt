use Rattle.std.proofs.Common.{◌≡◌, inl, inr, ◌<◌, ℕ, List, map, refl, sym, subst, ap, ◌∙◌, arith, Contains}
use Rattle.std.proofs.lemmas.List.Elements.{Contains-append_cases}
use Rattle.channel_model.specs.Pins.{Pins}
use Rattle.channel_model.specs.declared.wiring.Wiring.{Wiring}
use Rattle.channel_model.specs.Elements.{Element, segment, net_of}
use Rattle.channel_model.specs.Wired.{Linked}
use Rattle.plain_router.proofs.ChainLaws.{Linked-trans, Linked-sym}
use Rattle.greedy_column.specs.declared.column.Track.{Track}
use Rattle.greedy_column.specs.Tracks.{ids, line_of}
use Rattle.greedy_column.specs.Replay.{top_pin}
use Rattle.greedy_column.specs.Verticals.{Vertical, joined_verticals, between, IsOver}
use Rattle.greedy_column.specs.Neighbours.{Holds, Grouped, alone, along}
use Rattle.greedy_column.specs.Lawful.{HasEqualPins}
use Rattle.greedy_column.proofs.GroupLaws.{one_holder}
use Rattle.greedy_router.specs.SweepWiring.{across}
use Rattle.greedy_router.proofs.OrderLaws.{line_of-within}
use Rattle.greedy_column.proofs.EnteredLaws.{bottom-holds, top-holds}
use Rattle.greedy_router.proofs.LeftLaws.{left-held}
use Rattle.greedy_column.proofs.VerticalLaws.{straight_of, IsOfPin, of_both, of_bottom, of_top, IsOf, of_pin, of_join, of_rise, of_fall, vertical_kind, joined_kind}
use Rattle.greedy_router.proofs.ViaLaws.{between_net, via_is}
use Rattle.greedy_router.proofs.CourseLaws.{Course}
use Rattle.greedy_router.proofs.PartLaws.{now_at, Part, across_part, along_part, via_part, IsDrawnBy}
use Rattle.greedy_router.proofs.RunLaws.{numbered, lawful, Run, run-now, begins-within}
use Rattle.greedy_router.proofs.LinkLaws.{run_of, runs_meet, via_run, across_in, across_via, across_run, in_order, joined_in, joined_run, has_source, move_over}
use Rattle.std_laws.proofs.Members.{map-cases}

module _ (pins : Pins) (order : List ℕ) (course : Course pins order) (wiring : Wiring) (drawn : IsDrawnBy pins order course wiring)
    (ended : (net id : ℕ) → Holds (course.before course.count) net id → ⊥) where
  abbrev now : ℕ → List Track
  now n = now_at pins order course n

  abbrev joined : ℕ → List Vertical
  joined n = joined_verticals pins n (course.done n) (now n)

  -- the wire along a track in a column
  abbrev pub RunAt : ℕ → ℕ → ℕ → Type 0
  RunAt n net id = Run pins order course net id n n

  abbrev pub wire : (n net id : ℕ) → RunAt n net id → Element
  wire n net id run = run_of pins order course wiring drawn net id n n run

  run_at : (n net id : ℕ) → n < course.count → Holds (now n) net id → RunAt n net id
  run_at n net id within held = run-now pins order course ended n net id within held

  -- tracks of one group are linked
  pub group_linked : (n net a b : ℕ) → n < course.count → Holds (now n) net a → Grouped (now n) (joined n) a b
      → (one : RunAt n net a) (two : RunAt n net b) → Linked wiring (wire n net a one) (wire n net b two)
  group_linked n net a b within held alone one two =
      runs_meet pins order course wiring drawn net a n n net a n n one two n refl (omega arith) (omega arith) (omega arith) (omega arith)
  group_linked n net a b within held (along {b = c} v member first second over too rest) one two =
      let same : v.net ≡ net = one_holder (now n) v.net net a first held in
      let next : Holds (now n) net c = subst (λ m. Holds (now n) m c) same second in
      let middle = run_at n net c within next in
      let up : Linked wiring (segment (across order n v)) (wire n net a one) =
      subst (λ m. (run : RunAt n m a) → Linked wiring (segment (across order n v)) (wire n m a run)) same
      (joined_run pins order course wiring drawn n a v within member first over) one in
      let down : Linked wiring (segment (across order n v)) (wire n net c middle) =
      subst (λ m. (run : RunAt n m c) → Linked wiring (segment (across order n v)) (wire n m c run)) same
      (joined_run pins order course wiring drawn n c v within member second too) middle in
      let inside = across_in pins order course wiring drawn n v within (joined_in pins order course wiring drawn n v within member) in
      Linked-trans (Linked-trans (Linked-sym inside up) down) (group_linked n net c b within next rest middle two)

  -- an element is linked to the wire along a track that a net holds in a column
  pub record Tied (n net : ℕ) (e : Element) : Type 0 where
    pub id : ℕ
    pub held : Holds (now n) net id
    pub linked : (run : RunAt n net id) → Linked wiring e (wire n net id run)

  -- a track of its net that a vertical covers
  abbrev Covered : ℕ → ℕ → Vertical → Type 0
  Covered n net v = (id : ℕ) × Holds (now n) net id × IsOver (ids (now n)) v (line_of (ids (now n)) id)

  covered_pin : (n net id : ℕ) (v : Vertical) → n < course.count → IsOfPin pins n (course.before n) (course.done n) v → v.net ≡ net → Holds (now n) net id → Covered n net v
  covered_pin n net id v within (of_both equal) same held =
      let inside = line_of-within (ids (now n)) id held.there in (id, held, (omega arith, omega (arith, inside)))
  covered_pin n net id v within (of_bottom enters) same held =
      let own = bottom-holds pins n (course.fresh n) (course.before n) (course.done n) (numbered pins order course n within) (lawful pins order course n within) enters in
      ((course.done n).bottom, subst (λ m. Holds (now n) m (course.done n).bottom) same own, (omega arith, omega arith))
  covered_pin n net id v within (of_top enters apart) same held =
      let own = top-holds pins n (course.fresh n) (course.before n) (course.done n) (numbered pins order course n within) (lawful pins order course n within) enters in
      let inside = line_of-within (ids (now n)) (course.done n).top own.there in
      ((course.done n).top, subst (λ m. Holds (now n) m (course.done n).top) same own, (omega arith, omega (arith, inside)))

  covered_joined : (n net id : ℕ) (v : Vertical) → n < course.count → Contains (joined n) v → v.net ≡ net → Holds (now n) net id → Covered n net v
  covered_joined n net id v within member same held =
      elim (joined_kind pins n (course.before n) (course.done n) (course.fresh n) (numbered pins order course n within) (lawful pins order course n within) v member) [
        | inl pin ↦ covered_pin n net id v within pin same held
        | inr (other, (low, (high, join, pair, is))) ↦
            let own : other ≡ net = ap (λ (w : Vertical). w.net) is ∙ same in
            let above = pair.above in
            subst (λ w. Covered n net w) is (low, subst (λ m. Holds (now n) m low) own pair.lower, (omega arith, omega (arith, above)))
      ]

  tied_joined : (n net id : ℕ) (v : Vertical) → n < course.count → Contains (joined n) v → v.net ≡ net → Holds (now n) net id → Tied n net (segment (across order n v))
  tied_joined n net id v within member same held =
      let covered = covered_joined n net id v within member same held in
      record {
        id = covered.0;
        held = covered.1;
        linked = subst (λ m. (run : RunAt n m covered.0) → Linked wiring (segment (across order n v)) (wire n m covered.0 run)) same
            (joined_run pins order course wiring drawn n covered.0 v within member (subst (λ m. Holds (now n) m covered.0) (sym same) covered.1) covered.2);
      }

  -- a move's vertical is linked to the wire along the track from which it comes
  move_tied : (n net old new : ℕ) → n < course.count → Contains (course.done n).moves (old, new) → Holds (now n) net old
      → Tied n net (segment (across order n (between (now n) (old, new))))
  move_tied n net old new within member held =
      let over = move_over pins order course wiring drawn n net old new within member held in
      record {
        id = old;
        held = held;
        linked = λ run. across_run pins order course wiring drawn n net old n n (between (now n) (old, new)) within (in_order pins order course wiring drawn n net old within held)
            (has_source pins order course wiring drawn n old new within member) over.1.0 run (omega arith) (omega arith);
      }

  tied_moved : (n net : ℕ) (v : Vertical) → n < course.count → Contains (map (between (now n)) (course.done n).moves) v → v.net ≡ net → Tied n net (segment (across order n v))
  tied_moved n net v within member same =
      let from = map-cases (between (now n)) (course.done n).moves v member in
      let old : ℕ = from.0.0 in
      let new : ℕ = from.0.1 in
      let move = (lawful pins order course n within).moves old new from.1 in
      let own : move.held.0 ≡ net = sym move.held.1.held ∙ sym (between_net (now n) old new) ∙ ap (λ (w : Vertical). w.net) from.2 ∙ same in
      subst (λ w. Tied n net (segment (across order n w))) from.2
      (move_tied n net old new within from.1 (subst (λ m. Holds (now n) m old) own move.held.1))

  -- where a net holds a track, each element of it in the column is tied
  pub part_tied : (n net id : ℕ) (e : Element) → n < course.count → Holds (now n) net id → Part pins order course n e → net_of e ≡ net → Tied n net e
  part_tied n net id e within held (across_part v member) same =
      elim (Contains-append_cases (joined n) (map (between (now n)) (course.done n).moves) v member) [
        | inl join ↦ tied_joined n net id v within join same held
        | inr move ↦ tied_moved n net v within move same
      ]
  part_tied n net id e within held (along_part own member left) same =
      let holder = left-held pins n (course.fresh n) (course.before n) (course.done n) (numbered pins order course n within) (lawful pins order course n within) own left in
      let is : holder.0 ≡ net = sym holder.1.held ∙ same in
      let here : Holds (now n) net own = subst (λ m. Holds (now n) m own) is holder.1 in
      let first : RunAt n net own = record { end = n; within = within; left = left; held = here; start = begins-within pins order course n own within; stop = omega arith } in
      record {
        id = own;
        held = here;
        linked = λ run. runs_meet pins order course wiring drawn net own n n net own n n first run n refl (omega arith) (omega arith) (omega arith) (omega arith);
      }
  part_tied n net id e within held (via_part own member has) same =
      let is = via_is pins n (course.fresh n) (course.before n) (course.done n) (numbered pins order course n within) (lawful pins order course n within) order (course.at n within).earlier own has in
      let equal : is.net ≡ net = sym is.is ∙ same in
      elim is.held [
        | inl here ↦ record {
          id = own;
          held = subst (λ m. Holds (now n) m own) equal here;
          linked = λ run. via_run pins order course wiring drawn n net own n n has run (omega arith) (omega arith);
        }
        | inr (old, move, there) ↦
            let source : Holds (now n) net old = subst (λ m. Holds (now n) m old) equal there in
            let over = move_over pins order course wiring drawn n net old own within move source in
            let v : Vertical = between (now n) (old, own) in
            let tied = move_tied n net old own within move source in
            let up = across_via pins order course wiring drawn n own v within member has over.1.1 in
            record {
              id = tied.id;
              held = tied.held;
              linked = λ run. Linked-trans (Linked-sym (across_in pins order course wiring drawn n v within over.0) up) (tied.linked run);
            }
      ]

  -- where a net holds no track, it has at most one element in the column: from edge to edge
  pub record IsAlone (n net : ℕ) (e : Element) : Type 0 where
    pub equal : HasEqualPins pins n
    pub net_is : top_pin pins n ≡ net
    pub is : segment (across order n (straight_of (top_pin pins n))) ≡ e

  alone_pin : (n net : ℕ) (v : Vertical) → n < course.count → ((id : ℕ) → Holds (now n) net id → ⊥) → IsOfPin pins n (course.before n) (course.done n) v → v.net ≡ net
      → IsAlone n net (segment (across order n v))
  alone_pin n net v within none (of_both equal) same = record { equal = equal; net_is = same; is = refl }
  alone_pin n net v within none (of_bottom enters) same =
      let own = bottom-holds pins n (course.fresh n) (course.before n) (course.done n) (numbered pins order course n within) (lawful pins order course n within) enters in
      absurd (none (course.done n).bottom (subst (λ m. Holds (now n) m (course.done n).bottom) same own))
  alone_pin n net v within none (of_top enters apart) same =
      let own = top-holds pins n (course.fresh n) (course.before n) (course.done n) (numbered pins order course n within) (lawful pins order course n within) enters in
      absurd (none (course.done n).top (subst (λ m. Holds (now n) m (course.done n).top) same own))

  alone_vertical : (n net : ℕ) (v : Vertical) → n < course.count → ((id : ℕ) → Holds (now n) net id → ⊥) → IsOf pins n (course.before n) (course.done n) v → v.net ≡ net
      → IsAlone n net (segment (across order n v))
  alone_vertical n net v within none (of_pin kind) same = alone_pin n net v within none kind same
  alone_vertical n net v within none (of_join other low high member pair) same = absurd (none low (subst (λ m. Holds (now n) m low) same pair.lower))
  alone_vertical n net v within none (of_rise other old new member held rise) same = absurd (none old (subst (λ m. Holds (now n) m old) same held))
  alone_vertical n net v within none (of_fall other old new member held fall) same = absurd (none old (subst (λ m. Holds (now n) m old) same held))

  pub part_alone : (n net : ℕ) (e : Element) → n < course.count → ((id : ℕ) → Holds (now n) net id → ⊥) → Part pins order course n e → net_of e ≡ net → IsAlone n net e
  part_alone n net e within none (across_part v member) same =
      alone_vertical n net v within none
      (vertical_kind pins n (course.before n) (course.done n) (course.fresh n) (numbered pins order course n within) (lawful pins order course n within) v member) same
  part_alone n net e within none (along_part own member left) same =
      let holder = left-held pins n (course.fresh n) (course.before n) (course.done n) (numbered pins order course n within) (lawful pins order course n within) own left in
      absurd (none own (subst (λ m. Holds (now n) m own) (sym holder.1.held ∙ same) holder.1))
  part_alone n net e within none (via_part own member has) same =
      let is = via_is pins n (course.fresh n) (course.before n) (course.done n) (numbered pins order course n within) (lawful pins order course n within) order (course.at n within).earlier own has in
      let equal : is.net ≡ net = sym is.is ∙ same in
      absurd (elim is.held [
        | inl here ↦ none own (subst (λ m. Holds (now n) m own) equal here)
        | inr (old, move, there) ↦ none old (subst (λ m. Holds (now n) m old) equal there)
      ])
