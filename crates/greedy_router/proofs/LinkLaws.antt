use Rattle.std.proofs.Common.{◌≡◌, inl, inr, ◌<◌, ◌≤◌, ℕ, List, refl, ap, arith, Contains}
use Rattle.channel_model.specs.Pins.{Pins}
use Rattle.channel_model.specs.declared.wiring.Wiring.{Wiring}
use Rattle.channel_model.specs.Elements.{Element, segment, via, elements, vertical, horizontal}
use Rattle.channel_model.specs.Wired.{Linked}
use Rattle.plain_router.proofs.ChainLaws.{Linked-trans, Linked-sym, Linked-step}
use Rattle.greedy_column.specs.declared.column.Track.{Track}
use Rattle.greedy_column.specs.Tracks.{ids, line_of}
use Rattle.greedy_column.specs.Verticals.{Vertical, joined_verticals, between, IsOver}
use Rattle.greedy_column.specs.Neighbours.{Holds}
use Rattle.greedy_router.specs.SweepWiring.{across}
use Rattle.greedy_router.proofs.OrderLaws.{IsEarlier, earlier-in, over_before}
use Rattle.greedy_router.proofs.LeftLaws.{Goes}
use Rattle.greedy_column.proofs.VerticalLaws.{vertical_kind}
use Rattle.greedy_router.proofs.VerticalLaws.{upright}
use Rattle.greedy_router.proofs.ViaLaws.{between_over, in_all, move_in, upward, has-source, has-target, has-joined}
use Rattle.greedy_router.proofs.CourseLaws.{Course}
use Rattle.greedy_router.proofs.PartLaws.{now_at, verticals_at, has_via_at, along_at, via_at, across_part, along_part, via_part, IsDrawnBy}
use Rattle.greedy_router.proofs.RunLaws.{numbered, lawful, Run}

module _ (pins : Pins) (order : List ℕ) (course : Course pins order) (wiring : Wiring) (drawn : IsDrawnBy pins order course wiring) where
  abbrev now : ℕ → List Track
  now n = now_at pins order course n

  abbrev joined : ℕ → List Vertical
  joined n = joined_verticals pins n (course.done n) (now n)

  abbrev earlier : (n : ℕ) → n < course.count → IsEarlier (ids (now n)) order
  earlier n within = (course.at n within).earlier

  -- the wire of a run
  abbrev pub run_of : (net id from to : ℕ) → Run pins order course net id from to → Element
  run_of net id from to run = segment (along_at pins order course run.end id)

  pub run_in : (net id from to : ℕ) (run : Run pins order course net id from to) → Contains (elements wiring) (run_of net id from to run)
  run_in net id from to run =
      drawn.of_part run.end (run_of net id from to run) run.within
      (along_part id (earlier-in (ids (now run.end)) order (earlier run.end run.within) id run.held.there) run.left)

  -- two runs on one track through one column meet
  pub runs_meet : (net id a b other too c d : ℕ) (one : Run pins order course net id a b) (two : Run pins order course other too c d) (x : ℕ) → id ≡ too
      → a ≤ x → x ≤ b → c ≤ x → x ≤ d → Linked wiring (run_of net id a b one) (run_of other too c d two)
  runs_meet net id a b other too c d one two x same first second third fourth =
      Linked-step (run_in other too c d two) (record {
        layer = horizontal;
        column = x;
        line = line_of order id;
        first = (refl, omega (arith, one.start, first), omega (arith, one.stop, second));
        second = (ap (line_of order) same, omega (arith, two.start, third), omega (arith, two.stop, fourth));
      })

  pub via_in : (n id : ℕ) → n < course.count → Contains order id → has_via_at pins order course n id → Contains (elements wiring) (via (via_at pins order course n id))
  via_in n id within member has = drawn.of_part n (via (via_at pins order course n id)) within (via_part id member has)

  -- a via meets the run on its track, and the vertical over it
  pub via_run : (n net id a b : ℕ) → has_via_at pins order course n id → (run : Run pins order course net id a b) → a ≤ n → n ≤ b
      → Linked wiring (via (via_at pins order course n id)) (run_of net id a b run)
  via_run n net id a b has run first second =
      Linked-step (run_in net id a b run) (record {
        layer = horizontal;
        column = n;
        line = line_of order id;
        first = (refl, refl);
        second = (refl, omega (arith, run.start, first), omega (arith, run.stop, second));
      })

  pub across_via : (n id : ℕ) (v : Vertical) → n < course.count → Contains order id → has_via_at pins order course n id → IsOver order v (line_of order id)
      → Linked wiring (segment (across order n v)) (via (via_at pins order course n id))
  across_via n id v within member has over =
      Linked-step (via_in n id within member has)
      (record { layer = vertical; column = n; line = line_of order id; first = (refl, over.0, over.1); second = (refl, refl) })

  pub across_in : (n : ℕ) (v : Vertical) → n < course.count → Contains (verticals_at pins order course n) v → Contains (elements wiring) (segment (across order n v))
  across_in n v within member = drawn.of_part n (segment (across order n v)) within (across_part v member)

  pub in_order : (n net id : ℕ) → n < course.count → Holds (now n) net id → Contains order id
  in_order n net id within held = earlier-in (ids (now n)) order (earlier n within) id held.there

  -- a vertical is linked to the run of each track of its net that it covers
  pub across_run : (n net id a b : ℕ) (v : Vertical) → n < course.count → Contains order id → has_via_at pins order course n id → IsOver order v (line_of order id)
      → (run : Run pins order course net id a b) → a ≤ n → n ≤ b → Linked wiring (segment (across order n v)) (run_of net id a b run)
  across_run n net id a b v within member has over run first second =
      Linked-trans (across_via n id v within member has over) (via_run n net id a b has run first second)

  has_joined : (n id : ℕ) (v : Vertical) → n < course.count → Contains (joined n) v → Holds (now n) v.net id → IsOver (ids (now n)) v (line_of (ids (now n)) id)
      → has_via_at pins order course n id × IsOver order v (line_of order id)
  has_joined n id v within member held over =
      let kind = vertical_kind pins n (course.before n) (course.done n) (course.fresh n) (numbered pins order course n within) (lawful pins order course n within) v
      (in_all pins n (course.fresh n) (course.before n) (course.done n) (numbered pins order course n within) (lawful pins order course n within) order (earlier n within) v member) in
      let is = upright pins n (course.before n) (course.done n) (course.fresh n) (numbered pins order course n within) (lawful pins order course n within) v kind in (
        has-joined pins n (course.fresh n) (course.before n) (course.done n) (numbered pins order course n within) (lawful pins order course n within) order (earlier n within) id v member held over,
        (over_before (ids (now n)) order (earlier n within) v id is.drawn held.there).0 over,
      )

  pub joined_in : (n : ℕ) (v : Vertical) → n < course.count → Contains (joined n) v → Contains (verticals_at pins order course n) v
  joined_in n v within member =
      in_all pins n (course.fresh n) (course.before n) (course.done n) (numbered pins order course n within) (lawful pins order course n within) order (earlier n within) v member

  pub joined_run : (n id : ℕ) (v : Vertical) → n < course.count → Contains (joined n) v → Holds (now n) v.net id → IsOver (ids (now n)) v (line_of (ids (now n)) id)
      → (run : Run pins order course v.net id n n) → Linked wiring (segment (across order n v)) (run_of v.net id n n run)
  joined_run n id v within member held over run =
      let has = has_joined n id v within member held over in
      across_run n v.net id n n v within (in_order n v.net id within held) has.0 has.1 run (omega arith) (omega arith)

  -- what moves is linked to where it moves
  pub move_over : (n net old new : ℕ) → n < course.count → Contains (course.done n).moves (old, new) → Holds (now n) net old
      → Contains (verticals_at pins order course n) (between (now n) (old, new))
      × (IsOver order (between (now n) (old, new)) (line_of order old) × IsOver order (between (now n) (old, new)) (line_of order new))
  move_over n net old new within member held =
      let inside = move_in pins n (course.fresh n) (course.before n) (course.done n) (numbered pins order course n within) (lawful pins order course n within) order (earlier n within) old new member in (
        inside,
        between_over (now n) order old new
            (upward pins n (course.fresh n) (course.before n) (course.done n) (numbered pins order course n within) (lawful pins order course n within) order (earlier n within) (between (now n) (old, new)) inside),
      )

  pub has_source : (n old new : ℕ) → n < course.count → Contains (course.done n).moves (old, new) → has_via_at pins order course n old
  has_source n old new within member =
      has-source pins n (course.fresh n) (course.before n) (course.done n) (numbered pins order course n within) (lawful pins order course n within) order (earlier n within) old new member

  pub has_target : (n old new : ℕ) → n < course.count → Contains (course.done n).moves (old, new) → has_via_at pins order course n new
  has_target n old new within member =
      has-target pins n (course.fresh n) (course.before n) (course.done n) (numbered pins order course n within) (lawful pins order course n within) order (earlier n within) old new member

  pub goes_linked : (n net old new a b c d : ℕ) → n < course.count → Holds (now n) net old → Contains order new → Goes (course.done n) old new
      → (one : Run pins order course net old a b) → a ≤ n → n ≤ b → (two : Run pins order course net new c d) → c ≤ n → n ≤ d
      → Linked wiring (run_of net old a b one) (run_of net new c d two)
  goes_linked n net old new a b c d within held there (inl (same, stays)) one first second two third fourth =
      runs_meet net old a b net new c d one two n same first second third fourth
  goes_linked n net old new a b c d within held there (inr member) one first second two third fourth =
      let over = move_over n net old new within member held in
      let v : Vertical = between (now n) (old, new) in
      let own = in_order n net old within held in
      Linked-trans
      (Linked-sym (across_in n v within over.0) (across_run n net old a b v within own (has_source n old new within member) over.1.0 one first second))
      (across_run n net new c d v within there (has_target n old new within member) over.1.1 two third fourth)
