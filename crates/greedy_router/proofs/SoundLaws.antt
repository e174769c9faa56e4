use Rattle.std.proofs.Common.{◌≡◌, inl, inr, ◌<◌, ◌≤◌, ◌+◌, eqb, ℕ, suc, List, [], ◌∷◌, Bool, true, false, cond, length, refl, sym, subst, ap, ◌∙◌, arith, Contains}
use Rattle.channel_model.specs.Pins.{Pins}
use Rattle.channel_model.specs.Nets.{StandsIn}
use Rattle.channel_model.specs.Elements.{Element, segment, net_of, Layer, vertical, horizontal, Covers, Meets}
use Rattle.channel_model.specs.Wired.{IsOnGrid, KeepsEdges}
use Rattle.greedy_column.specs.declared.column.Track.{Track}
use Rattle.greedy_column.specs.Tracks.{ids, line_of}
use Rattle.greedy_column.specs.Verticals.{Vertical, Port, floor, on, ceiling, line_at, IsOver}
use Rattle.greedy_router.specs.SweepWiring.{across}
use Rattle.greedy_router.proofs.OrderLaws.{earlier-in, line_of-positive, line_of-within, shared_before}
use Rattle.greedy_column.proofs.EnteredLaws.{bottom-there, target-free}
use Rattle.greedy_router.proofs.LeftLaws.{left-held}
use Rattle.greedy_column.proofs.VerticalLaws.{one_on_line, IsOfPin, of_both, of_bottom, of_top, IsOf, of_pin, of_join, of_rise, of_fall, vertical_kind}
use Rattle.greedy_router.proofs.VerticalLaws.{upright}
use Rattle.greedy_router.proofs.ViaLaws.{upward, via_is}
use Rattle.greedy_router.proofs.CourseLaws.{Course}
use Rattle.greedy_router.proofs.PartLaws.{now_at, verticals_at, Part, across_part, along_part, via_part}
use Rattle.greedy_router.proofs.RunLaws.{numbered, lawful, stands-now, begins-within, owner, owned-now}

-- no port lies above the upper edge
port_within : (order : List ℕ) (p : Port) → line_at order p ≤ length order + 1
port_within order floor = omega arith
port_within order (on id) = at order id where
  at : (order : List ℕ) (id : ℕ) → line_of order id ≤ length order + 1
  at [] id = omega arith
  at (i ∷ order) id = step (eqb i id) (line_of order id) (length order) (at order id) where
    step : (b : Bool) (line long : ℕ) → line ≤ long + 1 → cond b 1 (suc line) ≤ suc long + 1
    step true line long less = omega arith
    step false line long less = omega (arith, less)
port_within order ceiling = omega arith

module _ (pins : Pins) (order : List ℕ) (course : Course pins order) where
  abbrev now : ℕ → List Track
  now n = now_at pins order course n

  -- an element of a column is on the grid and of a net that stands, and keeps the edges
  pub record IsSound (e : Element) : Type 0 where
    pub stands : StandsIn pins (net_of e)
    pub grid : IsOnGrid course.count (length order) e
    pub edges : KeepsEdges pins (length order) e

  stands_pin : (n : ℕ) (v : Vertical) → IsOfPin pins n (course.before n) (course.done n) v → StandsIn pins v.net
  stands_pin n v (of_both equal) = (equal.some, (n, inl refl))
  stands_pin n v (of_bottom enters) = (enters.0, (n, inr refl))
  stands_pin n v (of_top enters apart) = (elim enters [ inl own ↦ own.0 | inr straight ↦ straight.equal.some ], (n, inl refl))

  stands_vertical : (n : ℕ) (v : Vertical) → n < course.count → IsOf pins n (course.before n) (course.done n) v → StandsIn pins v.net
  stands_vertical n v within (of_pin kind) = stands_pin n v kind
  stands_vertical n v within (of_join net low high member pair) = stands-now pins order course n net low within pair.lower
  stands_vertical n v within (of_rise net old new member held rise) = stands-now pins order course n net old within held
  stands_vertical n v within (of_fall net old new member held fall) = stands-now pins order course n net old within held

  -- what reaches an edge is of the pin there
  not_low : (id : ℕ) → line_of order id ≡ 0 → ⊥
  not_low id at = let some = line_of-positive order id in omega (arith, some, at)

  not_high : (n id : ℕ) → n < course.count → Contains (ids (now n)) id → line_of order id ≡ length order + 1 → ⊥
  not_high n id within member at =
      let inside = line_of-within order id (earlier-in (ids (now n)) order (course.at n within).earlier id member) in
      omega (arith, inside, at)

  edges_pin : (n : ℕ) (v : Vertical) → n < course.count → IsOfPin pins n (course.before n) (course.done n) v → KeepsEdges pins (length order) (segment (across order n v))
  edges_pin n v within (of_both equal) = ((λ low. sym equal.equal), (λ high. refl))
  edges_pin n v within (of_bottom enters) = (
    (λ low. refl),
    (λ high. absurd (not_high n (course.done n).bottom within
        (bottom-there pins n (course.fresh n) (course.before n) (course.done n) (numbered pins order course n within) (lawful pins order course n within) enters) high)),
  )
  edges_pin n v within (of_top enters apart) = ((λ low. absurd (not_low (course.done n).top low)), (λ high. refl))

  edges_vertical : (n : ℕ) (v : Vertical) → n < course.count → IsOf pins n (course.before n) (course.done n) v → KeepsEdges pins (length order) (segment (across order n v))
  edges_vertical n v within (of_pin kind) = edges_pin n v within kind
  edges_vertical n v within (of_join net low high member pair) =
      ((λ at. absurd (not_low low at)), (λ at. absurd (not_high n high within pair.upper.there at)))
  edges_vertical n v within (of_rise net old new member held rise) =
      let free = target-free pins n (course.fresh n) (course.before n) (course.done n) (numbered pins order course n within) (lawful pins order course n within) old new
      ((lawful pins order course n within).moves old new member) in
      ((λ at. absurd (not_low old at)), (λ at. absurd (not_high n new within free.0 at)))
  edges_vertical n v within (of_fall net old new member held fall) =
      ((λ at. absurd (not_low new at)), (λ at. absurd (not_high n old within held.there at)))

  kind_at : (n : ℕ) (v : Vertical) → n < course.count → Contains (verticals_at pins order course n) v → IsOf pins n (course.before n) (course.done n) v
  kind_at n v within member =
      vertical_kind pins n (course.before n) (course.done n) (course.fresh n) (numbered pins order course n within) (lawful pins order course n within) v member

  pub sound : (n : ℕ) (e : Element) → n < course.count → Part pins order course n e → IsSound e
  sound n e within (across_part v member) =
      let kind = kind_at n v within member in
      record {
        stands = stands_vertical n v within kind;
        grid = (
          within,
          upward pins n (course.fresh n) (course.before n) (course.done n) (numbered pins order course n within) (lawful pins order course n within) order (course.at n within).earlier v member,
          port_within order v.high,
        );
        edges = edges_vertical n v within kind;
      }
  sound n e within (along_part id member left) =
      let holder = left-held pins n (course.fresh n) (course.before n) (course.done n) (numbered pins order course n within) (lawful pins order course n within) id left in
      record {
        stands = subst (λ m. StandsIn pins m) (sym holder.1.held) (stands-now pins order course n holder.0 id within holder.1);
        grid = (line_of-positive order id, line_of-within order id member, begins-within pins order course n id within, within);
        edges = tt;
      }
  sound n e within (via_part id member has) =
      let is = via_is pins n (course.fresh n) (course.before n) (course.done n) (numbered pins order course n within) (lawful pins order course n within) order (course.at n within).earlier id has in
      record {
        stands = subst (λ m. StandsIn pins m) (sym is.is) (elim is.held [
          | inl held ↦ stands-now pins order course n is.net id within held
          | inr (old, move, held) ↦ stands-now pins order course n is.net old within held
        ]);
        grid = (within, line_of-positive order id, line_of-within order id member);
        edges = tt;
      }

  -- who owns a point: of the vertical layer a vertical that covers it, of the horizontal layer the owner of the track
  pub record OwnsVertical (net x y : ℕ) : Type 0 where
    pub within : x < course.count
    pub v : Vertical
    pub member : Contains (verticals_at pins order course x) v
    pub net_is : v.net ≡ net
    pub over : IsOver order v y

  pub record OwnsHorizontal (net x y : ℕ) : Type 0 where
    pub id : ℕ
    pub member : Contains order id
    pub line_is : y ≡ line_of order id
    pub owned : owner pins order course x id ≡ net

  owns_vertical : (n : ℕ) (e : Element) → n < course.count → Part pins order course n e → (x y : ℕ) → Covers e vertical x y → OwnsVertical (net_of e) x y
  owns_vertical n e within (across_part v member) x y (at, low, high) =
      subst (λ c. OwnsVertical v.net c y) (sym at) (record { within = within; v = v; member = member; net_is = refl; over = (low, high) })
  owns_vertical n e within (along_part id member left) x y covers = absurd covers
  owns_vertical n e within (via_part id member has) x y (at, line) =
      let is = via_is pins n (course.fresh n) (course.before n) (course.done n) (numbered pins order course n within) (lawful pins order course n within) order (course.at n within).earlier id has in
      subst (λ c. OwnsVertical (owner pins order course n id) c y) (sym at) (record {
        within = within;
        v = is.v;
        member = is.member;
        net_is = is.net_is ∙ sym is.is;
        over = subst (λ l. IsOver order is.v l) (sym line) is.over;
      })

  owns_horizontal : (n : ℕ) (e : Element) → n < course.count → Part pins order course n e → (x y : ℕ) → Covers e horizontal x y → OwnsHorizontal (net_of e) x y
  owns_horizontal n e within (across_part v member) x y covers = absurd covers
  owns_horizontal n e within (along_part id member left) x y (line, from, to) =
      let holder = left-held pins n (course.fresh n) (course.before n) (course.done n) (numbered pins order course n within) (lawful pins order course n within) id left in
      record {
        id = id;
        member = member;
        line_is = line;
        owned = owned-now pins order course n holder.0 id within holder.1 x from to ∙ sym holder.1.held;
      }
  owns_horizontal n e within (via_part id member has) x y (at, line) = record {
    id = id;
    member = member;
    line_is = line;
    owned = ap (λ c. owner pins order course c id) at;
  }

  one_vertical : (net other x y : ℕ) → OwnsVertical net x y → OwnsVertical other x y → net ≡ other
  one_vertical net other x y one two =
      let within = one.within in
      let first = upright pins x (course.before x) (course.done x) (course.fresh x) (numbered pins order course x within) (lawful pins order course x within) one.v (kind_at x one.v within one.member) in
      let second = upright pins x (course.before x) (course.done x) (course.fresh x) (numbered pins order course x within) (lawful pins order course x within) two.v (kind_at x two.v within two.member) in
      let over = one.over in
      let too = two.over in
      sym one.net_is
      ∙ (lawful pins order course x within).apart one.v two.v one.member two.member
      (shared_before (ids (now x)) order (course.at x within).earlier one.v two.v first.drawn second.drawn (omega (arith, over.0, too.1), omega (arith, too.0, over.1)))
      ∙ two.net_is

  one_horizontal : (net other x y : ℕ) → OwnsHorizontal net x y → OwnsHorizontal other x y → net ≡ other
  one_horizontal net other x y one two =
      let same = one_on_line order one.id two.id course.apart one.member two.member (sym one.line_is ∙ two.line_is) in
      sym one.owned ∙ ap (λ i. owner pins order course x i) same ∙ two.owned

  one_owner : (n k : ℕ) (e f : Element) → n < course.count → k < course.count → Part pins order course n e → Part pins order course k f
      → (layer : Layer) (x y : ℕ) → Covers e layer x y → Covers f layer x y → net_of e ≡ net_of f
  one_owner n k e f within too one two vertical x y first second =
      one_vertical (net_of e) (net_of f) x y (owns_vertical n e within one x y first) (owns_vertical k f too two x y second)
  one_owner n k e f within too one two horizontal x y first second =
      one_horizontal (net_of e) (net_of f) x y (owns_horizontal n e within one x y first) (owns_horizontal k f too two x y second)

  -- elements that share a point are of one net
  pub parts_apart : (n k : ℕ) (e f : Element) → n < course.count → k < course.count → Part pins order course n e → Part pins order course k f → Meets e f → net_of e ≡ net_of f
  parts_apart n k e f within too one two meets = one_owner n k e f within too one two meets.layer meets.column meets.line meets.first meets.second
