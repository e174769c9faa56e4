use Rattle.std.proofs.Common.{◌≡◌, ◌⊎◌, inl, inr, ◌<◌, ◌≤◌, eqb, ℕ, zero, suc, List, Bool, true, false, refl, sym, subst, ◌∙◌, arith, Contains, eqb-true, eq-eqb}
use Rattle.std.proofs.lemmas.Bool.{cases_lt, cases_Bool}
use Rattle.std.specs.List.{list_any}
use Rattle.channel_model.specs.Pins.{Pins}
use Rattle.channel_model.specs.declared.wiring.Wiring.{Wiring}
use Rattle.channel_model.specs.Elements.{Element, elements, net_of}
use Rattle.channel_model.specs.Wired.{Linked, itself}
use Rattle.plain_router.proofs.ChainLaws.{Linked-trans, Linked-sym}
use Rattle.greedy_column.specs.declared.column.Track.{Track}
use Rattle.greedy_column.specs.Tracks.{ids, held_by}
use Rattle.greedy_column.specs.Replay.{top_pin, bottom_pin}
use Rattle.greedy_column.specs.Neighbours.{Holds}
use Rattle.greedy_column.specs.Lawful.{HasEqualPins}
use Rattle.greedy_column.specs.Keeping.{GivesUp, GoesOn}
use Rattle.greedy_router.proofs.OrderLaws.{earlier-in}
use Rattle.greedy_column.proofs.EnteredLaws.{from-before, top-holds}
use Rattle.greedy_router.proofs.LeftLaws.{goes-on, goes-somewhere}
use Rattle.greedy_router.proofs.CourseLaws.{Course}
use Rattle.greedy_router.proofs.PartLaws.{now_at, Part, IsDrawnBy}
use Rattle.greedy_router.proofs.RunLaws.{numbered, lawful, held-now, held-next, came, run-now, run-before}
use Rattle.greedy_router.proofs.LinkLaws.{run_of, runs_meet, goes_linked}
use Rattle.greedy_router.proofs.TiedLaws.{RunAt, wire, group_linked, Tied, part_tied, IsAlone, part_alone}
use Rattle.std_laws.proofs.Members.{any-cases, any-member}

-- a net holds some track, or none
pub holds-some : (tracks : List Track) (net : ℕ) → 0 < net → ((id : ℕ) × Holds tracks net id) ⊎ ((id : ℕ) → Holds tracks net id → ⊥)
holds-some tracks net some = elim (cases_Bool (list_any (λ id. eqb (held_by tracks id) net) (ids tracks))) [
  | inl is ↦
      let found = any-cases (λ id. eqb (held_by tracks id) net) (ids tracks) is in
      inl (found.0, record { net_is = some; there = found.1; held = eqb-true (held_by tracks found.0) net found.2 })
  | inr none ↦ inr (λ id held. cc (none, any-member (λ i. eqb (held_by tracks i) net) (ids tracks) id held.there (eq-eqb (held_by tracks id) net held.held)))
]

module _ (pins : Pins) (order : List ℕ) (course : Course pins order) (wiring : Wiring) (drawn : IsDrawnBy pins order course wiring)
    (ended : (net id : ℕ) → Holds (course.before course.count) net id → ⊥) where
  abbrev now : ℕ → List Track
  now n = now_at pins order course n

  -- an element of a net in a column before this one
  pub record Earlier (n net : ℕ) (e : Element) : Type 0 where
    pub column : ℕ
    pub before : column < n
    pub part : Part pins order course column e
    pub net_is : net_of e ≡ net

  -- Before a column a net is open, each element of it so far being linked to a track that it holds, or it is closed: all its
  -- elements are linked, it holds no track and has no pin from here on.
  pub record IsOpenTo (n net : ℕ) (e : Element) : Type 0 where
    pub id : ℕ
    pub held : Holds (course.before n) net id
    pub linked : (run : RunAt pins order course wiring drawn ended n net id) → Linked wiring e (wire pins order course wiring drawn ended n net id run)

  abbrev pub IsOpenNet : ℕ → ℕ → Type 0
  IsOpenNet n net = (e : Element) → Earlier n net e → IsOpenTo n net e

  pub record IsClosedNet (n net : ℕ) : Type 0 where
    pub none : (id : ℕ) → Holds (course.before n) net id → ⊥
    pub no_pin : (column : ℕ) → n ≤ column → (top_pin pins column ≡ net) ⊎ (bottom_pin pins column ≡ net) → ⊥
    pub linked : (e f : Element) → Earlier n net e → Earlier n net f → Linked wiring e f

  abbrev pub IsPieced : ℕ → ℕ → Type 0
  IsPieced n net = IsOpenNet n net ⊎ IsClosedNet n net

  earlier_cases : (n net : ℕ) (e : Element) → Earlier (suc n) net e → Earlier n net e ⊎ Part pins order course n e
  earlier_cases n net e so_far = elim (cases_lt so_far.column n) [
    | inl less ↦ inl (record { column = so_far.column; before = less; part = so_far.part; net_is = so_far.net_is })
    | inr not_less ↦
        let before = so_far.before in
        let same : so_far.column ≡ n = omega (arith, not_less, before) in
        inr (subst (λ m. Part pins order course m e) same so_far.part)
  ]

  module _ (n net : ℕ) (within : n < course.count) where
    came_held : (id : ℕ) → Holds (course.before (suc n)) net id → (old : ℕ) × Holds (now n) net old
    came_held id held = let from = came pins order course n net id within held in (from.old, from.held)

    -- a net that holds a track in the column
    module _ (id : ℕ) (held : Holds (now n) net id) (open_before : IsOpenNet n net) where
      tied : (e : Element) → Earlier (suc n) net e → Tied pins order course wiring drawn ended n net e
      tied e so_far = elim (earlier_cases n net e so_far) [
        | inl old ↦
            let own = open_before e old in
            record { id = own.id; held = held-now pins order course n net own.id within own.held; linked = own.linked }
        | inr new ↦ part_tied pins order course wiring drawn ended n net id e within held new so_far.net_is
      ]

      run_at : (a : ℕ) → Holds (now n) net a → RunAt pins order course wiring drawn ended n net a
      run_at a own = run-now pins order course ended n net a within own

      in_wiring : (e : Element) → Earlier (suc n) net e → Contains (elements wiring) e
      in_wiring e so_far = let before = so_far.before in drawn.of_part so_far.column e (omega (arith, before, within)) so_far.part

      gives_up : GivesUp pins n (now n) (course.done n) net → IsClosedNet (suc n) net
      gives_up up = record {
        none = λ a own.
            let from = came pins order course n net a within own in
            from.kept (up.all_end from.old from.held);
        no_pin = λ column later pin. up.ends (column, omega (arith, later), pin);
        linked = λ e f one two.
            let first = tied e one in
            let second = tied f two in
            let a = run_at first.id first.held in
            let b = run_at second.id second.held in
            Linked-trans (first.linked a)
            (Linked-trans (group_linked pins order course wiring drawn ended n net first.id second.id within first.held (up.one_group first.id second.id first.held second.held) a b)
            (Linked-sym (in_wiring f two) (second.linked b)));
      }

      goes_on : GoesOn pins n (now n) (course.done n) net → IsOpenNet (suc n) net
      goes_on on e so_far =
          let own = tied e so_far in
          let keeps = on.kept own.id own.held in
          let kept = keeps.0 in
          let is = keeps.1 in
          let goes = goes-somewhere pins n (course.fresh n) (course.before n) (course.done n) (numbered pins order course n within) (lawful pins order course n within) net kept is.held is.goes_on in
          let next = held-next pins order course n net goes.0 within
          (goes-on pins n (course.fresh n) (course.before n) (course.done n) (numbered pins order course n within) (lawful pins order course n within) net kept goes.0 is.held is.goes_on goes.1) in
          let a = run_at own.id own.held in
          let b = run_at kept is.held in
          let c = run-before pins order course ended n net goes.0 (omega (arith, within)) next in
          let there : Contains order goes.0 =
          earlier-in (ids (now c.end)) order (course.at c.end c.within).earlier goes.0 c.held.there in
          record {
            id = goes.0;
            held = next;
            linked = λ run.
                Linked-trans {f = wire pins order course wiring drawn ended n net own.id a} (own.linked a)
                (Linked-trans {f = wire pins order course wiring drawn ended n net kept b}
                (group_linked pins order course wiring drawn ended n net own.id kept within own.held is.linked a b)
                (Linked-trans {f = run_of pins order course wiring drawn net goes.0 n (suc n) c}
                (goes_linked pins order course wiring drawn n net kept goes.0 n n n (suc n) within is.held there goes.1 b (omega arith) (omega arith) c (omega arith) (omega arith))
                (runs_meet pins order course wiring drawn net goes.0 n (suc n) net goes.0 (suc n) (suc n) c run (suc n) refl (omega arith) (omega arith) (omega arith) (omega arith))));
          }

    -- a net that holds none
    module _ (none : (id : ℕ) → Holds (now n) net id → ⊥) where
      none_after : (id : ℕ) → Holds (course.before (suc n)) net id → ⊥
      none_after id held = let from = came_held id held in none from.0 from.1

      none_before : (id : ℕ) → Holds (course.before n) net id → ⊥
      none_before id held = none id (held-now pins order course n net id within held)

      alone : (e : Element) → Part pins order course n e → net_of e ≡ net → IsAlone pins order course wiring drawn ended n net e
      alone e part same = part_alone pins order course wiring drawn ended n net e within none part same

      stays_closed : IsClosedNet n net → IsClosedNet (suc n) net
      stays_closed closed = record {
        none = none_after;
        no_pin = λ column later pin. closed.no_pin column (omega (arith, later)) pin;
        linked = λ e f one two. closed.linked e f (old e one) (old f two);
      } where
        old : (e : Element) → Earlier (suc n) net e → Earlier n net e
        old e so_far = elim (earlier_cases n net e so_far) [
          | inl before ↦ before
          | inr new ↦ let is = alone e new so_far.net_is in absurd (closed.no_pin n (omega arith) (inl is.net_is))
        ]

      new_part : IsOpenNet n net → (e : Element) → Earlier (suc n) net e → IsAlone pins order course wiring drawn ended n net e
      new_part open_before e so_far = elim (earlier_cases n net e so_far) [
        | inl old ↦ let own = open_before e old in absurd (none_before own.id own.held)
        | inr new ↦ alone e new so_far.net_is
      ]

      closes : IsOpenNet n net → HasEqualPins pins n → top_pin pins n ≡ net → IsClosedNet (suc n) net
      closes open_before equal same = record {
        none = none_after;
        no_pin = λ column later pin.
            let own = top-holds pins n (course.fresh n) (course.before n) (course.done n) (numbered pins order course n within) (lawful pins order course n within)
            (inr (record {
              equal = equal;
              holds_none = λ id held. none_before id (subst (λ m. Holds (course.before n) m id) same held);
              later = (column, omega (arith, later), subst (λ m. (top_pin pins column ≡ m) ⊎ (bottom_pin pins column ≡ m)) (sym same) pin);
            })) in
            none (course.done n).top (subst (λ m. Holds (now n) m (course.done n).top) same own);
        linked = λ e f one two.
            let first = new_part open_before e one in
            let second = new_part open_before f two in
            subst (λ g. Linked wiring e g) (sym first.is ∙ second.is) itself;
      }

      goes_without : IsOpenNet n net → IsPieced (suc n) net
      goes_without open_before = step (course.done n).straight (eqb (top_pin pins n) net) refl refl where
        step : (straight same : Bool) → (course.done n).straight ≡ straight → eqb (top_pin pins n) net ≡ same → IsPieced (suc n) net
        step true true first second = inr (closes open_before ((lawful pins order course n within).straight.0 first) (eqb-true (top_pin pins n) net second))
        step false same first second = inl (λ e so_far.
            let is = new_part open_before e so_far in
            let straight : (course.done n).straight ≡ true = (lawful pins order course n within).straight.1 is.equal in
            absurd (cc (first, straight)))
        step true false first second = inl (λ e so_far.
            let is = new_part open_before e so_far in
            absurd (cc (second, eq-eqb (top_pin pins n) net is.net_is)))

    pub pieced_next : 0 < net → IsPieced n net → IsPieced (suc n) net
    pieced_next some pieced = elim (holds-some (now n) net some) [
      | inl (id, held) ↦ elim pieced [
        | inl open_before ↦ elim ((course.at n within).fair.keeps net id held) [
          | inl up ↦ inr (gives_up id held open_before up)
          | inr on ↦ inl (goes_on id held open_before on)
        ]
        | inr closed ↦ absurd (elim (from-before pins n (course.fresh n) (course.before n) (course.done n) (numbered pins order course n within) (lawful pins order course n within) net id held) [
          | inl old ↦ closed.none id old
          | inr pin ↦ closed.no_pin n (omega arith) pin
        ])
      ]
      | inr none ↦ elim pieced [
        | inl open_before ↦ goes_without none open_before
        | inr closed ↦ inr (stays_closed none closed)
      ]
    ]

  pub pieced : (n net : ℕ) → n ≤ course.count → 0 < net → IsPieced n net
  pieced zero net within some = inl (λ e so_far. let before = so_far.before in absurd (omega (arith, before)))
  pieced (suc n) net within some = pieced_next n net (omega (arith, within)) some (pieced n net (omega (arith, within)) some)

  -- in the end all elements of a net are linked
  pub all_linked : (net : ℕ) (e f : Element) → 0 < net → Earlier course.count net e → Earlier course.count net f → Linked wiring e f
  all_linked net e f some one two = elim (pieced course.count net (omega arith) some) [
    | inl open_to_end ↦ let own = open_to_end e one in absurd (ended net own.id own.held)
    | inr closed ↦ closed.linked e f one two
  ]
