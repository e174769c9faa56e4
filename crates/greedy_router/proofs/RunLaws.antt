use Rattle.std.proofs.Common.{◌≡◌, ◌≢◌, inl, inr, ◌<◌, ◌≤◌, ◌+◌, ◌-◌, eqb, ℕ, zero, suc, List, true, refl, sym, subst, ap, ◌∙◌, arith, eq-eqb}
use Rattle.std.proofs.lemmas.Bool.{cases_lt, cases_eq, cases_Bool, cond-true, cond-false, ne_eqb}
use Rattle.channel_model.specs.Pins.{Pins}
use Rattle.channel_model.specs.Nets.{StandsIn}
use Rattle.greedy_column.specs.declared.column.Track.{Track}
use Rattle.greedy_column.specs.Tracks.{held_by}
use Rattle.greedy_column.specs.Neighbours.{Holds}
use Rattle.greedy_column.specs.Lawful.{IsLawful}
use Rattle.greedy_column.specs.State.{AreNumbered}
use Rattle.greedy_router.specs.SweepWiring.{leaves, since_after, net_there}
use Rattle.greedy_column.proofs.EnteredLaws.{keeps-now, from-before}
use Rattle.greedy_router.proofs.LeftLaws.{leaves-ended, CameFrom, goes-on, came-from, same-or-none}
use Rattle.greedy_router.proofs.ViaLaws.{held-there, net_there-held, net_there-free}
use Rattle.greedy_router.proofs.CourseLaws.{Course}
use Rattle.greedy_router.proofs.PartLaws.{now_at, later_at}

module _ (pins : Pins) (order : List ℕ) (course : Course pins order) where
  abbrev now : ℕ → List Track
  now n = now_at pins order course n

  abbrev later : ℕ → List Track
  later n = later_at pins order course n

  pub numbered : (n : ℕ) → n < course.count → AreNumbered (course.fresh n) (course.before n)
  numbered n within = (course.at n within).numbered

  pub lawful : (n : ℕ) → n < course.count → IsLawful pins n (course.fresh n) (course.before n) (course.done n)
  lawful n within = (course.at n within).fair.lawful

  -- what is held before a column is held once its pins have entered
  pub held-now : (n net id : ℕ) → n < course.count → Holds (course.before n) net id → Holds (now n) net id
  held-now n net id within held = keeps-now pins n (course.fresh n) (course.before n) (course.done n) (numbered n within) (lawful n within) net id held

  -- and what is held after it is held before the next one
  pub held-next : (n net id : ℕ) → n < course.count → Holds (later n) net id → Holds (course.before (suc n)) net id
  held-next n net id within held = subst (λ (l : List Track). Holds l net id) (sym (course.at n within).next) held

  pub held-after : (n net id : ℕ) → n < course.count → Holds (course.before (suc n)) net id → Holds (later n) net id
  held-after n net id within held = subst (λ (l : List Track). Holds l net id) (course.at n within).next held

  pub came : (n net id : ℕ) → n < course.count → Holds (course.before (suc n)) net id → CameFrom (now n) (course.done n) net id
  came n net id within held =
      came-from pins n (course.fresh n) (course.before n) (course.done n) (numbered n within) (lawful n within) net id (held-after n net id within held)

  pub none-first : (net id : ℕ) → Holds (course.before 0) net id → ⊥
  none-first net id held = let some = held.net_is in omega (arith, some, held.held, course.first id)

  -- a net that holds a track stands in the channel
  pub stands : (n net id : ℕ) → n ≤ course.count → Holds (course.before n) net id → StandsIn pins net
  stands zero net id within held = absurd (none-first net id held)
  stands (suc n) net id within held =
      let inside : n < course.count = omega (arith, within) in
      let from = came n net id inside held in
      elim (from-before pins n (course.fresh n) (course.before n) (course.done n) (numbered n inside) (lawful n inside) net from.old from.held) [
        | inl old ↦ stands n net from.old (omega (arith, within)) old
        | inr pin ↦ (held.net_is, (n, pin))
      ]

  pub stands-now : (n net id : ℕ) → n < course.count → Holds (now n) net id → StandsIn pins net
  stands-now n net id within held =
      elim (from-before pins n (course.fresh n) (course.before n) (course.done n) (numbered n within) (lawful n within) net id held) [
        | inl old ↦ stands n net id (omega (arith, within)) old
        | inr pin ↦ (held.net_is, (n, pin))
      ]

  -- since when a track is held that is left in a column, and the net of a wire on a track
  abbrev pub begins : ℕ → ℕ → ℕ
  begins n id = since_after n (course.before n) (course.since n) id

  abbrev pub owner : ℕ → ℕ → ℕ
  owner n id = net_there (now n) (later n) id

  since-next : (n id : ℕ) → n < course.count → course.since (suc n) id ≡ begins n id
  since-next n id within = ap (λ (f : ℕ → ℕ). f id) (course.at n within).since_next

  begins-free : (n id : ℕ) → held_by (course.before n) id ≡ 0 → begins n id ≡ n
  begins-free n id free = cond-true (eqb (held_by (course.before n) id) 0) n (course.since n id) (eq-eqb (held_by (course.before n) id) 0 free)

  begins-held : (n id : ℕ) → held_by (course.before n) id ≢ 0 → begins n id ≡ course.since n id
  begins-held n id held = cond-false (eqb (held_by (course.before n) id) 0) n (course.since n id) (ne_eqb (held_by (course.before n) id) 0 held)

  holds_some : (n id : ℕ) → held_by (course.before n) id ≢ 0 → Holds (course.before n) (held_by (course.before n) id) id
  holds_some n id some =
      let positive : 0 < held_by (course.before n) id = omega arith in
      record { net_is = positive; there = held-there (course.before n) id positive; held = refl }

  some_held : (n net id : ℕ) → Holds (course.before n) net id → held_by (course.before n) id ≢ 0
  some_held n net id held none = let some = held.net_is in omega (arith, some, held.held, none)

  pub since-before : (n net id : ℕ) → n ≤ course.count → Holds (course.before n) net id → course.since n id < n
  since-before zero net id within held = absurd (none-first net id held)
  since-before (suc n) net id within held =
      let next = since-next n id (omega (arith, within)) in
      elim (cases_eq (held_by (course.before n) id) 0) [
        | inl free ↦ omega (arith, next, begins-free n id free)
        | inr some ↦ let old = since-before n (held_by (course.before n) id) id (omega (arith, within)) (holds_some n id some) in omega (arith, next, begins-held n id some, old)
      ]

  pub begins-within : (n id : ℕ) → n < course.count → begins n id ≤ n
  begins-within n id within = elim (cases_eq (held_by (course.before n) id) 0) [
    | inl free ↦ omega (arith, begins-free n id free)
    | inr some ↦ let old = since-before n (held_by (course.before n) id) id (omega (arith, within)) (holds_some n id some) in omega (arith, begins-held n id some, old)
  ]

  -- who owns a track in a column
  same_net : (n net other id : ℕ) → n < course.count → Holds (now n) net id → Holds (later n) other id → net ≡ other
  same_net n net other id within held after_it =
      same-or-none pins n (course.fresh n) (course.before n) (course.done n) (numbered n within) (lawful n within) net other id held after_it

  pub owner-now : (n net id : ℕ) → Holds (now n) net id → owner n id ≡ net
  owner-now n net id held = net_there-held (now n) (later n) net id held

  owner-later : (n net id : ℕ) → n < course.count → Holds (later n) net id → owner n id ≡ net
  owner-later n net id within held = elim (cases_eq (held_by (now n) id) 0) [
    | inl free ↦ net_there-free (now n) (later n) net id free held
    | inr some ↦
        let positive : 0 < held_by (now n) id = omega arith in
        let own : Holds (now n) (held_by (now n) id) id = record { net_is = positive; there = held-there (now n) id positive; held = refl } in
        owner-now n (held_by (now n) id) id own ∙ same_net n (held_by (now n) id) net id within own held
  ]

  -- a net owns a track in all columns since it holds it
  pub owned-before : (n net id : ℕ) → n ≤ course.count → Holds (course.before n) net id → (x : ℕ) → course.since n id ≤ x → x < n → owner x id ≡ net
  owned-before zero net id within held x from to = absurd (omega (arith, to))
  owned-before (suc n) net id within held x from to =
      let inside : n < course.count = omega (arith, within) in
      let next = since-next n id inside in
      let after_it = held-after n net id inside held in
      elim (cases_eq (held_by (course.before n) id) 0) [
        | inl free ↦
            let same : n ≡ x = omega (arith, next, begins-free n id free, from, to) in
            subst (λ y. owner y id ≡ net) same (owner-later n net id inside after_it)
        | inr some ↦ elim (cases_lt x n) [
          | inl earlier ↦
              let own = holds_some n id some in
              let same = same_net n (held_by (course.before n) id) net id inside (held-now n (held_by (course.before n) id) id inside own) after_it in
              owned-before n (held_by (course.before n) id) id (omega (arith, within)) own x (omega (arith, next, begins-held n id some, from)) earlier ∙ same
          | inr not_earlier ↦ let same : n ≡ x = omega (arith, to, not_earlier) in subst (λ y. owner y id ≡ net) same (owner-later n net id inside after_it)
        ]
      ]

  pub owned-now : (n net id : ℕ) → n < course.count → Holds (now n) net id → (x : ℕ) → begins n id ≤ x → x ≤ n → owner x id ≡ net
  owned-now n net id within held x from to = elim (cases_lt x n) [
    | inr not_earlier ↦ let same : n ≡ x = omega (arith, to, not_earlier) in subst (λ y. owner y id ≡ net) same (owner-now n net id held)
    | inl earlier ↦ elim (cases_eq (held_by (course.before n) id) 0) [
      | inl free ↦ absurd (omega (arith, begins-free n id free, from, earlier))
      | inr some ↦
          let own = holds_some n id some in
          let again = held-now n (held_by (course.before n) id) id within own in
          let same : held_by (course.before n) id ≡ net = sym again.held ∙ held.held in
          owned-before n (held_by (course.before n) id) id (omega (arith, within)) own x (omega (arith, begins-held n id some, from)) earlier ∙ same
    ]
  ]

  -- a run: the wire on a track from one column to another, or further on both sides, up to where the net leaves it
  pub record Run (net id from to : ℕ) : Type 0 where
    pub end : ℕ
    pub within : end < course.count
    pub left : leaves (course.done end) id ≡ true
    pub held : Holds (now end) net id
    pub start : begins end id ≤ from
    pub stop : to ≤ end

  module _ (ended : (net id : ℕ) → Holds (course.before course.count) net id → ⊥) where
    -- a track that is held is left later
    pub run-from : (k n net id : ℕ) → n + k ≡ course.count → Holds (course.before n) net id → Run net id (course.since n id) n
    run-from zero n net id is held =
        let last : n ≡ course.count = omega (arith, is) in
        absurd (ended net id (subst (λ m. Holds (course.before m) net id) last held))
    run-from (suc k) n net id is held =
        let inside : n < course.count = omega (arith, is) in
        let own = held-now n net id inside held in
        let first = begins-held n id (some_held n net id held) in
        elim (cases_Bool (leaves (course.done n) id)) [
          | inl left ↦ record { end = n; within = inside; left = left; held = own; start = omega (arith, first); stop = omega arith }
          | inr stays ↦
              let on = goes-on pins n (course.fresh n) (course.before n) (course.done n) (numbered n inside) (lawful n inside) net id id own
              (λ ends. cc (leaves-ended (course.done n) id ends, stays)) (inl (refl, stays)) in
              let rest = run-from k (suc n) net id (omega (arith, is)) (held-next n net id inside on) in
              record {
                end = rest.end;
                within = rest.within;
                left = rest.left;
                held = rest.held;
                start = omega (arith, rest.start, since-next n id inside, first);
                stop = omega (arith, rest.stop);
              }
        ]

    -- what is held before a column runs through the column before and that one
    pub run-before : (n net id : ℕ) → suc n ≤ course.count → Holds (course.before (suc n)) net id → Run net id n (suc n)
    run-before n net id within held =
        let k : ℕ = course.count - suc n in
        let run = run-from k (suc n) net id (omega (arith, within)) held in
        let since = since-before (suc n) net id within held in
        record { end = run.end; within = run.within; left = run.left; held = run.held; start = omega (arith, run.start, since); stop = run.stop }

    -- what is held in a column runs through it
    pub run-now : (n net id : ℕ) → n < course.count → Holds (now n) net id → Run net id n n
    run-now n net id within held = elim (cases_Bool (leaves (course.done n) id)) [
      | inl left ↦ record { end = n; within = within; left = left; held = held; start = begins-within n id within; stop = omega arith }
      | inr stays ↦
          let on = goes-on pins n (course.fresh n) (course.before n) (course.done n) (numbered n within) (lawful n within) net id id held
          (λ ends. cc (leaves-ended (course.done n) id ends, stays)) (inl (refl, stays)) in
          let run = run-before n net id (omega (arith, within)) (held-next n net id within on) in
          record { end = run.end; within = run.within; left = run.left; held = run.held; start = run.start; stop = omega (arith, run.stop) }
    ]
