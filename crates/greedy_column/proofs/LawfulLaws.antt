use Rattle.std.proofs.Common.{◌≡◌, ◌≢◌, inl, inr, ◌<◌, ◌||◌, eqb, ℕ, List, [], ◌∷◌, Bool, true, false, cond, length, refl, sym, subst, ap, ◌∙◌, arith, Contains, eqb-true, eq-eqb}
use Rattle.std.proofs.lemmas.Bool.{cond-true, cond-false, ne_eqb, or_parts, or_cases}
use Rattle.channel_model.specs.Pins.{Pins}
use Rattle.choose_core.specs.declared.candidate.Candidate.{Candidate}
use Rattle.choose_core.specs.declared.plan.Manner.{Manner}
use Rattle.greedy_column.specs.declared.column.Track.{Track}
use Rattle.greedy_column.specs.declared.column.Column.{Column}
use Rattle.greedy_column.specs.declared.entering.Entries.{Entries}
use Rattle.greedy_column.specs.declared.entering.ChannelEdge.TheVariants.{Upper, Lower}
use Rattle.greedy_column.specs.declared.entering.PinKind.{PinKind}
use Rattle.greedy_column.specs.declared.entering.PinKind.TheVariants.{NoPins, BottomAlone, TopAlone, EqualPins, TwoPins}
use Rattle.greedy_column.specs.Tracks.{ids, held_by}
use Rattle.greedy_column.specs.Replay.{top_pin, bottom_pin}
use Rattle.greedy_column.specs.Ahead.{next_of}
use Rattle.greedy_column.specs.Neighbours.{Holds}
use Rattle.greedy_column.specs.Lawful.{TopEnters, BottomEnters, MayEnter}
use Rattle.greedy_column.specs.Lines.{open_lines, own_lines, above_lowest, holds_track}
use Rattle.greedy_column.specs.Entering.{EntersBy, EntersEqual, any_place, is_ending, straight_question, top_question, bottom_question, pin_kind}
use Rattle.greedy_column.specs.Follows.{Follows, entries_of, pin_of}
use Rattle.greedy_column.specs.State.{AreNumbered}
use Rattle.greedy_column.proofs.IdLaws.{Apart, Apart-from}
use Rattle.greedy_column.proofs.LaterLaws.{HasLaterPin-from, goes_on-from_later}
use Rattle.greedy_column.proofs.EntryLaws.{IsOpenLine-from, EntersOne-from}
use Rattle.greedy_column.proofs.EntersLaws.{KindSays, kind_says, pair_both}
use Rattle.std_laws.proofs.Members.{any-cases, member-cases, map-member, filter-from, member-none}

-- of which tracks the pins enter: what is lawful of a record's entries
pub record AreEntered (pins : Pins) (column : ℕ) (before : List Track) (done : Column) : Type 0 where
  pub top_enters : TopEnters pins column before → MayEnter before done (top_pin pins column) done.top
  pub top_none : 0 < done.top → TopEnters pins column before
  pub bottom_enters : BottomEnters pins column → MayEnter before done (bottom_pin pins column) done.bottom
  pub bottom_none : 0 < done.bottom → BottomEnters pins column
  pub entered_once : 0 < done.top → done.top ≢ done.bottom

-- the lines above the lowest of others are among them
pub above_lowest-within : (others lines : List ℕ) (line : ℕ) → Contains (above_lowest others lines) line → Contains lines line
above_lowest-within [] lines line member = absurd (member-none line member)
above_lowest-within (lowest ∷ others) lines line member = (filter-from _ lines line member).0

-- the net of a track
held_by-member : (tracks : List Track) (t : Track) → Apart (ids tracks) → Contains tracks t → held_by tracks t.id ≡ t.net
held_by-member [] t apart member = absurd (member-none t member)
held_by-member (u ∷ tracks) t apart member = elim (member-cases u tracks t member) [
  | inl same ↦ cond-true (eqb u.id t.id) u.net (held_by tracks t.id) (eq-eqb u.id t.id (ap (λ (v : Track). v.id) same)) ∙ ap (λ (v : Track). v.net) same
  | inr later ↦
      cond-false (eqb u.id t.id) u.net (held_by tracks t.id)
      (ne_eqb u.id t.id (λ same. apart.0 (subst (λ n. Contains (ids tracks) n) (sym same) (map-member (λ (v : Track). v.id) tracks t later))))
      ∙ held_by-member tracks t apart.1 later
]

held_track : (before : List Track) (net : ℕ) → 0 < net → Apart (ids before) → holds_track before net ≡ true → (id : ℕ) × Holds before net id
held_track before net some apart held =
    let found = any-cases (λ (t : Track). eqb t.net net) before held in
    let t : Track = found.0 in (
      t.id,
      record {
        net_is = some;
        there = map-member (λ (v : Track). v.id) before t found.1;
        held = held_by-member before t apart found.1 ∙ eqb-true t.net net found.2;
      },
    )

none_held : (tracks : List Track) (net id : ℕ) → 0 < net → holds_track tracks net ≡ false → held_by tracks id ≡ net → ⊥
none_held [] net id some none held = omega (arith, some, held)
none_held (t ∷ tracks) net id some none held = step (eqb t.net net) (eqb t.id id) refl none held (λ h own. none_held tracks net id some h own) where
  step : (b c : Bool) → eqb t.net net ≡ b → (b || holds_track tracks net) ≡ false → cond c t.net (held_by tracks id) ≡ net
      → (holds_track tracks net ≡ false → held_by tracks id ≡ net → ⊥) → ⊥
  step true c is none held later = cc none
  step false true is none held later = cc (eq-eqb t.net net held, is)
  step false false is none held later = later none held

module _ (manner : Manner) (may : List Candidate → ℕ → Type 0) (pins : Pins) (column fresh : ℕ) (before : List Track) (done : Column)
    (matched : length pins.top ≡ length pins.bottom) (numbered : AreNumbered fresh before) where
  no_top : done.top ≡ 0 → 0 < done.top → ⊥
  no_top none some = omega (arith, none, some)

  no_bottom : done.bottom ≡ 0 → 0 < done.bottom → ⊥
  no_bottom none some = omega (arith, none, some)

  -- two equal pins whose net enters no track
  equal_none : 0 < top_pin pins column → top_pin pins column ≡ bottom_pin pins column
      → (holds_track before (top_pin pins column) || is_ending (next_of pins column (top_pin pins column))) ≡ true → TopEnters pins column before → ⊥
  equal_none some same gone (inl two) = two.1 same
  equal_none some same gone (inr straight) = elim (or_cases (holds_track before (top_pin pins column)) (is_ending (next_of pins column (top_pin pins column))) gone) [
    | inl held ↦ let own = held_track before (top_pin pins column) some (Apart-from (ids before) numbered.distinct) held in straight.holds_none own.0 own.1
    | inr ends ↦ cc (ends, goes_on-from_later pins column (top_pin pins column) matched some straight.later)
  ]

  equal_entered : (gone : Bool) → gone ≡ (holds_track before (top_pin pins column) || is_ending (next_of pins column (top_pin pins column)))
      → 0 < top_pin pins column → top_pin pins column ≡ bottom_pin pins column
      → EntersEqual manner may (pin_of pins column (top_pin pins column)) before fresh gone (entries_of done) → AreEntered pins column before done
  equal_entered true is some same enters =
      let top : done.top ≡ 0 = ap (λ (e : Entries). e.top) enters in
      let bottom : done.bottom ≡ 0 = ap (λ (e : Entries). e.bottom) enters in
      record {
        top_enters = λ entered. absurd (equal_none some same (sym is) entered);
        top_none = λ named. absurd (no_top top named);
        bottom_enters = λ two. absurd (two.1 same);
        bottom_none = λ named. absurd (no_bottom bottom named);
        entered_once = λ named. absurd (no_top top named);
      }
  equal_entered false is some same enters =
      let parts = or_parts (holds_track before (top_pin pins column)) (is_ending (next_of pins column (top_pin pins column))) (sym is) in
      let one = EntersOne-from may before fresh Upper (straight_question (pin_of pins column (top_pin pins column))) (own_lines (top_pin pins column) before)
      (any_place manner (pin_of pins column (top_pin pins column)) Lower before) (top_pin pins column)
      (open_lines (top_pin pins column) before) (entries_of done) (Apart-from (ids before) numbered.distinct) some
      (λ line member. IsOpenLine-from before (top_pin pins column) line member) enters in
      record {
        top_enters = λ entered. one.enters;
        top_none = λ named. inr (record {
          equal = record { some = some; equal = same };
          holds_none = λ id own. none_held before (top_pin pins column) id some parts.0 own.held;
          later = HasLaterPin-from pins column (top_pin pins column) some parts.1;
        });
        bottom_enters = λ two. absurd (two.1 same);
        bottom_none = λ named. absurd (no_bottom one.other named);
        entered_once = λ named equal. no_top (equal ∙ one.other) named;
      }

  by_kind_entered : (kind : PinKind) → KindSays (top_pin pins column) (bottom_pin pins column) kind
      → EntersBy manner may (pin_of pins column (top_pin pins column)) (pin_of pins column (bottom_pin pins column)) before fresh kind (entries_of done) → AreEntered pins column before done
  by_kind_entered NoPins (top_gone, bottom_gone) enters =
      let top : done.top ≡ 0 = ap (λ (e : Entries). e.top) enters in
      let bottom : done.bottom ≡ 0 = ap (λ (e : Entries). e.bottom) enters in
      record {
        top_enters = elim [ inl two ↦ absurd (omega (arith, two.0, top_gone)) | inr straight ↦ absurd (omega (arith, straight.equal.some, top_gone)) ];
        top_none = λ named. absurd (no_top top named);
        bottom_enters = λ two. absurd (omega (arith, two.0, bottom_gone));
        bottom_none = λ named. absurd (no_bottom bottom named);
        entered_once = λ named. absurd (no_top top named);
      }
  by_kind_entered BottomAlone (top_gone, some) enters =
      let one = EntersOne-from may before fresh Lower (bottom_question (pin_of pins column (bottom_pin pins column))) (own_lines (bottom_pin pins column) before)
      (any_place manner (pin_of pins column (bottom_pin pins column)) Lower before) (bottom_pin pins column)
      (open_lines (bottom_pin pins column) before) (entries_of done) (Apart-from (ids before) numbered.distinct) some
      (λ line member. IsOpenLine-from before (bottom_pin pins column) line member) enters in
      record {
        top_enters = elim [ inl two ↦ absurd (omega (arith, two.0, top_gone)) | inr straight ↦ absurd (omega (arith, straight.equal.some, top_gone)) ];
        top_none = λ named. absurd (no_top one.other named);
        bottom_enters = λ two. one.enters;
        bottom_none = λ named. (some, λ same. omega (arith, same, top_gone, some));
        entered_once = λ named. absurd (no_top one.other named);
      }
  by_kind_entered TopAlone (some, bottom_gone) enters =
      let one = EntersOne-from may before fresh Upper (top_question (pin_of pins column (top_pin pins column)) (length before)) (own_lines (top_pin pins column) before)
      (any_place manner (pin_of pins column (top_pin pins column)) Upper before) (top_pin pins column)
      (open_lines (top_pin pins column) before) (entries_of done) (Apart-from (ids before) numbered.distinct) some
      (λ line member. IsOpenLine-from before (top_pin pins column) line member) enters in
      record {
        top_enters = λ entered. one.enters;
        top_none = λ named. inl (some, λ same. omega (arith, same, bottom_gone, some));
        bottom_enters = λ two. absurd (omega (arith, two.0, bottom_gone));
        bottom_none = λ named. absurd (no_bottom one.other named);
        entered_once = λ named equal. no_top (equal ∙ one.other) named;
      }
  by_kind_entered EqualPins (some, same) enters =
      equal_entered (holds_track before (top_pin pins column) || is_ending (next_of pins column (top_pin pins column))) refl some same enters
  by_kind_entered TwoPins (some, too, other) enters =
      let both = pair_both manner may before fresh numbered (pin_of pins column (top_pin pins column)) (pin_of pins column (bottom_pin pins column))
      (open_lines (top_pin pins column) before) (open_lines (bottom_pin pins column) before)
      (above_lowest (open_lines (bottom_pin pins column) before) (open_lines (top_pin pins column) before)) (entries_of done) some too
      (λ line member. above_lowest-within (open_lines (bottom_pin pins column) before) (open_lines (top_pin pins column) before) line member)
      (λ line member. IsOpenLine-from before (top_pin pins column) line member) (λ line member. IsOpenLine-from before (bottom_pin pins column) line member) enters in
      record {
        top_enters = λ entered. both.top;
        top_none = λ named. inl (some, other);
        bottom_enters = λ two. both.bottom;
        bottom_none = λ named. (too, other);
        entered_once = λ named. both.apart;
      }

  -- the entries of a record that follows are lawful
  pub AreEntered-from : Follows manner may pins column fresh before done → AreEntered pins column before done
  AreEntered-from follows =
      by_kind_entered (pin_kind (top_pin pins column) (bottom_pin pins column)) (kind_says (top_pin pins column) (bottom_pin pins column)) follows.enters
