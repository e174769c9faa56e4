use Rattle.std.proofs.Common.{◌≡◌, ◌⊎◌, inl, inr, ◌≤◌, ◌+◌, ◌-◌, ◌||◌, ℕ, List, [], ◌∷◌, Bool, true, false, length, refl, sym, subst, ap, ◌∙◌, arith, Contains}
use Rattle.choose_core.specs.declared.candidate.Candidate.{Candidate}
use Rattle.choose_core.specs.declared.plan.Manner.{Manner}
use Rattle.greedy_column.specs.declared.column.Track.{Track}
use Rattle.greedy_column.specs.declared.column.Made.{Made}
use Rattle.greedy_column.specs.declared.question.Question.{Question}
use Rattle.greedy_column.specs.declared.entering.EnteringPin.{EnteringPin}
use Rattle.greedy_column.specs.declared.entering.Entries.{Entries}
use Rattle.greedy_column.specs.declared.entering.ChannelEdge.{ChannelEdge}
use Rattle.greedy_column.specs.declared.entering.ChannelEdge.TheVariants.{Upper, Lower}
use Rattle.greedy_column.specs.declared.entering.PinKind.{PinKind}
use Rattle.greedy_column.specs.declared.entering.PinKind.TheVariants.{NoPins, BottomAlone, TopAlone, EqualPins, TwoPins}
use Rattle.greedy_column.specs.declared.entering.Newcomer.{Newcomer}
use Rattle.greedy_column.specs.declared.entering.Newcomer.TheVariants.{TopPin, BottomPin, BothPins}
use Rattle.greedy_column.specs.Lines.{is_open, open_lines, own_lines, above_lowest, holds_track}
use Rattle.greedy_column.specs.Places.{place_of_new}
use Rattle.greedy_column.specs.Offers.{offer}
use Rattle.greedy_column.specs.Lawful.{AreMadeFrom}
use Rattle.greedy_column.specs.Entering.{Enters, EntersBy, EntersAlone, EntersEqual, EntersPair, EntersNew, newcomer_of, entry_at, new_track, any_place, place_for, pin_kind, is_ending, straight_question, top_question, bottom_question}
use Rattle.greedy_column.proofs.PickLaws.{picked_is_option}
use Rattle.greedy_column.proofs.LineLaws.{LieWithin, LieWithin-lines}
use Rattle.greedy_column.proofs.PlaceLaws.{place_bounds}
use Rattle.std_laws.proofs.Members.{member-none, member-only, member-cases}

-- the tracks that a column makes: of ids from the first new one upwards, each at a place, and each for a pin that enters it
pub record AreMadeForPins (before : List Track) (fresh : ℕ) (entries : Entries) : Type 0 where
  pub placed : AreMadeFrom fresh (length before) entries.made
  pub entered : (m : Made) → Contains entries.made m → (m.id ≡ entries.top) ⊎ (m.id ≡ entries.bottom)
  pub few : length entries.made ≤ 2

module _ (manner : Manner) (may : List Candidate → ℕ → Type 0) (before : List Track) (fresh : ℕ) where
  none_made : (top bottom : ℕ) → AreMadeForPins before fresh (record { made = []; top = top; bottom = bottom })
  none_made top bottom = record { placed = tt; entered = λ m member. absurd (member-none m member); few = omega arith }

  made_at : (edge : ChannelEdge) (below : ℕ) → below ≤ length before → AreMadeForPins before fresh (entry_at edge (new_track fresh below ∷ []) fresh)
  made_at Upper below within = record {
    placed = (refl, within, tt);
    entered = λ m member. inl (sym (ap (λ (n : Made). n.id) (member-only (new_track fresh below) m member)));
    few = omega arith;
  }
  made_at Lower below within = record {
    placed = (refl, within, tt);
    entered = λ m member. inr (sym (ap (λ (n : Made). n.id) (member-only (new_track fresh below) m member)));
    few = omega arith;
  }

  none_at : (edge : ChannelEdge) (id : ℕ) → AreMadeForPins before fresh (entry_at edge [] id)
  none_at Upper id = none_made id 0
  none_at Lower id = none_made 0 id

  alone_made : (edge : ChannelEdge) (question : Question) (own : List ℕ) (below : ℕ) (lines : List ℕ) (entries : Entries) → below ≤ length before
      → EntersAlone may edge question own below before fresh lines entries → AreMadeForPins before fresh entries
  alone_made edge question own below [] entries within is = subst (λ (e : Entries). AreMadeForPins before fresh e) (sym is) (made_at edge below within)
  alone_made edge question own below (line ∷ lines) entries within (picked, by, is) = subst (λ (e : Entries). AreMadeForPins before fresh e) (sym is) (none_at edge _)

  any_within : (pin : EnteringPin) (edge : ChannelEdge) → any_place manner pin edge before ≤ length before
  any_within pin edge = (place_bounds manner (holds_track before pin.net) pin.next edge (length before) 0 (length before) (omega arith)).1

  equal_made : (pin : EnteringPin) (gone : Bool) (entries : Entries) → EntersEqual manner may pin before fresh gone entries → AreMadeForPins before fresh entries
  equal_made pin true entries is = subst (λ (e : Entries). AreMadeForPins before fresh e) (sym is) (none_made 0 0)
  equal_made pin false entries enters =
      alone_made Upper (straight_question pin) (own_lines pin.net before) (any_place manner pin Lower before) (open_lines pin.net before) entries
      (any_within pin Lower) enters

  one_made : (top bottom below : ℕ) → below ≤ length before → (fresh ≡ top) ⊎ (fresh ≡ bottom)
      → AreMadeForPins before fresh (record { made = new_track fresh below ∷ []; top = top; bottom = bottom })
  one_made top bottom below place enters = record {
    placed = (refl, place, tt);
    entered = λ m member.
        let same : fresh ≡ m.id = ap (λ (n : Made). n.id) (member-only (new_track fresh below) m member) in
        elim enters [ inl is ↦ inl (sym same ∙ is) | inr is ↦ inr (sym same ∙ is) ];
    few = omega arith;
  }

  new_made : (top bottom : EnteringPin) (uppers lowers : List ℕ) (new : Newcomer) (entries : Entries) → LieWithin (length before) uppers → LieWithin (length before) lowers
      → EntersNew manner may top bottom before fresh uppers lowers new entries → AreMadeForPins before fresh entries
  new_made top bottom uppers lowers TopPin entries above below (line, by, is) =
      let inside = below.each line (picked_is_option may (offer (bottom_question bottom) (own_lines bottom.net before)) lowers line by) in
      let bounds = place_bounds manner (holds_track before top.net) top.next Upper (length before) line (length before) inside.1 in
      subst (λ (e : Entries). AreMadeForPins before fresh e) (sym is)
      (one_made fresh _ (place_for manner top Upper before line (length before)) bounds.1 (inl refl))
  new_made top bottom uppers lowers BottomPin entries above below (line, by, is) =
      let inside = above.each line (picked_is_option may (offer (top_question top (length before)) (own_lines top.net before)) uppers line by) in
      let bounds = place_bounds manner (holds_track before bottom.net) bottom.next Lower (length before) 0 (line - 1) (omega arith) in
      subst (λ (e : Entries). AreMadeForPins before fresh e) (sym is)
      (one_made _ fresh (place_for manner bottom Lower before 0 (line - 1)) (omega (arith, bounds.1, inside.1)) (inr refl))
  new_made top bottom uppers lowers BothPins entries above below is =
      let lower : ℕ = any_place manner bottom Lower before in
      let upper : ℕ = place_of_new manner (holds_track before top.net) top.next Upper (length before + 1) (lower + 1) (length before + 1) in
      let first : lower ≤ length before = any_within bottom Lower in
      let second = place_bounds manner (holds_track before top.net) top.next Upper (length before + 1) (lower + 1) (length before + 1) (omega (arith, first)) in
      subst (λ (e : Entries). AreMadeForPins before fresh e) (sym is) (record {
        placed = (refl, first, (omega arith, omega (arith, second.1), tt));
        entered = λ m member. elim (member-cases (new_track fresh lower) (new_track (fresh + 1) upper ∷ []) m member) [
          | inl here ↦ inr (sym (ap (λ (n : Made). n.id) here))
          | inr later ↦ inl (sym (ap (λ (n : Made). n.id) (member-only (new_track (fresh + 1) upper) m later)))
        ];
        few = omega arith;
      })

  pair_made : (top bottom : EnteringPin) (uppers lowers partnered : List ℕ) (entries : Entries) → LieWithin (length before) uppers → LieWithin (length before) lowers
      → EntersPair manner may top bottom before fresh uppers lowers partnered entries → AreMadeForPins before fresh entries
  pair_made top bottom uppers lowers [] entries above below enters = new_made top bottom uppers lowers (newcomer_of manner (holds_track before top.net) (holds_track before bottom.net) uppers lowers) entries above below enters
  pair_made top bottom uppers lowers (line ∷ lines) entries above below (upper, by, (lower, too, is)) =
      subst (λ (e : Entries). AreMadeForPins before fresh e) (sym is) (none_made _ _)

  by_kind_made : (top bottom : EnteringPin) (kind : PinKind) (entries : Entries) → EntersBy manner may top bottom before fresh kind entries → AreMadeForPins before fresh entries
  by_kind_made top bottom NoPins entries is = subst (λ (e : Entries). AreMadeForPins before fresh e) (sym is) (none_made 0 0)
  by_kind_made top bottom BottomAlone entries enters = alone_made Lower (bottom_question bottom) (own_lines bottom.net before)
      (any_place manner bottom Lower before) (open_lines bottom.net before) entries (any_within bottom Lower) enters
  by_kind_made top bottom TopAlone entries enters = alone_made Upper (top_question top (length before)) (own_lines top.net before)
      (any_place manner top Upper before) (open_lines top.net before) entries (any_within top Upper) enters
  by_kind_made top bottom EqualPins entries enters = equal_made top (holds_track before top.net || is_ending top.next) entries enters
  by_kind_made top bottom TwoPins entries enters =
      pair_made top bottom (open_lines top.net before) (open_lines bottom.net before) (above_lowest (open_lines bottom.net before) (open_lines top.net before)) entries
      (LieWithin-lines (is_open top.net) before) (LieWithin-lines (is_open bottom.net) before) enters

  -- what step 1 makes is made for its pins
  pub AreMadeForPins-from : (top bottom : EnteringPin) (entries : Entries) → Enters manner may top bottom before fresh entries → AreMadeForPins before fresh entries
  AreMadeForPins-from top bottom entries enters = by_kind_made top bottom (pin_kind top.net bottom.net) entries enters
