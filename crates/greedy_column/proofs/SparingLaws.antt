use Rattle.std.proofs.Common.{◌≡◌, ◌⊎◌, inl, inr, ◌<◌, ◌||◌, ℕ, List, [], ◌∷◌, Bool, true, false, length, refl, ap, arith}
use Rattle.channel_model.specs.Pins.{Pins}
use Rattle.choose_core.specs.declared.candidate.Candidate.{Candidate}
use Rattle.choose_core.specs.declared.plan.Manner.{Manner}
use Rattle.choose_core.specs.declared.plan.Manner.TheVariants.{Published, LookingAhead}
use Rattle.greedy_column.specs.declared.column.Track.{Track}
use Rattle.greedy_column.specs.declared.column.Made.{Made}
use Rattle.greedy_column.specs.declared.column.Column.{Column}
use Rattle.greedy_column.specs.declared.question.Question.{Question}
use Rattle.greedy_column.specs.declared.entering.EnteringPin.{EnteringPin}
use Rattle.greedy_column.specs.declared.entering.Entries.{Entries}
use Rattle.greedy_column.specs.declared.entering.ChannelEdge.{ChannelEdge}
use Rattle.greedy_column.specs.declared.entering.ChannelEdge.TheVariants.{Upper, Lower}
use Rattle.greedy_column.specs.declared.entering.PinKind.{PinKind}
use Rattle.greedy_column.specs.declared.entering.PinKind.TheVariants.{NoPins, BottomAlone, TopAlone, EqualPins, TwoPins}
use Rattle.greedy_column.specs.Tracks.{ids}
use Rattle.greedy_column.specs.Replay.{top_pin, bottom_pin}
use Rattle.greedy_column.specs.Ahead.{next_of}
use Rattle.greedy_column.specs.Lawful.{TopEnters, EntersStraight}
use Rattle.greedy_column.specs.Sparing.{SparesTracks}
use Rattle.greedy_column.specs.Lines.{open_lines, own_lines, above_lowest, holds_track}
use Rattle.greedy_column.specs.Entering.{EntersBy, EntersAlone, EntersEqual, EntersPair, EntersNew, any_place, newcomer_by, newcomer_of, entry_at, is_ending, straight_question, top_question, bottom_question, pin_kind}
use Rattle.greedy_column.specs.Follows.{Follows, entries_of, pin_of}
use Rattle.greedy_column.specs.State.{AreNumbered}
use Rattle.greedy_column.proofs.IdLaws.{Apart, Apart-from}
use Rattle.greedy_column.proofs.EntersLaws.{KindSays, kind_says}
use Rattle.greedy_column.proofs.LawfulLaws.{AreEntered, AreEntered-from}
use Rattle.greedy_column.proofs.SpareLaws.{HasNone-from, HasNoPair-from}

-- how many tracks are made, and why
module _ (may : List Candidate → ℕ → Type 0) (before : List Track) (fresh : ℕ) where
  count_at : (edge : ChannelEdge) (entries : Entries) (id : ℕ) → entries ≡ entry_at edge [] id → length entries.made ≡ 0
  count_at Upper entries id is = ap (λ (e : Entries). length e.made) is
  count_at Lower entries id is = ap (λ (e : Entries). length e.made) is

  one_at : (edge : ChannelEdge) (entries : Entries) (m : Made) (id : ℕ) → entries ≡ entry_at edge (m ∷ []) id → length entries.made ≡ 1
  one_at Upper entries m id is = ap (λ (e : Entries). length e.made) is
  one_at Lower entries m id is = ap (λ (e : Entries). length e.made) is

  alone_count : (edge : ChannelEdge) (question : Question) (own : List ℕ) (below : ℕ) (lines : List ℕ) (entries : Entries)
      → EntersAlone may edge question own below before fresh lines entries → ((lines ≡ []) × (length entries.made ≡ 1)) ⊎ (length entries.made ≡ 0)
  alone_count edge question own below [] entries is = inl (refl, one_at edge entries _ fresh is)
  alone_count edge question own below (line ∷ lines) entries (picked, by, is) = inr (count_at edge entries _ is)

  -- one of two pins gets a new track where each has lines that are open to it
  one_new : (manner by : Manner) (top_holds bottom_holds : Bool) (top bottom : EnteringPin) (uppers lowers : List ℕ) (entries : Entries)
      → EntersNew manner may top bottom before fresh uppers lowers (newcomer_by by top_holds bottom_holds) entries → length entries.made ≡ 1
  one_new manner Published top_holds bottom_holds top bottom uppers lowers entries (picked, by, is) = ap (λ (e : Entries). length e.made) is
  one_new manner LookingAhead true true top bottom uppers lowers entries (picked, by, is) = ap (λ (e : Entries). length e.made) is
  one_new manner LookingAhead true false top bottom uppers lowers entries (picked, by, is) = ap (λ (e : Entries). length e.made) is
  one_new manner LookingAhead false bottom_holds top bottom uppers lowers entries (picked, by, is) = ap (λ (e : Entries). length e.made) is

  new_count : (manner : Manner) (top bottom : EnteringPin) (uppers lowers : List ℕ) (entries : Entries)
      → EntersNew manner may top bottom before fresh uppers lowers
      (newcomer_of manner (holds_track before top.net) (holds_track before bottom.net) uppers lowers) entries
      → (length entries.made ≡ 1) ⊎ ((uppers ≡ []) × (lowers ≡ []))
  new_count manner top bottom [] (line ∷ lowers) entries (picked, by, is) = inl (ap (λ (e : Entries). length e.made) is)
  new_count manner top bottom (upper ∷ uppers) (line ∷ lowers) entries enters =
      inl (one_new manner manner (holds_track before top.net) (holds_track before bottom.net) top bottom (upper ∷ uppers) (line ∷ lowers) entries enters)
  new_count manner top bottom (line ∷ uppers) [] entries (picked, by, is) = inl (ap (λ (e : Entries). length e.made) is)
  new_count manner top bottom [] [] entries is = inr (refl, refl)

  pair_count : (manner : Manner) (top bottom : EnteringPin) (uppers lowers partnered : List ℕ) (entries : Entries)
      → EntersPair manner may top bottom before fresh uppers lowers partnered entries
      → ((partnered ≡ []) × ((length entries.made ≡ 1) ⊎ ((uppers ≡ []) × (lowers ≡ [])))) ⊎ (length entries.made ≡ 0)
  pair_count manner top bottom uppers lowers [] entries enters = inl (refl, new_count manner top bottom uppers lowers entries enters)
  pair_count manner top bottom uppers lowers (line ∷ lines) entries (picked, by, (partner, at, is)) = inr (ap (λ (e : Entries). length e.made) is)

module _ (manner : Manner) (may : List Candidate → ℕ → Type 0) (pins : Pins) (column fresh : ℕ) (before : List Track) (done : Column)
    (numbered : AreNumbered fresh before) (entered : AreEntered pins column before done) where
  none_spares : length done.made ≡ 0 → SparesTracks pins column before done
  none_spares none = record {
    top_alone = λ some. absurd (omega (arith, none, some));
    bottom_alone = λ some. absurd (omega (arith, none, some));
    two = λ some. absurd (omega (arith, none, some));
    second_top = λ some. absurd (omega (arith, none, some));
    second_bottom = λ some. absurd (omega (arith, none, some));
    equal = λ some. absurd (omega (arith, none, some));
  }

  apart : Apart (ids before)
  apart = Apart-from (ids before) numbered.distinct

  equal_spares : (gone : Bool) → 0 < top_pin pins column → top_pin pins column ≡ bottom_pin pins column
      → EntersEqual manner may (pin_of pins column (top_pin pins column)) before fresh gone (entries_of done) → SparesTracks pins column before done
  equal_spares true some same enters = none_spares (ap (λ (e : Entries). length e.made) enters)
  equal_spares false some same enters =
      elim (alone_count may before fresh Upper (straight_question (pin_of pins column (top_pin pins column)))
      (own_lines (top_pin pins column) before) (any_place manner (pin_of pins column (top_pin pins column)) Lower before) (open_lines (top_pin pins column) before) (entries_of done) enters) [
        | inr none ↦ none_spares none
        | inl one ↦ record {
          top_alone = λ made top bottom. absurd (omega (arith, top, bottom, same));
          bottom_alone = λ made bottom top. absurd (omega (arith, top, bottom, same));
          two = λ made top bottom other. absurd (other same);
          second_top = λ made. absurd (omega (arith, made, one.1));
          second_bottom = λ made. absurd (omega (arith, made, one.1));
          equal = λ made pair. (
            straight (entered.top_none (named (open_lines (top_pin pins column) before) one.0 enters)),
            λ id free. HasNone-from before (top_pin pins column) apart one.0 id (inl free),
          );
        }
      ] where
        straight : TopEnters pins column before → EntersStraight pins column before
        straight (inl two) = absurd (two.1 same)
        straight (inr is) = is

        named : (lines : List ℕ) → lines ≡ [] → EntersAlone may Upper (straight_question (pin_of pins column (top_pin pins column)))
            (own_lines (top_pin pins column) before) (any_place manner (pin_of pins column (top_pin pins column)) Lower before) before fresh lines (entries_of done) → 0 < done.top
        named [] none enters = let top : done.top ≡ fresh = ap (λ (e : Entries). e.top) enters in omega (arith, top, numbered.some)
        named (line ∷ lines) none enters = absurd (cc none)

  spares_by : (kind : PinKind) → KindSays (top_pin pins column) (bottom_pin pins column) kind
      → EntersBy manner may (pin_of pins column (top_pin pins column)) (pin_of pins column (bottom_pin pins column)) before fresh kind (entries_of done) → SparesTracks pins column before done
  spares_by NoPins says enters = none_spares (ap (λ (e : Entries). length e.made) enters)
  spares_by BottomAlone (top_gone, some) enters =
      elim (alone_count may before fresh Lower (bottom_question (pin_of pins column (bottom_pin pins column)))
      (own_lines (bottom_pin pins column) before) (any_place manner (pin_of pins column (bottom_pin pins column)) Lower before) (open_lines (bottom_pin pins column) before) (entries_of done) enters) [
        | inr none ↦ none_spares none
        | inl one ↦ record {
          top_alone = λ made top bottom. absurd (omega (arith, top, top_gone));
          bottom_alone = λ made bottom top. HasNone-from before (bottom_pin pins column) apart one.0;
          two = λ made top bottom other. absurd (omega (arith, top, top_gone));
          second_top = λ made. absurd (omega (arith, made, one.1));
          second_bottom = λ made. absurd (omega (arith, made, one.1));
          equal = λ made pair. absurd (omega (arith, pair.some, top_gone));
        }
      ]
  spares_by TopAlone (some, bottom_gone) enters =
      elim (alone_count may before fresh Upper (top_question (pin_of pins column (top_pin pins column)) (length before))
      (own_lines (top_pin pins column) before) (any_place manner (pin_of pins column (top_pin pins column)) Upper before) (open_lines (top_pin pins column) before) (entries_of done) enters) [
        | inr none ↦ none_spares none
        | inl one ↦ record {
          top_alone = λ made top bottom. HasNone-from before (top_pin pins column) apart one.0;
          bottom_alone = λ made bottom top. absurd (omega (arith, bottom, bottom_gone));
          two = λ made top bottom other. absurd (omega (arith, bottom, bottom_gone));
          second_top = λ made. absurd (omega (arith, made, one.1));
          second_bottom = λ made. absurd (omega (arith, made, one.1));
          equal = λ made pair. absurd (omega (arith, pair.some, pair.equal, bottom_gone));
        }
      ]
  spares_by EqualPins (some, same) enters =
      equal_spares (holds_track before (top_pin pins column) || is_ending (next_of pins column (top_pin pins column))) some same enters
  spares_by TwoPins (some, too, other) enters =
      elim (pair_count may before fresh manner (pin_of pins column (top_pin pins column)) (pin_of pins column (bottom_pin pins column)) (open_lines (top_pin pins column) before)
      (open_lines (bottom_pin pins column) before) (above_lowest (open_lines (bottom_pin pins column) before) (open_lines (top_pin pins column) before)) (entries_of done) enters) [
        | inr none ↦ none_spares none
        | inl new ↦ record {
          top_alone = λ made top bottom. absurd (omega (arith, bottom, too));
          bottom_alone = λ made bottom top. absurd (omega (arith, top, some));
          two = λ made top bottom apart_nets. HasNoPair-from before (top_pin pins column) (bottom_pin pins column) apart new.0;
          second_top = λ made. elim new.1 [
            | inl one ↦ absurd (omega (arith, made, one))
            | inr both ↦ HasNone-from before (top_pin pins column) apart both.0
          ];
          second_bottom = λ made. elim new.1 [
            | inl one ↦ absurd (omega (arith, made, one))
            | inr both ↦ HasNone-from before (bottom_pin pins column) apart both.1
          ];
          equal = λ made pair. absurd (other pair.equal);
        }
      ]

-- a record that follows spares tracks
pub SparesTracks-from : (manner : Manner) (may : List Candidate → ℕ → Type 0) (pins : Pins) (column fresh : ℕ) (before : List Track) (done : Column)
    → length pins.top ≡ length pins.bottom → AreNumbered fresh before → Follows manner may pins column fresh before done → SparesTracks pins column before done
SparesTracks-from manner may pins column fresh before done matched numbered follows =
    spares_by manner may pins column fresh before done numbered (AreEntered-from manner may pins column fresh before done matched numbered follows)
    (pin_kind (top_pin pins column) (bottom_pin pins column)) (kind_says (top_pin pins column) (bottom_pin pins column)) follows.enters
