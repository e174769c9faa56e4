use Rattle.std.proofs.Common.{◌≡◌, ◌⊎◌, inl, inr, ◌<◌, ◌≤◌, ◌+◌, ◌-◌, ◌||◌, eqb, ℕ, suc, List, [], ◌∷◌, true, cond, length, map, get_or, refl, sym, subst, ap, ◌∙◌, arith, Contains, eqb-true}
use Rattle.std.proofs.lemmas.Bool.{ne_eqb, cases_eq}
use Rattle.std.proofs.lemmas.List.Elements.{Contains-append_cases}
use Rattle.choose_core.specs.declared.candidate.Candidate.{Candidate}
use Rattle.greedy_column.specs.declared.column.Track.{Track}
use Rattle.greedy_column.specs.declared.column.Made.{Made}
use Rattle.greedy_column.specs.declared.question.Question.{Question}
use Rattle.greedy_column.specs.declared.entering.Entries.{Entries}
use Rattle.greedy_column.specs.declared.entering.ChannelEdge.{ChannelEdge}
use Rattle.greedy_column.specs.declared.entering.ChannelEdge.TheVariants.{Upper, Lower}
use Rattle.greedy_column.specs.Tracks.{ids}
use Rattle.greedy_column.specs.Lawful.{IsOpen}
use Rattle.greedy_column.specs.Lines.{is_open, lines_from, open_lines, id_on, net_on}
use Rattle.greedy_column.specs.Offers.{offer}
use Rattle.greedy_column.specs.Entering.{EntersAlone, entry_at, new_track}
use Rattle.greedy_column.proofs.PickLaws.{picked_is_option}
use Rattle.greedy_column.proofs.IdLaws.{Apart}
use Rattle.greedy_column.proofs.TableLaws.{nets, held_by-line, id_on-member}
use Rattle.std_laws.proofs.Members.{member-none, member-head, member-if}

-- a line that is open to a net, and what its track is
pub record IsOpenLine (before : List Track) (net line : ℕ) : Type 0 where
  pub begins : 0 < line
  pub within : line ≤ length before
  pub free_or_own : (net_on before line ≡ 0) ⊎ (net_on before line ≡ net)

either : (n net : ℕ) → (eqb n 0 || eqb n net) ≡ true → (n ≡ 0) ⊎ (n ≡ net)
either n net test = elim (cases_eq n 0) [
  | inl none ↦ inl none
  | inr some ↦ inr (eqb-true n net (sym (ap (λ b. b || eqb n net) (ne_eqb n 0 some)) ∙ test))
]

open_at : (net first line : ℕ) (tracks : List Track) → Contains (lines_from (is_open net) first tracks) line
    → (k : ℕ) × (k < length tracks) × (line ≡ first + k) × ((get_or (nets tracks) k 0 ≡ 0) ⊎ (get_or (nets tracks) k 0 ≡ net))
open_at net first line [] member = absurd (member-none line member)
open_at net first line (t ∷ tracks) member =
    elim (Contains-append_cases (cond (is_open net t) (first ∷ []) []) (lines_from (is_open net) (suc first) tracks) line member) [
      | inl here ↦ let one = member-if (is_open net t) first line here in (0, omega arith, omega (arith, one.0), either t.net net one.1)
      | inr later ↦ let rest = open_at net (suc first) line tracks later in (suc rest.0, omega (arith, rest.1), omega (arith, rest.2), rest.3)
    ]

pub IsOpenLine-from : (before : List Track) (net line : ℕ) → Contains (open_lines net before) line → IsOpenLine before net line
IsOpenLine-from before net line member =
    let at = open_at net 1 line before member in
    let place : line - 1 ≡ at.0 = omega (arith, at.2) in
    record {
      begins = omega (arith, at.2);
      within = omega (arith, at.1, at.2);
      free_or_own = elim at.3 [
        | inl none ↦ inl (ap (λ k. get_or (nets before) k 0) place ∙ none)
        | inr own ↦ inr (ap (λ k. get_or (nets before) k 0) place ∙ own)
      ];
    }

-- the track on an open line is open
pub IsOpen-from : (before : List Track) (net line : ℕ) → Apart (ids before) → 0 < net → IsOpenLine before net line → IsOpen before net (id_on before line)
IsOpen-from before net line apart some is =
    let there = id_on-member before line is.begins is.within in
    let held = held_by-line before line apart is.begins is.within in
    elim is.free_or_own [
      | inl none ↦ inl (record { there = there; free = held ∙ none })
      | inr own ↦ inr (record { net_is = some; there = there; held = held ∙ own })
    ]

-- the track that a pin alone enters, at either edge: it is open to the net, or made
abbrev pub MayBeEntered : List Track → List Made → ℕ → ℕ → Type 0
MayBeEntered before made net id = IsOpen before net id ⊎ Contains (map (λ (m : Made). m.id) made) id

abbrev entered_at : ChannelEdge → Entries → ℕ
entered_at Upper entries = entries.top
entered_at Lower entries = entries.bottom

abbrev not_entered_at : ChannelEdge → Entries → ℕ
not_entered_at Upper entries = entries.bottom
not_entered_at Lower entries = entries.top

entry_id : (edge : ChannelEdge) (made : List Made) (id : ℕ) → entered_at edge (entry_at edge made id) ≡ id
entry_id Upper made id = refl
entry_id Lower made id = refl

entry_made : (edge : ChannelEdge) (made : List Made) (id : ℕ) → (entry_at edge made id).made ≡ made
entry_made Upper made id = refl
entry_made Lower made id = refl

entry_other : (edge : ChannelEdge) (made : List Made) (id : ℕ) → not_entered_at edge (entry_at edge made id) ≡ 0
entry_other Upper made id = refl
entry_other Lower made id = refl

-- a pin alone enters a track that is open to its net, or one that is made, and the other edge none
pub record EntersOne (before : List Track) (edge : ChannelEdge) (net : ℕ) (entries : Entries) : Type 0 where
  pub enters : MayBeEntered before entries.made net (entered_at edge entries)
  pub other : not_entered_at edge entries ≡ 0

pub EntersOne-from : (may : List Candidate → ℕ → Type 0) (before : List Track) (fresh : ℕ) (edge : ChannelEdge) (question : Question) (own : List ℕ) (below : ℕ) (net : ℕ) (lines : List ℕ) (entries : Entries)
    → Apart (ids before) → 0 < net → ((line : ℕ) → Contains lines line → IsOpenLine before net line) → EntersAlone may edge question own below before fresh lines entries
    → EntersOne before edge net entries
EntersOne-from may before fresh edge question own below net [] entries apart some each is =
    let made : List Made = new_track fresh below ∷ [] in
    subst (λ (e : Entries). EntersOne before edge net e) (sym is) (record {
      enters = inr (subst (λ (l : List Made). Contains (map (λ (m : Made). m.id) l) (entered_at edge (entry_at edge made fresh))) (sym (entry_made edge made fresh))
          (subst (λ n. Contains (fresh ∷ []) n) (sym (entry_id edge made fresh)) (member-head fresh [])));
      other = entry_other edge made fresh;
    })
EntersOne-from may before fresh edge question own below net (line ∷ lines) entries apart some each (picked, by, is) =
    let is_open_line = each picked (picked_is_option may (offer question own) (line ∷ lines) picked by) in
    subst (λ (e : Entries). EntersOne before edge net e) (sym is) (record {
      enters = inl (subst (λ n. IsOpen before net n) (sym (entry_id edge [] (id_on before picked))) (IsOpen-from before net picked apart some is_open_line));
      other = entry_other edge [] (id_on before picked);
    })
