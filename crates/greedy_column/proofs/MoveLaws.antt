use Rattle.std.proofs.Common.{◌≡◌, ◌≢◌, ◌++◌, ◌∙◌, inr, ℕ, List, [], ◌∷◌, filter, length, map, refl, sym, ap, subst, arith, append_assoc}
use Rattle.std.proofs.lemmas.List.{append-nil, map-append}
use Rattle.choose_core.specs.declared.candidate.Candidate.{Candidate}
use Rattle.choose_core.specs.declared.candidate.Next.{Next}
use Rattle.greedy_column.specs.declared.column.Track.{Track}
use Rattle.greedy_column.specs.declared.span.Span.{Span}
use Rattle.greedy_column.specs.Lines.{held_lines, net_on, own_lines}
use Rattle.greedy_column.specs.Tracks.{held_by, hold}
use Rattle.greedy_column.specs.Replay.{moved}
use Rattle.greedy_column.specs.Moving.{MovesFollow, GoesTo, carried, is_movable, movable_lines, move_ids, move_options, others_of_net, piece_between, without}

-- tracks after some moves, and after more
pub moved-append : (moves more : List (ℕ × ℕ)) (tracks : List Track) → moved (moves ++ more) tracks ≡ moved more (moved moves tracks)
moved-append [] more tracks = refl
moved-append (m ∷ moves) more tracks = moved-append moves more (hold m.1 (held_by tracks m.0) (hold m.0 0 tracks))

-- the tracks are carried along by one more move
pub carried_on : (tracks start kept : List Track) (moves : List (ℕ × ℕ)) (line target : ℕ) → kept ≡ moved (map (move_ids tracks) moves) start
    → carried tracks kept line target ≡ moved (map (move_ids tracks) (moves ++ (line, target) ∷ [])) start
carried_on tracks start kept moves line target is =
    ap (λ (l : List Track). carried tracks l line target) is
    ∙ sym (moved-append (map (move_ids tracks) moves) (move_ids tracks (line, target) ∷ []) start)
    ∙ ap (λ (l : List (ℕ × ℕ)). moved l start) (sym (map-append (move_ids tracks) moves ((line, target) ∷ [])))

-- where a kept track goes on, as its net and its options are found
pub goes_on : (may : List Candidate → ℕ → Type 0) (next : ℕ → Next) (tracks kept : List Track) (spans : List Span) (free : List ℕ) (line net : ℕ)
    (options : List ℕ) (target : ℕ) → net ≡ net_on tracks line → options ≡ move_options spans net line free
    → GoesTo may (next net) (without line (own_lines net kept)) line options target
    → GoesTo may (next (net_on tracks line)) (others_of_net tracks kept line) line (move_options spans (net_on tracks line) line free) target
goes_on may next tracks kept spans free line net options target of_net offered goes =
    subst (λ n. GoesTo may (next n) (without line (own_lines n kept)) line (move_options spans n line free) target) of_net
    (subst (λ l. GoesTo may (next net) (without line (own_lines net kept)) line l target) offered goes)

module _ (may : List Candidate → ℕ → Type 0) (next : ℕ → Next) (tracks start : List Track) where
  -- the moves end where no line is left, and go on with a line that stays or moves
  pub moves_done : (kept : List Track) (lines rest : List ℕ) (first spans : List Span) (all free : List ℕ) (moves : List (ℕ × ℕ)) → length rest ≡ 0
      → ((later : List (ℕ × ℕ)) → MovesFollow may next tracks kept rest spans free later → MovesFollow may next tracks start lines first all (moves ++ later))
      → MovesFollow may next tracks start lines first all moves
  moves_done kept lines [] first spans all free moves none so_far = rw append-nil at (so_far [] refl)
  moves_done kept lines (line ∷ rest) first spans all free moves none so_far = absurd (omega arith)

  pub moves_go : (kept : List Track) (lines rest : List ℕ) (first spans : List Span) (all free : List ℕ) (moves : List (ℕ × ℕ)) (line target : ℕ)
      → GoesTo may (next (net_on tracks line)) (others_of_net tracks kept line) line (move_options spans (net_on tracks line) line free) target → target ≢ line
      → ((later : List (ℕ × ℕ)) → MovesFollow may next tracks kept (line ∷ rest) spans free later → MovesFollow may next tracks start lines first all (moves ++ later))
      → (later : List (ℕ × ℕ)) → MovesFollow may next tracks (carried tracks kept line target) rest (spans ++ piece_between (net_on tracks line) line target ∷ [])
      (without target free) later → MovesFollow may next tracks start lines first all ((moves ++ (line, target) ∷ []) ++ later)
  moves_go kept lines rest first spans all free moves line target goes other so_far later follow =
      rw append_assoc (so_far ((line, target) ∷ later) (inr (target, (later, goes, other, refl, follow))))

-- nothing moves where no line is free
none_left : (spans : List Span) (kept : List Track) (lines : List ℕ) → filter (is_movable spans [] kept) lines ≡ []
none_left spans kept [] = refl
none_left spans kept (line ∷ lines) = none_left spans kept lines

pub none_movable : (spans : List Span) (free : List ℕ) (kept : List Track) → length free ≡ 0 → movable_lines spans free kept ≡ []
none_movable spans [] kept none = none_left spans kept (held_lines kept)
none_movable spans (line ∷ free) kept none = absurd (omega (arith, none))
