use Rattle.std.proofs.Common.{◌≡◌, ◌<◌, ℕ, zero, suc, List, [], ◌∷◌, refl, false, lit<, arith}
use Rattle.std.specs.List.Sorted.{IsStrictlyIncreasing}
use Rattle.channel_model.proofs.Worked.{crossed}
use Rattle.choose_core.specs.declared.candidate.Candidate.{Candidate}
use Rattle.choose_core.specs.declared.plan.Manner.TheVariants.{Published}
use Rattle.greedy_column.specs.declared.column.Track.{Track}
use Rattle.greedy_column.specs.declared.column.Column.{Column}
use Rattle.greedy_column.specs.Verticals.{floor, on}
use Rattle.greedy_column.specs.Lawful.{HasEqualPins}
use Rattle.greedy_column.specs.Fair.{Fair}
use Rattle.greedy_column.specs.Replay.{after}
use Rattle.greedy_column.specs.Follows.{Follows, AreEnded}
use Rattle.greedy_column.proofs.StateLaws.{IsState-first}
use Rattle.greedy_column.proofs.FairLaws.{Fair-from}

-- the three records of the channel with bottom pins 1, 2 and top pins 2, 1: two columns and one past the end
abbrev pub first_column : Column
first_column = record {
  made = record { id = 1; below = 0 } ∷ (record { id = 2; below = 1 } ∷ []);
  top = 2;
  bottom = 1;
  straight = false;
  joins = [];
  ended = [];
  moves = [];
}

abbrev pub second_column : Column
second_column = record {
  made = record { id = 3; below = 2 } ∷ [];
  top = 3;
  bottom = 2;
  straight = false;
  joins = [];
  ended = 2 ∷ [];
  moves = [];
}

abbrev pub last_column : Column
last_column = record {
  made = [];
  top = 0;
  bottom = 0;
  straight = false;
  joins = (1, 3) ∷ [];
  ended = 1 ∷ (3 ∷ []);
  moves = [];
}

abbrev track : ℕ → ℕ → Track
track id net = record { id = id; net = net }

pub after_first : after crossed 0 first_column [] ≡ track 1 1 ∷ (track 2 2 ∷ [])
after_first = refl

pub after_second : after crossed 1 second_column (track 1 1 ∷ (track 2 2 ∷ [])) ≡ track 1 1 ∷ (track 2 0 ∷ (track 3 1 ∷ []))
after_second = refl

pub after_last : after crossed 2 last_column (track 1 1 ∷ (track 2 0 ∷ (track 3 1 ∷ []))) ≡ track 1 0 ∷ (track 2 0 ∷ (track 3 0 ∷ []))
after_last = refl

abbrev two_nets : List Track
two_nets = track 1 1 ∷ (track 2 2 ∷ [])

abbrev split_net : List Track
split_net = track 1 1 ∷ (track 2 0 ∷ (track 3 1 ∷ []))

none_equal : HasEqualPins crossed 0 → ⊥
none_equal pins = let e : ◌≡◌ {A = ℕ} 2 1 = pins.equal in omega arith

none_equal_later : HasEqualPins crossed 1 → ⊥
none_equal_later pins = let e : ◌≡◌ {A = ℕ} 1 2 = pins.equal in omega arith

none_past_the_end : HasEqualPins crossed 2 → ⊥
none_past_the_end pins = let h : 0 < 0 = pins.some in omega arith

ended_none : (tracks : List Track) → AreEnded tracks [] []
ended_none tracks = record { ascending = λ k within. absurd (omega (arith, within)); members = λ id. (λ h. h, λ h. h) }

ended_one : AreEnded (track 1 1 ∷ (track 2 2 ∷ (track 3 1 ∷ []))) (2 ∷ []) (2 ∷ [])
ended_one = record { ascending = λ k within. absurd (omega (arith, within)); members = λ id. (λ h. h, λ h. h) }

rising : IsStrictlyIncreasing (1 ∷ (3 ∷ []))
rising zero within = lit< tt
rising (suc k) within = absurd (omega (arith, within))

ended_two : AreEnded split_net (1 ∷ (3 ∷ [])) (1 ∷ (3 ∷ []))
ended_two = record { ascending = rising; members = λ id. (λ h. h, λ h. h) }

-- they follow the steps under every chooser that may answer 0
module _ (may : List Candidate → ℕ → Type 0) (first : (list : List Candidate) → may list 0) where
  pub follows_first : Follows Published may crossed 0 1 [] first_column
  follows_first = record {
    straight = (λ none. absurd (cc none), λ pins. absurd (none_equal pins));
    enters = refl;
    goes_on = record {
      joined = [];
      ending = [];
      order = [];
      moving = [];
      joins_follow = refl;
      ends_follow = ([], ([], refl, ([], ([], refl, refl, refl)), refl));
      ordered = refl;
      moves_follow = refl;
      joins_told = refl;
      ends_told = ended_none two_nets;
      moves_told = refl;
    };
  }

  pub follows_second : Follows Published may crossed 1 3 two_nets second_column
  follows_second = record {
    straight = (λ none. absurd (cc none), λ pins. absurd (none_equal_later pins));
    enters = (2, (0, first _, refl), refl);
    goes_on = record {
      joined = [];
      ending = 2 ∷ [];
      order = [];
      moving = [];
      joins_follow = refl;
      ends_follow = ([], (2 ∷ [], refl, (2 ∷ [], ([], refl, ([], ([], refl, refl, refl)), refl)), refl));
      ordered = refl;
      moves_follow = refl;
      joins_told = refl;
      ends_told = ended_one;
      moves_told = refl;
    };
  }

  pub follows_last : Follows Published may crossed 2 4 split_net last_column
  follows_last = record {
    straight = (λ none. absurd (cc none), λ pins. absurd (none_past_the_end pins));
    enters = refl;
    goes_on = record {
      joined = record { net = 1; low = 1; high = 3 } ∷ [];
      ending = 1 ∷ (3 ∷ []);
      order = [];
      moving = [];
      joins_follow = ((0, first _, refl), refl);
      ends_follow = (1 ∷ (3 ∷ []), ([], refl, refl, refl));
      ordered = refl;
      moves_follow = refl;
      joins_told = refl;
      ends_told = ended_two;
      moves_told = refl;
    };
  }

-- and are fair
pub fair_first : Fair crossed 0 1 [] first_column
fair_first =
    Fair-from Published (λ list answer. answer ≡ 0) crossed 0 1 [] first_column refl (IsState-first 0 crossed).numbered (follows_first (λ list answer. answer ≡ 0) (λ list. refl))

-- a record that joins the tracks of net 1 across the vertical of net 2 is not
abbrev crossing_join : Column
crossing_join = record {
  made = record { id = 3; below = 2 } ∷ [];
  top = 3;
  bottom = 2;
  straight = false;
  joins = (1, 3) ∷ [];
  ended = 2 ∷ [];
  moves = [];
}

pub not_fair_crossing : Fair crossed 1 3 two_nets crossing_join → ⊥
not_fair_crossing fair =
    let same : ◌≡◌ {A = ℕ} 2 1 =
    fair.lawful.apart (record { net = 2; low = floor; high = on 2 }) (record { net = 1; low = on 1; high = on 3 }) (0, lit< tt, refl) (2, lit< tt, refl)
    (omega arith, omega arith) in
    omega arith
