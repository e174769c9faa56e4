use Rattle.std.proofs.Common.{◌≡◌, ◌<◌, ◌+◌, ◌++◌, ◌∷◌, [], ℕ, List, length, get_or, map, take, sym, ap, subst, ◌∙◌, Some, arith, add-one, below_more}
use Rattle.std.proofs.Math.Seq.{take-suc}
use Rattle.std.proofs.lemmas.List.{map-append}
use Rattle.std.proofs.lemmas.Option.{same_Some, slice_get-get_or, slice_get_within}
use Rattle.std.specs.Prelude.{slice_get}
use Rattle.channel_model.specs.Pins.{Pins}
use Rattle.channel_model.specs.Wired.{Wired}
use Rattle.channel_model.specs.declared.wiring.Wiring.{Wiring}
use Rattle.plain_router.specs.Plain.{plain_of}
use Rattle.layout_tests.proofs.routing.route_channels.Goals as goal

-- one channel more
wired-more : (channels : List Pins) (i : ℕ) (p : Pins) (w : Wiring) → i < length channels → p ≡ get_or channels i p → w ≡ plain_of p → Wired p w
    → (pins : Pins) → slice_get channels i ≡ Some pins → Wired pins (plain_of pins)
wired-more channels i p w within here stated wired pins at =
    let same : p ≡ pins = here ∙ same_Some (get_or channels i p) pins (sym (slice_get-get_or channels i p within) ∙ at) in
    subst (λ (q : Pins). Wired q (plain_of q)) same (subst (Wired p) stated wired)

stated-more : (channels : List Pins) (i : ℕ) (p : Pins) (w : Wiring) (ws more : List Wiring) → i < length channels → p ≡ get_or channels i p → w ≡ plain_of p
    → ws ≡ map plain_of (take i channels) → more ≡ ws ++ (w ∷ []) → more ≡ map plain_of (take (i + 1) channels)
stated-more channels i p w ws more within here stated so_far pushed =
    let front : take (i + 1) channels ≡ take i channels ++ (p ∷ []) =
    rw (add-one i) (take-suc channels i p within ∙ ap (λ (q : Pins). take i channels ++ (q ∷ [])) (sym here)) in
    pushed
    ∙ ap (λ (l : List Wiring). l ++ (w ∷ [])) so_far
    ∙ ap (λ (v : Wiring). map plain_of (take i channels) ++ (v ∷ [])) stated
    ∙ sym (map-append plain_of (take i channels) (p ∷ []))
    ∙ ap (λ (l : List Pins). map plain_of l) (sym front)

pub loop-channel-preserved : goal.loop-channel-preserved
loop-channel-preserved c = record {
  stated =
      stated-more c.args.channels.now c.loop-channel.channel-index c.channel-item.result c.in_ok-plain.field-0 c.loop-channel.wirings.items c.push.new.self.items
      c.loop-channel-test.true c.channel-item.is c.in_ok-plain.ensures.stated c.loop-channel.invariant.stated c.in_ok-push.ensures.items;
  wired =
      below_more (λ (k : ℕ). (pins : Pins) → slice_get c.args.channels.now k ≡ Some pins → Wired pins (plain_of pins)) c.loop-channel.channel-index
      c.loop-channel.invariant.wired
      (wired-more c.args.channels.now c.loop-channel.channel-index c.channel-item.result c.in_ok-plain.field-0 c.loop-channel-test.true c.channel-item.is
      c.in_ok-plain.ensures.stated c.in_ok-plain.ensures.wired);
}

pub returns-clause-wired : goal.returns-clause-wired
returns-clause-wired c = λ k pins at.
    let within : k < length c.args.channels.now = slice_get_within c.args.channels.now k pins at in
    c.loop-channel.invariant.wired k (omega (arith, c.loop-channel-test.false)) pins at
