use Rattle.std.proofs.Common.{rules, ◌∙◌, sym}
use Rattle.std.proofs.lemmas.Bool.{both_ways}
use Rattle.channel_model.proofs.PairLaws.{IsChannel-from_tests, matched_from_IsChannel}
use Rattle.channel_model.proofs.channel.Channel.new.Goals as goal

pub returns-then-not-are_matched-clause-valid : goal.returns-then-not-are_matched-clause-valid
returns-then-not-are_matched-clause-valid c = (
  λ none. cc,
  λ channel. absurd (both_ways _ c.if-not-are_matched.true
      (c.are_matched.ensures ∙ matched_from_IsChannel _ _ _ _ c.deref.ensures.value c.deref-2.ensures.value channel)),
)

pub from_paired-requires : goal.from_paired-requires
from_paired-requires c =
    IsChannel-from_tests _ _ _ _ c.deref.ensures.value c.deref-2.ensures.value (search rules) (search rules)
    (sym c.are_matched.ensures ∙ c.if-not-are_matched.false)
