use Rattle.channel_model.proofs.ListingLaws.{AreNets-from_sort}
use Rattle.channel_model.proofs.NetsOf.{nets-one}
use Rattle.channel_model.proofs.nets.nets_of.Goals as goal

pub returns-clause-nets : goal.returns-clause-nets
returns-clause-nets c =
    AreNets-from_sort c.args.channel.now c.items.result.now c.items-2.result.now c.in_ok-nets.nets.items c.sort_unstable.new.self.items _ (cc) (cc)
    c.in_ok-nets.ensures.nets c.sort_unstable.ensures.permutation c.sort_unstable.ensures.sorted c.dedup.ensures.filtered

pub returns-clause-is : goal.returns-clause-is
returns-clause-is c =
    nets-one c.args.channel.now _
    (AreNets-from_sort c.args.channel.now c.items.result.now c.items-2.result.now c.in_ok-nets.nets.items c.sort_unstable.new.self.items _ (cc) (cc)
    c.in_ok-nets.ensures.nets c.sort_unstable.ensures.permutation c.sort_unstable.ensures.sorted c.dedup.ensures.filtered)
