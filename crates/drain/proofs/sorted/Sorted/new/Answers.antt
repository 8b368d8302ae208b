-- `drain::sorted::Sorted::new` meets its contract. Assumes nothing.
use Rattle.std.proofs.Common.{rules}
use Rattle.drain.proofs.Filing.{own_topics, all_filed}
use Rattle.drain.proofs.sorted.Sorted.new.Goals as goal

pub invariant_of-result : goal.invariant_of-result
invariant_of-result c =
    record { used_fits = c.topics_of.type_inv; topics_fit = c.requires; own_topics = own_topics _ _ (search rules) c.by_topic.ensures }

pub returns-clause-filed : goal.returns-clause-filed
returns-clause-filed c = all_filed _ _ (search rules) c.requires c.by_topic.ensures c.topics_of.ensures
