-- `floodnet::messages::forward` meets its contract. Assumes nothing.
use Rattle.floodnet.proofs.CodeForward.{receivers_law, forwarded_law}
use Rattle.floodnet.proofs.messages.forward.Goals as goal

pub returns : goal.returns
returns c =
    record {
      answer = receivers_law _ _ _ _ c.topic_of.ensures c.spot-k.ensures c.without.ensures c.with.ensures c.lacking-receivers.ensures;
      state = forwarded_law _ _ _ _ c.topic_of.ensures c.spot-k.ensures c.without.ensures c.with.ensures c.lacking-receivers.ensures c.lacking-receivers.type_inv c.give.ensures;
    }
