-- What `flooding` sees of a network with a message table: its peers, topics and messages are the numbers of these. Assumes nothing.
use Rattle.std.specs.Prelude.{ℕ}
use Rattle.sets.specs.Set.{size}
use Rattle.sets.specs.Sums.{sum}
use Rattle.flooding.specs.Network.{Net}
use Rattle.network.specs.declared.Network.{Network}
use Rattle.network.specs.declared.Table.{Table}
use Rattle.network.specs.Network.{peer, topic, message, pending_of, present, pending, saw, knows, topic_of}
use Rattle.floodnet.specs.Forward.{forwarded}

-- the observations of n, with the topics of b
unfoldable pub view : Table → Network → Net
view b n =
    record {
      topic = λ m. (topic_of b (message m)).0;
      present = λ p. present n (peer p);
      known = λ p t q. knows n (peer p) (topic t) (peer q);
      pending = λ p m. pending n (peer p) (message m);
      seen = λ p m. saw n (peer p) (message m);
    }

-- the engine's own forward, by numbers
unfoldable pub fwd : Table → Network → ℕ → ℕ → Network
fwd b n p m = forwarded n b (peer p) (message m)

-- the pending pairs of n: how many pairs of a peer and a message are pending
unfoldable pub pairs : Network → ℕ
pairs n = sum 32 (λ p. size (pending_of n (peer p)))
