-- WHO RECEIVES (document 02, E2): "the set of peers that newly hold the message; the count becomes the size of that set." One record over an
-- accepted forward of m by p, in observations; specs/Page.antt has the legend. n is the network before it, o the one after it, and `to` the set
-- that is answered. `forward_page` (specs/laws/PageLaws.antt) proves it of every sound network. Assumes nothing.
use Rattle.std.specs.Prelude.{◌≡◌, ◌↔◌, true, false, ℕ}
use Rattle.sets.specs.Set.{has}
use Rattle.network.specs.declared.Peer.{Peer}
use Rattle.network.specs.declared.Message.{Message}
use Rattle.network.specs.declared.Network.{Network}
use Rattle.network.specs.declared.Table.{Table}
use Rattle.network.specs.Network.{present, subscribed, linked, pending, saw, topic_of}

pub record Receives (n o : Network) (b : Table) (p : Peer) (m : Message) (to : ℕ) : Type 0 where
  -- q is in the set exactly if q is linked to p, is subscribed to m's topic, and has m neither pending nor seen
  pub who : (q : Peer) → (has to q.0 ≡ true)
      ↔ ((linked n p q ≡ true) × (subscribed n q (topic_of b m) ≡ true) × (pending n q m ≡ false) × (saw n q m ≡ false))
  -- and exactly if m is pending at q afterwards and was not before
  pub newly : (q : Peer) → (has to q.0 ≡ true) ↔ ((pending o q m ≡ true) × (pending n q m ≡ false))
  -- the sender is not in it, and whoever is, is present
  pub sender : has to p.0 ≡ false
  pub present : (q : Peer) → has to q.0 ≡ true → present n q ≡ true
