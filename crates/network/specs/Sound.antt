-- A sound network, by its observations: what the rules of specs/Rules.antt come to. Every theorem about sound networks
-- goes by this record. Assumes nothing.
use Rattle.std.specs.Prelude.{◌≡◌, true, false, ◌&&◌, ◌<◌}
use Rattle.network.specs.declared.Peer.{Peer}
use Rattle.network.specs.declared.Topic.{Topic}
use Rattle.network.specs.declared.Message.{Message}
use Rattle.network.specs.declared.Network.{Network}
use Rattle.network.specs.Network.{pubs_of, subs_of, neighbours_of, pending_of, seen_of, known_of, present, subscribed, linked, pending, saw, knows, Shaped}

-- the record of p is empty
pub record Empty (n : Network) (p : Peer) : Type 0 where
  pub pubs : pubs_of n p ≡ 0
  pub subs : subs_of n p ≡ 0
  pub neighbours : neighbours_of n p ≡ 0
  pub pending : pending_of n p ≡ 0
  pub seen : seen_of n p ≡ 0
  pub known : (t : Topic) → t.0 < 32 → known_of n p t ≡ 0

pub record Sound (n : Network) : Type 0 where
  pub shaped : Shaped n
  pub empty : (p : Peer) → p.0 < 32 → present n p ≡ false → Empty n p
  pub own : (p : Peer) → linked n p p ≡ false
  pub near : (p q : Peer) → linked n p q ≡ true → present n q ≡ true
  pub back : (p q : Peer) → linked n p q ≡ true → linked n q p ≡ true
  pub knows : (p : Peer) (t : Topic) (q : Peer) → p.0 < 32 → t.0 < 32 → knows n p t q ≡ linked n p q && subscribed n q t
  pub apart : (p : Peer) (m : Message) → pending n p m ≡ true → saw n p m ≡ false
