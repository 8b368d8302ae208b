-- The accident that this engine is for (document 00): "a client gave a departed desk's number to a new one. Neighbours still listed the old
-- desk's subscriptions, so the first run on the new desk took in revisions meant for its predecessor." Here: once a desk has left, no
-- record mentions it (AfterLeave); and a desk that joins under any free number has the links and subscriptions that its own join names, on
-- both sides, and no others (AfterJoin), whoever had the number before. The page is the last record. Assumes nothing.
use Rattle.std.specs.Prelude.{◌≡◌, true, false, ◌&&◌, ℕ, ◌^◌, ◌<◌}
use Rattle.sets.specs.Set.{has, minus}
use Rattle.network.specs.declared.Peer.{Peer}
use Rattle.network.specs.declared.Topic.{Topic}
use Rattle.network.specs.declared.Message.{Message}
use Rattle.network.specs.declared.Network.{Network}
use Rattle.network.specs.Network.{pending_of, seen_of, present, publishes, subscribed, linked, pending, saw, knows}
use Rattle.network.specs.Sound.{Sound, Empty}
use Rattle.floodnet.specs.Links.{left, joined}

-- From n to m: what does not concern p is as it was.
pub record Apart (p : Peer) (n m : Network) : Type 0 where
  -- the others are present or absent as before
  pub same_present : (q : Peer) → (q.0 ≡ p.0 → ⊥) → present m q ≡ present n q
  -- they publish and subscribe to what they did
  pub same_publishes : (q : Peer) (t : Topic) → (q.0 ≡ p.0 → ⊥) → publishes m q t ≡ publishes n q t
  pub same_subscribed : (q : Peer) (t : Topic) → (q.0 ≡ p.0 → ⊥) → subscribed m q t ≡ subscribed n q t
  -- the links among them stay
  pub same_linked : (q c : Peer) → (q.0 ≡ p.0 → ⊥) → (c.0 ≡ p.0 → ⊥) → linked m q c ≡ linked n q c
  -- they know of each other what they knew
  pub same_knows : (q : Peer) (t : Topic) (c : Peer) → q.0 < 32 → t.0 < 32 → (q.0 ≡ p.0 → ⊥) → (c.0 ≡ p.0 → ⊥) → knows m q t c ≡ knows n q t c
  -- they hold and have seen the messages that they did
  pub same_pending : (q : Peer) (k : Message) → (q.0 ≡ p.0 → ⊥) → pending m q k ≡ pending n q k
  pub same_saw : (q : Peer) (k : Message) → (q.0 ≡ p.0 → ⊥) → saw m q k ≡ saw n q k

-- p has left n, and m is the network now.
pub record AfterLeave (n m : Network) (p : Peer) : Type 0 where
  -- The network is sound.
  pub sound : Sound m
  -- p is absent.
  pub absent : present m p ≡ false
  -- p's own record is empty: no topics, no neighbours, no messages, no known subscribers.
  pub empty : Empty m p
  -- Nobody lists p as a neighbour.
  pub unlisted : (q : Peer) → linked m q p ≡ false
  -- Nobody knows p as a subscriber of any topic.
  pub unknown : (q : Peer) (t : Topic) → knows m q t p ≡ false
  -- Nothing else has changed.
  pub apart : Apart p n m

-- p has joined n with these topics and neighbours, and m is the network now.
pub record AfterJoin (n m : Network) (p : Peer) (subs pubs who : ℕ) : Type 0 where
  -- The network is sound.
  pub sound : Sound m
  -- p is present.
  pub here : present m p ≡ true
  -- p lists exactly the neighbours that it named, and exactly they list p.
  pub lists : (q : Peer) → linked m p q ≡ has who q.0
  pub listed : (q : Peer) → linked m q p ≡ has who q.0
  -- p subscribes to exactly the topics that it named, and publishes exactly those that it named.
  pub subscribes : (t : Topic) → subscribed m p t ≡ has subs t.0
  pub publishing : (t : Topic) → publishes m p t ≡ has pubs t.0
  -- p is known to subscribe to t exactly at the neighbours that it named, and for the topics that it named.
  pub known : (q : Peer) (t : Topic) → q.0 < 32 → t.0 < 32 → knows m q t p ≡ has who q.0 && has subs t.0
  -- p knows as subscribers of t exactly those of its neighbours that subscribed to t before.
  pub knowing : (t : Topic) (q : Peer) → t.0 < 32 → knows m p t q ≡ has who q.0 && subscribed n q t
  -- Nothing is pending at p, and p has seen nothing.
  pub nothing_pending : pending_of m p ≡ 0
  pub nothing_seen : seen_of m p ≡ 0
  -- Nothing else has changed.
  pub apart : Apart p n m

-- THE PAGE, of a network n that is sound (`accident`, specs/laws/AccidentLaws.antt).
pub record Accident (n : Network) : Type 0 where
  -- A desk leaves.
  pub after_leave : (p : Peer) → p.0 < 32 → AfterLeave n (left n p) p
  -- A desk joins under a free number, with neighbours that are present and not itself.
  pub after_join : (p : Peer) (subs pubs who : ℕ) → p.0 < 32 → present n p ≡ false → has who p.0 ≡ false → minus who n.present ≡ 0
      → subs < 2 ^ 32 → pubs < 2 ^ 32 → who < 2 ^ 32 → AfterJoin n (joined n p subs pubs who) p subs pubs who
  -- The minutes' own case: p leaves, and its number is given out again. Nothing of the old desk is with the new one.
  pub number_given_again : (p : Peer) (subs pubs who : ℕ) → p.0 < 32 → has who p.0 ≡ false → minus who (left n p).present ≡ 0
      → subs < 2 ^ 32 → pubs < 2 ^ 32 → who < 2 ^ 32 → AfterJoin (left n p) (joined (left n p) p subs pubs who) p subs pubs who
