-- THE CLIENT'S PAGE OF THE EVENTS: demand 2 of the minutes, "Each event does what the Floodnet transition of the published model does, with document 01's
-- changes, and is refused exactly when its conditions fail." One record for each of the seven kinds: by which number it is refused, exactly if
-- what, and what can be observed after it, exactly if what was so before. `floodnet_page` (specs/laws/PageLaws.antt) proves it of every sound network
-- and every table whose rows were accepted; the network after a refused event is the one before it (`after`, floodnet's specs/Step.antt).
-- How to read it: `x ≡ y`: x is y; `x ≡ true`: x holds; `x ≡ false`: x does not; `×`: and, or, with a name in front, there is; `⊎`: or; `↔`:
-- exactly if; `→`: then; `→ ⊥`: never, or not. Observed are (network's specs/Network.antt): present n p; publishes n p t; subscribed n p t;
-- linked n p q, p lists q as a neighbour; knows n p t q, p knows q as a subscriber of t; pending n p m; saw n p m. n is the network before the
-- event and o the one after it. `has w i`: the set w has the member i. Assumes nothing.
use Rattle.std.specs.Prelude.{◌≡◌, ◌⊎◌, ◌↔◌, true, false, ℕ, ◌<◌, ◌^◌}
use Rattle.sets.specs.Set.{has}
use Rattle.network.specs.declared.Peer.{Peer}
use Rattle.network.specs.declared.Topic.{Topic}
use Rattle.network.specs.declared.Message.{Message}
use Rattle.network.specs.declared.Network.{Network}
use Rattle.network.specs.declared.Table.{Table}
use Rattle.network.specs.Network.{peer, message, present, publishes, subscribed, linked, pending, saw, knows, topic_of, origin_of}
use Rattle.events.specs.declared.Joining.{Joining}
use Rattle.events.specs.declared.Event.TheVariants as kind
use Rattle.floodnet.specs.Step.{refusal, effect, receivers_of}
use Rattle.transitions.specs.Receivers.{Receives}

-- ---- what stays as it was

abbrev pub SamePresent : Network → Network → Type 0
SamePresent n o = (q : Peer) → present o q ≡ present n q

abbrev pub SamePublishes : Network → Network → Type 0
SamePublishes n o = (q : Peer) (t : Topic) → publishes o q t ≡ publishes n q t

abbrev pub SameSubscribed : Network → Network → Type 0
SameSubscribed n o = (q : Peer) (t : Topic) → subscribed o q t ≡ subscribed n q t

abbrev pub SameLinked : Network → Network → Type 0
SameLinked n o = (q c : Peer) → linked o q c ≡ linked n q c

abbrev pub SameKnows : Network → Network → Type 0
SameKnows n o = (q : Peer) (t : Topic) (c : Peer) → knows o q t c ≡ knows n q t c

abbrev pub SamePending : Network → Network → Type 0
SamePending n o = (q : Peer) (k : Message) → pending o q k ≡ pending n q k

abbrev pub SameSaw : Network → Network → Type 0
SameSaw n o = (q : Peer) (k : Message) → saw o q k ≡ saw n q k

-- ---- skip

-- 004's skip leads from a state to itself. 01: no conditions, no effect.
pub record SkipPage (n : Network) (b : Table) : Type 0 where
  pub accepted : refusal n b kind.Skip ≡ 0
  pub same : effect n b kind.Skip ≡ n

-- ---- produce

-- 004's produce takes a message that no peer of the state holds, whose origin is in the state and publishes its topic, and puts it among the
-- origin's pending messages. 01's changes: the event names the producing peer, and 10 asks that it is the origin.
pub record Produces (n o : Network) (p : Peer) (m : Message) : Type 0 where
  -- what is pending: what was, and m at p
  pub now_pending : (q : Peer) (k : Message) → (pending o q k ≡ true) ↔ ((pending n q k ≡ true) ⊎ ((q.0 ≡ p.0) × (k.0 ≡ m.0)))
  -- nothing else changes
  pub now_seen : SameSaw n o
  pub now_present : SamePresent n o
  pub now_publishes : SamePublishes n o
  pub now_subscribed : SameSubscribed n o
  pub now_linked : SameLinked n o
  pub now_knows : SameKnows n o

pub record ProducePage (n : Network) (b : Table) (p : Peer) (m : Message) : Type 0 where
  -- 8: p is absent
  pub refused_8 : (refusal n b (kind.Produce p m) ≡ 8) ↔ (present n p ≡ false)
  -- else 10: p is not the message's origin
  pub refused_10 : (refusal n b (kind.Produce p m) ≡ 10) ↔ ((present n p ≡ true) × ((origin_of b m).0 ≡ p.0 → ⊥))
  -- else 11: p does not publish the message's topic
  pub refused_11 : (refusal n b (kind.Produce p m) ≡ 11) ↔ ((present n p ≡ true) × ((origin_of b m).0 ≡ p.0) × (publishes n p (topic_of b m) ≡ false))
  -- else 12: a present peer has it pending or seen
  pub refused_12 : (refusal n b (kind.Produce p m) ≡ 12)
      ↔ ((present n p ≡ true) × ((origin_of b m).0 ≡ p.0) × (publishes n p (topic_of b m) ≡ true)
      × ((q : Peer) × (present n q ≡ true) × ((pending n q m ≡ true) ⊎ (saw n q m ≡ true))))
  -- else it is accepted
  pub accepted : (refusal n b (kind.Produce p m) ≡ 0)
      ↔ ((present n p ≡ true) × ((origin_of b m).0 ≡ p.0) × (publishes n p (topic_of b m) ≡ true)
      × ((q : Peer) → present n q ≡ true → (pending n q m ≡ false) × (saw n q m ≡ false)))
  pub does : refusal n b (kind.Produce p m) ≡ 0 → Produces n (effect n b (kind.Produce p m)) p m

-- ---- forward

-- 004's forward takes a peer and a message that is pending there; the message moves to the peer's seen set, and becomes pending at each peer
-- that the forwarder has as a subscriber of its topic, unless that one holds it. 01's changes: each peer so changed is a delivery, and E2's: their set is answered. 01
-- follows the code of 004: any holder may forward, and neither the origin nor the previous sender is left out.
pub record Forwards (n o : Network) (b : Table) (p : Peer) (m : Message) (to : ℕ) : Type 0 where
  -- what is seen: what was, and m at p
  pub now_seen : (q : Peer) (k : Message) → (saw o q k ≡ true) ↔ ((saw n q k ≡ true) ⊎ ((q.0 ≡ p.0) × (k.0 ≡ m.0)))
  -- what is pending: not m at p; else what was, and m where p knows a subscriber of its topic that has not seen it
  pub now_pending : (q : Peer) (k : Message)
      → (pending o q k ≡ true)
      ↔ ((((q.0 ≡ p.0) × (k.0 ≡ m.0)) → ⊥)
      × ((pending n q k ≡ true) ⊎ ((saw n q k ≡ false) × (k.0 ≡ m.0) × (knows n p (topic_of b m) q ≡ true))))
  -- who receives it: in the words of E2, and in 01's, each known subscriber that had it neither pending nor seen
  pub receives : Receives n o b p m to
  pub known : (q : Peer) → (has to q.0 ≡ true) ↔ ((knows n p (topic_of b m) q ≡ true) × (pending n q m ≡ false) × (saw n q m ≡ false))
  -- nothing else changes
  pub now_present : SamePresent n o
  pub now_publishes : SamePublishes n o
  pub now_subscribed : SameSubscribed n o
  pub now_linked : SameLinked n o
  pub now_knows : SameKnows n o

pub record ForwardPage (n : Network) (b : Table) (p : Peer) (m : Message) : Type 0 where
  -- 8: p is absent
  pub refused_8 : (refusal n b (kind.Forward p m) ≡ 8) ↔ (present n p ≡ false)
  -- else 13: the message is not pending at p
  pub refused_13 : (refusal n b (kind.Forward p m) ≡ 13) ↔ ((present n p ≡ true) × (pending n p m ≡ false))
  -- else it is accepted
  pub accepted : (refusal n b (kind.Forward p m) ≡ 0) ↔ ((present n p ≡ true) × (pending n p m ≡ true))
  pub does : refusal n b (kind.Forward p m) ≡ 0 → Forwards n (effect n b (kind.Forward p m)) b p m (receivers_of n b (kind.Forward p m))

-- ---- subscribe and unsubscribe

-- 004's subscribe adds topics to a peer's subscriptions, and its unsubscribe takes them away; the code that tells the neighbours is not printed. 01's
-- change is to say it: the records of exactly the neighbours follow, for exactly these topics. No topic need be new, and none at all may be named.
pub record Subscribes (n o : Network) (p : Peer) (topics : ℕ) : Type 0 where
  -- who is subscribed: who was, and p to these topics
  pub now_subscribed : (q : Peer) (t : Topic) → (subscribed o q t ≡ true) ↔ ((subscribed n q t ≡ true) ⊎ ((q.0 ≡ p.0) × (has topics t.0 ≡ true)))
  -- who is known: who was, and p, for these topics, at each of its neighbours
  pub now_knows : (q : Peer) (t : Topic) (c : Peer) → q.0 < 32 → t.0 < 32
      → (knows o q t c ≡ true) ↔ ((knows n q t c ≡ true) ⊎ (((linked n p q ≡ true) × (has topics t.0 ≡ true)) × (p.0 ≡ c.0)))
  -- nothing else changes
  pub now_present : SamePresent n o
  pub now_publishes : SamePublishes n o
  pub now_linked : SameLinked n o
  pub now_pending : SamePending n o
  pub now_seen : SameSaw n o

pub record SubscribePage (n : Network) (b : Table) (p : Peer) (topics : ℕ) : Type 0 where
  -- 8: p is absent
  pub refused_8 : (refusal n b (kind.Subscribe p topics) ≡ 8) ↔ (present n p ≡ false)
  pub accepted : (refusal n b (kind.Subscribe p topics) ≡ 0) ↔ (present n p ≡ true)
  pub does : refusal n b (kind.Subscribe p topics) ≡ 0 → Subscribes n (effect n b (kind.Subscribe p topics)) p topics

pub record Unsubscribes (n o : Network) (p : Peer) (topics : ℕ) : Type 0 where
  -- who is subscribed: who was, but not p to these topics
  pub now_subscribed : (q : Peer) (t : Topic) → (subscribed o q t ≡ true) ↔ ((subscribed n q t ≡ true) × (((q.0 ≡ p.0) × (has topics t.0 ≡ true)) → ⊥))
  -- who is known: who was, but not p, for these topics, at any of its neighbours
  pub now_knows : (q : Peer) (t : Topic) (c : Peer) → q.0 < 32 → t.0 < 32
      → (knows o q t c ≡ true) ↔ ((knows n q t c ≡ true) × ((((linked n p q ≡ true) × (has topics t.0 ≡ true)) × (p.0 ≡ c.0)) → ⊥))
  -- nothing else changes
  pub now_present : SamePresent n o
  pub now_publishes : SamePublishes n o
  pub now_linked : SameLinked n o
  pub now_pending : SamePending n o
  pub now_seen : SameSaw n o

pub record UnsubscribePage (n : Network) (b : Table) (p : Peer) (topics : ℕ) : Type 0 where
  -- 8: p is absent
  pub refused_8 : (refusal n b (kind.Unsubscribe p topics) ≡ 8) ↔ (present n p ≡ false)
  pub accepted : (refusal n b (kind.Unsubscribe p topics) ≡ 0) ↔ (present n p ≡ true)
  pub does : refusal n b (kind.Unsubscribe p topics) ≡ 0 → Unsubscribes n (effect n b (kind.Unsubscribe p topics)) p topics

-- ---- leave

-- 004's leave takes a peer that has nothing pending out of the state, and leaves it in its neighbours' maps. 01's change, and the reason for this
-- engine: the neighbours drop the peer and its subscriptions. (floodnet's specs/Accident.antt has the minutes' own case.)
pub record Leaves (n o : Network) (p : Peer) : Type 0 where
  -- p is absent, with no topics and no messages; the others are as they were
  pub now_present : (q : Peer) → (present o q ≡ true) ↔ ((present n q ≡ true) × (q.0 ≡ p.0 → ⊥))
  pub now_publishes : (q : Peer) (t : Topic) → (publishes o q t ≡ true) ↔ ((q.0 ≡ p.0 → ⊥) × (publishes n q t ≡ true))
  pub now_subscribed : (q : Peer) (t : Topic) → (subscribed o q t ≡ true) ↔ ((q.0 ≡ p.0 → ⊥) × (subscribed n q t ≡ true))
  pub now_pending : (q : Peer) (k : Message) → (pending o q k ≡ true) ↔ ((q.0 ≡ p.0 → ⊥) × (pending n q k ≡ true))
  pub now_seen : (q : Peer) (k : Message) → (saw o q k ≡ true) ↔ ((q.0 ≡ p.0 → ⊥) × (saw n q k ≡ true))
  -- nobody lists p or knows it, and p lists and knows nobody; the others list and know each other as they did
  pub now_linked : (q c : Peer) → (linked o q c ≡ true) ↔ ((linked n q c ≡ true) × (q.0 ≡ p.0 → ⊥) × (c.0 ≡ p.0 → ⊥))
  pub now_knows : (q : Peer) (t : Topic) (c : Peer) → q.0 < 32 → t.0 < 32
      → (knows o q t c ≡ true) ↔ ((knows n q t c ≡ true) × (q.0 ≡ p.0 → ⊥) × (c.0 ≡ p.0 → ⊥))

pub record LeavePage (n : Network) (b : Table) (p : Peer) : Type 0 where
  -- 8: p is absent
  pub refused_8 : (refusal n b (kind.Leave p) ≡ 8) ↔ (present n p ≡ false)
  -- else 14: something is pending at p
  pub refused_14 : (refusal n b (kind.Leave p) ≡ 14) ↔ ((present n p ≡ true) × ((i : ℕ) × (pending n p (message i) ≡ true)))
  -- else it is accepted
  pub accepted : (refusal n b (kind.Leave p) ≡ 0) ↔ ((present n p ≡ true) × ((i : ℕ) → pending n p (message i) ≡ false))
  pub does : refusal n b (kind.Leave p) ≡ 0 → Leaves n (effect n b (kind.Leave p)) p

-- ---- join

-- 004's join takes a peer that is not in the state and not among the neighbours that it names, makes its record from its topics, and has each
-- neighbour note its subscriptions. 01's changes: 16 asks that the named neighbours are present, and both sides keep the link itself, so that a
-- neighbour without subscriptions is not lost.
pub record Joins (n o : Network) (p : Peer) (j : Joining) : Type 0 where
  -- p is present with the topics that it named; the others are as they were
  pub now_present : (q : Peer) → (present o q ≡ true) ↔ ((present n q ≡ true) ⊎ (q.0 ≡ p.0))
  pub now_publishes : (q : Peer) (t : Topic)
      → (publishes o q t ≡ true) ↔ (((q.0 ≡ p.0) × (has j.pubs t.0 ≡ true)) ⊎ ((q.0 ≡ p.0 → ⊥) × (publishes n q t ≡ true)))
  pub now_subscribed : (q : Peer) (t : Topic)
      → (subscribed o q t ≡ true) ↔ (((q.0 ≡ p.0) × (has j.subs t.0 ≡ true)) ⊎ ((q.0 ≡ p.0 → ⊥) × (subscribed n q t ≡ true)))
  -- links: those that were there, and p with each peer that it named, on both sides
  pub now_linked : (q c : Peer)
      → (linked o q c ≡ true)
      ↔ ((linked n q c ≡ true) ⊎ (((q.0 ≡ p.0) × (has j.neighbours c.0 ≡ true)) ⊎ ((c.0 ≡ p.0) × (has j.neighbours q.0 ≡ true))))
  -- known are exactly the subscribed among one's neighbours
  pub now_knows : (q : Peer) (t : Topic) (c : Peer) → q.0 < 32 → t.0 < 32 → (knows o q t c ≡ true) ↔ ((linked o q c ≡ true) × (subscribed o c t ≡ true))
  -- messages stay where they are; p has none pending and none seen
  pub now_pending : SamePending n o
  pub now_seen : SameSaw n o
  pub nothing_pending : (k : Message) → pending o p k ≡ false
  pub nothing_seen : (k : Message) → saw o p k ≡ false

pub record JoinPage (n : Network) (b : Table) (p : Peer) (j : Joining) : Type 0 where
  -- 9: p is present already
  pub refused_9 : (refusal n b (kind.Join p j) ≡ 9) ↔ (present n p ≡ true)
  -- else 15: p names itself
  pub refused_15 : (refusal n b (kind.Join p j) ≡ 15) ↔ ((present n p ≡ false) × (has j.neighbours p.0 ≡ true))
  -- else 16: a named neighbour is absent
  pub refused_16 : (refusal n b (kind.Join p j) ≡ 16)
      ↔ ((present n p ≡ false) × (has j.neighbours p.0 ≡ false) × ((q : ℕ) × (has j.neighbours q ≡ true) × (present n (peer q) ≡ false)))
  -- else it is accepted
  pub accepted : (refusal n b (kind.Join p j) ≡ 0)
      ↔ ((present n p ≡ false) × (has j.neighbours p.0 ≡ false) × ((q : ℕ) → has j.neighbours q ≡ true → present n (peer q) ≡ true))
  pub does : refusal n b (kind.Join p j) ≡ 0 → Joins n (effect n b (kind.Join p j)) p j

-- ---- the seven

-- Every number of an event that was read is in its range.
pub record FloodnetPage (n : Network) (b : Table) : Type 0 where
  pub skip : SkipPage n b
  pub produce : (p : Peer) (m : Message) → p.0 < 32 → m.0 < 64 → ProducePage n b p m
  pub forward : (p : Peer) (m : Message) → p.0 < 32 → m.0 < 64 → ForwardPage n b p m
  pub subscribe : (p : Peer) (topics : ℕ) → p.0 < 32 → topics < 2 ^ 32 → SubscribePage n b p topics
  pub unsubscribe : (p : Peer) (topics : ℕ) → p.0 < 32 → topics < 2 ^ 32 → UnsubscribePage n b p topics
  pub leave : (p : Peer) → p.0 < 32 → LeavePage n b p
  pub join : (p : Peer) (j : Joining) → p.0 < 32 → j.subs < 2 ^ 32 → j.pubs < 2 ^ 32 → j.neighbours < 2 ^ 32 → JoinPage n b p j
