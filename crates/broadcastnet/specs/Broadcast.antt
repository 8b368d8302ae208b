-- Broadcastnet, the published model's specification of a relay (document 004, section 2.1 and, for the partial broadcast, section 3): no
-- neighbours and nothing under way; a message is at once with all who receive it. Over each definition stands the name that it has in 004,
-- and in our own words what it does there. Peers, topics, messages, sets and the message table are those of document 01 (crate network). Assumes nothing.
use Rattle.std.specs.Prelude.{◌≡◌, Bool, true, false, ◌&&◌, ◌||◌, List, ℕ, eqb, get_or, set}
use Rattle.sets.specs.Set.{has, union, minus, only, with_if, set_of, Subset}
use Rattle.lists.specs.Edit.{edit}
use Rattle.network.specs.declared.Peer.{Peer}
use Rattle.network.specs.declared.Topic.{Topic}
use Rattle.network.specs.declared.Message.{Message}
use Rattle.network.specs.declared.Table.{Table}
use Rattle.network.specs.Network.{peer, topic_of, origin_of}

-- ---- the state

-- 004 keeps a record for each peer that is in the network: the topics in which it publishes, those to which it subscribes, and the messages
-- that it has taken in. Here who is in the network is `present`; a peer that is not has 0 at its place of each list.
pub record Broadcastnet : Type 0 where
  pub present : ℕ
  pub pubs : List ℕ
  pub subs : List ℕ
  pub seen : List ℕ

-- a state by its parts
abbrev pub bn : ℕ → List ℕ → List ℕ → List ℕ → Broadcastnet
bn present pubs subs seen = record { present = present; pubs = pubs; subs = subs; seen = seen }

-- What is observed: p is in the network; it publishes t; it is subscribed to t; it has m.
abbrev pub present_in : Broadcastnet → Peer → Bool
present_in s p = has s.present p.0

abbrev pub publishes_in : Broadcastnet → Peer → Topic → Bool
publishes_in s p t = has (get_or s.pubs p.0 0) t.0

abbrev pub subscribed_in : Broadcastnet → Peer → Topic → Bool
subscribed_in s p t = has (get_or s.subs p.0 0) t.0

abbrev pub saw_in : Broadcastnet → Peer → Message → Bool
saw_in s p m = has (get_or s.seen p.0 0) m.0

-- ---- the transitions

-- broadcast-partial: each of the peers named has seen m; nobody else is touched
unfoldable pub broadcast_partial : Message → ℕ → Broadcastnet → Broadcastnet
broadcast_partial m who s = bn s.present s.pubs s.subs (edit (λ q w. with_if (has who q) m.0 w) s.seen)

-- Those whom a full broadcast of m reaches: its origin, and whoever is present and subscribes to its topic.
unfoldable pub audience : Table → Message → Broadcastnet → ℕ
audience b m s = set_of 32 (λ (q : ℕ). present_in s (peer q) && (eqb q (origin_of b m).0 || subscribed_in s (peer q) (topic_of b m)))

-- broadcast: all of these have seen m at once
unfoldable pub broadcast : Table → Message → Broadcastnet → Broadcastnet
broadcast b m s = broadcast_partial m (audience b m s) s

-- subscribe-bn: the topics join those that p subscribes to
unfoldable pub subscribe : Peer → ℕ → Broadcastnet → Broadcastnet
subscribe p topics s = bn s.present s.pubs (set s.subs p.0 (union (get_or s.subs p.0 0) topics)) s.seen

-- unsubscribe-bn, which 004 leaves out as being alike: the topics leave those that p subscribes to
unfoldable pub unsubscribe : Peer → ℕ → Broadcastnet → Broadcastnet
unsubscribe p topics s = bn s.present s.pubs (set s.subs p.0 (minus (get_or s.subs p.0 0) topics)) s.seen

-- join-bn: a peer that was not in the network is, with these topics, and has seen nothing
unfoldable pub join : Peer → ℕ → ℕ → Broadcastnet → Broadcastnet
join p pubs subs s = bn (union s.present (only p.0)) (set s.pubs p.0 pubs) (set s.subs p.0 subs) (set s.seen p.0 0)

-- leave-bn: a peer that was in the network is no longer, and nothing of it is kept
unfoldable pub leave : Peer → Broadcastnet → Broadcastnet
leave p s = bn (minus s.present (only p.0)) (set s.pubs p.0 0) (set s.subs p.0 0) (set s.seen p.0 0)

-- ---- the transition relation

-- new-bn-mssgp: no peer has seen m
abbrev pub NewIn : Broadcastnet → Message → Type 0
NewIn s m = (q : Peer) → saw_in s q m ≡ false

-- broadcast-bn-pre, what a full broadcast asks: the message is new, its origin is in the network and publishes its topic
pub record MayBroadcast (b : Table) (s : Broadcastnet) (m : Message) : Type 0 where
  pub new : NewIn s m
  pub origin : present_in s (origin_of b m) ≡ true
  pub publishes : publishes_in s (origin_of b m) (topic_of b m) ≡ true

-- What a partial broadcast asks: the message is new, and those that receive it are peers of the state. Of its origin nothing is asked.
pub record MayBroadcastPartly (s : Broadcastnet) (m : Message) (who : ℕ) : Type 0 where
  pub new : NewIn s m
  pub peers : Subset who s.present

-- rel-step-bn, the transition relation: s goes to u in one step. What 004 has to find by a witness function, the message or the peer and its topics, each case names.
pub data Step (b : Table) (s u : Broadcastnet) : Type 0 where
  rel_skip : u ≡ s → Step b s u
  rel_broadcast : (m : Message) → MayBroadcast b s m → u ≡ broadcast b m s → Step b s u
  rel_broadcast_partial : (m : Message) (who : ℕ) → MayBroadcastPartly s m who → u ≡ broadcast_partial m who s → Step b s u
  rel_subscribe : (p : Peer) (topics : ℕ) → present_in s p ≡ true → u ≡ subscribe p topics s → Step b s u
  rel_unsubscribe : (p : Peer) (topics : ℕ) → present_in s p ≡ true → u ≡ unsubscribe p topics s → Step b s u
  rel_leave : (p : Peer) → present_in s p ≡ true → u ≡ leave p s → Step b s u
  rel_join : (p : Peer) (pubs subs : ℕ) → present_in s p ≡ false → u ≡ join p pubs subs s → Step b s u
